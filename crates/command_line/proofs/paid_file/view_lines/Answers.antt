use Rattle.placement_programme.specs.Views.{plain_programme, plain_choice}
use Rattle.energy_model.specs.Scenes.{scene_of}
use Rattle.relinking.proofs.Energies.{within_base}
use Rattle.command_line.proofs.Paying.{no_fault_counted}
use Rattle.command_line.proofs.paid_file.view_lines.Goals as goal

pub energy-modelled-requires-clause-gain : goal.energy-modelled-requires-clause-gain
energy-modelled-requires-clause-gain c =
    let o = c.args.opened.now in
    let states = c.requires.counts.states in
    within_base (scene_of o.analysis.graph o.analysis.code o.analysis.regions o.board) states.transitions (plain_programme c.args.measured.now.programme) states.energies
    (plain_choice c.args.choice.now) c.requires.feasible

pub modelled_lines-requires : goal.modelled_lines-requires
modelled_lines-requires c = no_fault_counted c.args.input.now c.args.opened.now c.args.measured.now c.requires.counts
