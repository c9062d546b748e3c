use Rattle.elf_reader.specs.File.{segments_of}
use Rattle.board_config.specs.Board.{mapped_ranges}
use Rattle.flat_machine.specs.Start.{start_of}
use Rattle.placement_programme.specs.Views.{plain_choice}
use Rattle.command_line.proofs.Paying.{few_steps, choice_for, runs_made}
use Rattle.command_line.proofs.paid_file.exited_lines.Goals as goal

pub enough_steps-limit-requires-clause-few : goal.enough_steps-limit-requires-clause-few
enough_steps-limit-requires-clause-few c = few_steps c.args.input.now c.args.opened.now c.args.measured.now c.requires.counts

pub inward-requires-clause-choice : goal.inward-requires-clause-choice
inward-requires-clause-choice c =
    choice_for c.requires.opened.0 c.args.input.now c.args.opened.now c.args.measured.now (plain_choice c.args.choice.now) c.requires.opened.1 c.requires.counts c.requires.feasible

pub returns-in-Ok : goal.returns-in-Ok
returns-in-Ok c =
    runs_made c.args.opened.now c.args.measured.now (plain_choice c.args.choice.now) (start_of c.args.view.now.entry (segments_of c.args.view.now) (mapped_ranges c.args.opened.now.board) c.args.input.now)
    _ c.in_ok-run.run'.outcome c.in_ok-run.run'.steps c.in_ok-run.run'.energy c.enough_steps-limit.result c.in_ok-calls.calls c.takes_nothing-nothing.result _
    c.in_ok-machine.ensures c.enough_steps-limit.ensures.is c.takes_nothing-nothing.ensures c.in_ok-calls.ensures c.in_ok-run.ensures c.in-Ok.ensures
