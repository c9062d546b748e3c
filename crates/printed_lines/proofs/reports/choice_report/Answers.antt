use Rattle.placement_programme.specs.Views.{plain_choice}
use Rattle.printed_lines.proofs.reports.choice_report.Goals as goal

pub energy-after-requires-clause-gain : goal.energy-after-requires-clause-gain
energy-after-requires-clause-gain c = c.requires.within (plain_choice c.args.choice.now) c.requires.feasible
