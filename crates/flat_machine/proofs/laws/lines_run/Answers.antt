use Rattle.flat_machine.proofs.Lines.{line_does}
use Rattle.flat_machine.proofs.laws.lines_run.Goals as goal

pub returns : goal.returns
returns c = line_does
