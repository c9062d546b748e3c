use Rattle.dataflow.proofs.MarkLemmas.{marks_among}
use Rattle.dataflow.proofs.registers.among.Goals as goal

pub returns : goal.returns
returns c x = rw c.from.ensures (marks_among c.args.word c.args.set.bits x)
