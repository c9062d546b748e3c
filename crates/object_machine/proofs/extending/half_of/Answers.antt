use Rattle.object_machine.specs.Memory.{same_number}
use Rattle.object_machine.proofs.CellLemmas.{some_half, none_half}
use Rattle.object_machine.proofs.extending.half_of.Goals as goal

pub returns-in-Some-clause-value : goal.returns-in-Some-clause-value
returns-in-Some-clause-value c a b is = rw c.from.ensures (some_half same_number a b c.in-Some.half (rw c.in-Some.is at is))

pub returns-in-None-clause-value : goal.returns-in-None-clause-value
returns-in-None-clause-value c a b is = none_half same_number a b (rw c.in-None.is at is)
