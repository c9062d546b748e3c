use Rattle.object_machine.specs.Memory.{signed_half}
use Rattle.object_machine.proofs.CellLemmas.{some_half, none_half}
use Rattle.object_machine.proofs.extending.signed_half_of.Goals as goal

pub returns-in-Some-clause-value : goal.returns-in-Some-clause-value
returns-in-Some-clause-value c a b is = rw (c.sext.ensures, c.from.ensures) (some_half signed_half a b c.in-Some.half (rw c.in-Some.is at is))

pub returns-in-None-clause-value : goal.returns-in-None-clause-value
returns-in-None-clause-value c a b is = none_half signed_half a b (rw c.in-None.is at is)
