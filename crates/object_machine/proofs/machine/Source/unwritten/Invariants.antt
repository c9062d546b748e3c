use Rattle.std.proofs.Common.{◌≡◌, None}
use Rattle.list_checks.specs.First.{first_below}
use Rattle.object_machine.specs.Calls.{unwritten}
use Rattle.object_machine.specs.Machine.{seen, seen_state}
use Rattle.object_machine.proofs.machine.Source.unwritten.Given as goal

-- the bytes so far can be written
abbrev pub invariant-loop-i : goal.invariant-loop-i
invariant-loop-i l = first_below (unwritten (seen l.self) (seen_state l.self)) l.i ≡ None
