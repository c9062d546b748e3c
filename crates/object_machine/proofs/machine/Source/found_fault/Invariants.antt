use Rattle.std.proofs.Common.{◌≡◌, None}
use Rattle.list_checks.specs.First.{first_below}
use Rattle.object_machine.specs.Places.{fault_from}
use Rattle.object_machine.specs.Machine.{seen}
use Rattle.object_machine.proofs.machine.Source.found_fault.Given as goal

-- the bytes so far are fixed memory
abbrev pub invariant-loop-i : goal.invariant-loop-i
invariant-loop-i l = first_below (fault_from (seen l.self) l.at) l.i ≡ None
