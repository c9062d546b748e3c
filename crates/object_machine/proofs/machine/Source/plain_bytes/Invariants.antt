use Rattle.std.proofs.Common.{◌≡◌, Some}
use Rattle.object_machine.specs.Calls.{plain_bytes}
use Rattle.object_machine.specs.Machine.{seen, seen_state}
use Rattle.object_machine.proofs.machine.Source.plain_bytes.Given as goal

-- the bytes so far are plain numbers
abbrev pub invariant-loop-i : goal.invariant-loop-i
invariant-loop-i l = plain_bytes (seen l.self) (seen_state l.self) l.i ≡ Some l.bytes.items
