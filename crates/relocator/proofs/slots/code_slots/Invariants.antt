use Rattle.std.proofs.Common.{◌≡◌, ◌++◌, drop}
use Rattle.relocator.specs.Slots.{code_slots}
use Rattle.relocator.proofs.slots.code_slots.Given as goal

abbrev pub invariant-loop-slot : goal.invariant-loop-slot
invariant-loop-slot l = l.code.items ++ code_slots (drop l.slot-index l.slots) ≡ code_slots l.slots
