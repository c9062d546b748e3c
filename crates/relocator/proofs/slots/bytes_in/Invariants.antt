use Rattle.std.proofs.Common.{◌≡◌, ◌+◌, drop}
use Rattle.relocator.specs.Slots.{bytes_in}
use Rattle.relocator.proofs.slots.bytes_in.Given as goal

-- what is counted and what is left
abbrev pub invariant-loop-item : goal.invariant-loop-item
invariant-loop-item l = l.total + bytes_in l.lane (drop l.item-index l.items) ≡ bytes_in l.lane l.items
