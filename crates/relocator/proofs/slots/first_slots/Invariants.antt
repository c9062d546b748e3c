use Rattle.std.proofs.Common.{◌≡◌, length}
use Rattle.relocator.specs.Slots.{first_slots}
use Rattle.relocator.specs.Laying.{next_in, AgreeBelow}
use Rattle.relocator.proofs.slots.first_slots.Given as goal

-- the lanes so far
abbrev pub invariant-loop-lane : goal.invariant-loop-lane
invariant-loop-lane l = record {
  long : length l.next.items ≡ l.lane;
  first : AgreeBelow l.lane (next_in l.next.items) (first_slots l.fn.base l.items);
}
