use Rattle.std.proofs.Common.{◌≡◌, ◌++◌, drop, length}
use Rattle.relocator.specs.Slots.{lane_count, slots_from, slots_of}
use Rattle.relocator.specs.Laying.{next_in}
use Rattle.relocator.proofs.slots.slots.Given as goal

-- the slots so far, and what is left
abbrev pub invariant-loop-item : goal.invariant-loop-item
invariant-loop-item l = record {
  long : length l.next.items ≡ lane_count l.fn.regions;
  slots : l.slots.items ++ slots_from (next_in l.next.items) (drop l.item-index l.items) ≡ slots_of l.fn.base l.items;
}
