use Rattle.std.proofs.Common.{◌∙◌, List, ◌++◌, ap}
use Rattle.relocator.specs.declared.slots.Slot.{Slot}
use Rattle.relocator.specs.Slots.{lane_count, first_slots, slots_from}
use Rattle.relocator.specs.Laying.{next_in}
use Rattle.relocator.proofs.LayLemmas.{same_slots, next_room}
use Rattle.relocator.proofs.slots.slots.Goals as goal

pub loop-item-init : goal.loop-item-init
loop-item-init c =
    let same = same_slots (lane_count c.args.regions) (next_in c.in_ok-next.next.items) (first_slots c.args.base c.args.items.now) c.args.items.now c.requires.lanes c.in_ok-next.ensures.first in
    record { long = c.in_ok-next.ensures.long; slots = ap (λ (out : List Slot). out ++ slots_from (next_in c.in_ok-next.next.items) c.args.items.now) c.new-slots.ensures.items ∙ same }

pub next_slot-requires-clause-room : goal.next_slot-requires-clause-room
next_slot-requires-clause-room c =
    next_room c.args.base c.args.regions c.args.items.now c.loop-item.slots.items (next_in c.loop-item.next.items) c.loop-item.item-index _ c.loop-item-test.true c.loop-item.invariant.slots c.requires.room
