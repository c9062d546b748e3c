use Rattle.std.proofs.Common.{◌≡◌, ◌+◌, ℕ, get_or, sym, subst}
use Rattle.std.proofs.Math.ListN.{set}
use Rattle.relocator.specs.Slots.{lane_of, moved_on}
use Rattle.relocator.specs.Laying.{next_in}
use Rattle.relocator.proofs.LayLemmas.{next_moved}
use Rattle.relocator.proofs.slots.next_slot.Goals as goal

pub returns-clause-moved : goal.returns-clause-moved
returns-clause-moved c =
    let next = c.args.next.now.items in
    let at : ℕ = c.index-at.result.now in
    let lane = c.lane_of-lane.ensures in
    let read : at ≡ get_or next (lane_of c.args.item.now.name) at = subst (λ (n : ℕ). at ≡ get_or next n at) lane c.index-at.ensures in
    subst (λ (n : ℕ). next_in (set next n (at + c.args.item.now.span)) ≡ moved_on (next_in next) c.args.item.now) (sym lane)
    (next_moved next c.args.item.now at c.requires.lane read)
