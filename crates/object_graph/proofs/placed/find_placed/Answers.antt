use Rattle.std.proofs.Common.{◌≡◌, ◌∙◌, ◌<◌, nat_lt, length, get_or, sym, ap, arith, rules}
use Rattle.std.proofs.lemmas.List.{get_or_default}
use Rattle.std.proofs.lemmas.List.Sorted.{IsPartitionPoint-from_clause}
use Rattle.object_graph.proofs.SearchLemmas.{parts, parted_at, rises_in_order, find_none, find_some}
use Rattle.object_graph.proofs.placed.find_placed.Goals as goal
use Rattle.object_graph.proofs.placed.find_placed.Goals.{then-place-list-via-then-place-list, then-place-list-via-else-place-list+then-address}

pub returns-then-place-list : goal.returns-then-place-list
returns-then-place-list g c test =
    let at = g.T.Placed.place in
    let xs = c.args.list.now in
    let a = c.args.address in
    let place = c.partition_point-place in
    let point = IsPartitionPoint-from_clause (λ x. nat_lt (at x) a) xs place.result place.ensures.partitioned (parted_at at xs a c.requires) (λ b r q k. search rules) in
    let parted = parts at xs a place.result point in
    let rises = rises_in_order at xs c.requires in
    elim c.then-place-list.branch [
      | then-place-list-via-then-place-list w ↦ find_none at test xs a place.result parted rises (λ d below. absurd (omega (arith, below, w.if-place-list.true)))
      | then-place-list-via-else-place-list+then-address w ↦
          find_none at test xs a place.result parted rises
          (λ d below same. w.if-address.true (w.address.ensures ∙ ap at (w.index-list-place.is ∙ get_or_default xs place.result w.index-list-place.result d below) ∙ same))
    ]

pub returns : goal.returns
returns g c test =
    let at = g.T.Placed.place in
    let xs = c.args.list.now in
    let place = c.partition_point-place in
    let read = c.index-list-place in
    let bound = place.ensures.bound in
    let inside : place.result < length xs = omega (arith, bound, c.if-place-list.false) in
    let here : at (get_or xs place.result read.result) ≡ c.args.address = ap at (sym read.is) ∙ sym c.address.ensures ∙ c.if-address.false in
    ap test (c.index-list-place-2.is ∙ get_or_default xs place.result c.index-list-place-2.result read.result inside)
    ∙ find_some at test xs c.args.address place.result read.result (rises_in_order at xs c.requires) inside here
