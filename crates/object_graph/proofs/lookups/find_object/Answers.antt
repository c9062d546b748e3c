use Rattle.std.proofs.Common.{◌≡◌, ◌∙◌, ◌<◌, ◌-◌, nat_le, length, sym, arith, rules}
use Rattle.std.proofs.lemmas.List.Sorted.{IsPartitionPoint-from_clause}
use Rattle.object_graph.specs.declared.parts.Object.{Object}
use Rattle.object_graph.proofs.LookupLemmas.{parted_objects, begun, none_inside, place_fits}
use Rattle.object_graph.proofs.lookups.find_object.Goals as goal
use Rattle.object_graph.proofs.lookups.find_object.Goals.{then-count-eq0-via-then-count-eq0, then-count-eq0-via-else-count-eq0+then-not-has_byte}

pub returns-then-count-eq0 : goal.returns-then-count-eq0
returns-then-count-eq0 c =
    let objects = c.args.objects.now in
    let count = c.partition_point-count in
    let point = IsPartitionPoint-from_clause (λ (o : Object). nat_le o.home c.args.address) objects count.result count.ensures.partitioned (parted_objects objects c.args.address c.requires) (λ b r q k. search rules) in
    let parted = begun objects c.args.address count.result point in
    elim c.then-count-eq0.branch [
      | then-count-eq0-via-then-count-eq0 w ↦ none_inside objects c.args.address count.result c.requires parted count.ensures.bound (λ some. absurd (omega (arith, some, w.if-count-eq0.true)))
      | then-count-eq0-via-else-count-eq0+then-not-has_byte w ↦ none_inside objects c.args.address count.result c.requires parted count.ensures.bound (λ some. sym w.has_byte.ensures ∙ w.if-not-has_byte.true)
    ]

pub overflow_cast-result : goal.overflow_cast-result
overflow_cast-result c =
    let bound = c.partition_point-count.ensures.bound in
    let inside_list : c.partition_point-count.result - 1 < length c.args.objects.now = omega (arith, bound, c.if-count-eq0.false) in
    let least = place_fits c.args.objects.now c.args.address (c.partition_point-count.result - 1) c.requires inside_list (sym c.has_byte.ensures ∙ c.if-not-has_byte.false) in
    let fits = c.ranges.address in
    omega (arith, least, fits)

pub returns : goal.returns
returns c =
    let bound = c.partition_point-count.ensures.bound in
    (omega (arith, bound, c.if-count-eq0.false), sym c.has_byte.ensures ∙ c.if-not-has_byte.false)
