use Rattle.std.proofs.Common.{ℕ, List, length, slice_index, nat_lt, rules, ◌∙◌, ap, arith}
use Rattle.std.proofs.lemmas.List.{length-map}
use Rattle.std.proofs.lemmas.List.Sorted.{IsPartitionPoint-from_clause, IsPartitionedBy-ltb}
use Rattle.patch_code.specs.Serving.{serving_home, serving_size}
use Rattle.patch_code.specs.StubPlans.{seen_stub, serving_stubs}
use Rattle.patch_code.proofs.Order.{seen_home, rising, point_bytes}
use Rattle.patch_code.proofs.WholePlans.{place_at, places_count, places_small}
use Rattle.patch_code.proofs.serving.bytes_before.Goals as goal

pub returns-clause-value : goal.returns-clause-value
returns-clause-value c =
    let parted = IsPartitionedBy-ltb (seen_home seen_stub serving_home) c.args.ordered.now c.args.home (rising seen_stub serving_home c.args.ordered.now c.requires.ascend) in
    let point =
    IsPartitionPoint-from_clause (λ s. nat_lt (seen_home seen_stub serving_home s) c.args.home) _ _ c.partition_point.ensures.partitioned parted
    (λ a r q k. search rules) in
    let same = ap (λ (xs : List ℕ). slice_index xs c.partition_point.result) c.requires.offsets in
    let there = place_at 0 c.args.ordered.now c.partition_point.result c.partition_point.ensures.bound in
    let bytes =
    point_bytes seen_stub serving_home serving_size c.args.home c.args.ordered.now c.partition_point.result c.partition_point.ensures.bound point in
    omega (arith, same, there, bytes)

pub bounds-offsets-partition_point : goal.bounds-offsets-partition_point
bounds-offsets-partition_point c =
    let count = ap (λ (xs : List ℕ). length xs) c.requires.offsets ∙ places_count 0 (serving_stubs c.args.ordered.now) in
    let mapped = length-map c.args.ordered.now seen_stub in
    let most = c.partition_point.ensures.bound in
    omega (arith, count, mapped, most)

pub returns-clause-bound : goal.returns-clause-bound
returns-clause-bound c =
    let mapped = length-map c.args.ordered.now seen_stub in
    let most = c.partition_point.ensures.bound in
    let small = places_small 0 (serving_stubs c.args.ordered.now) c.partition_point.result (omega (arith, mapped, most)) in
    let same = ap (λ (xs : List ℕ). slice_index xs c.partition_point.result) c.requires.offsets in
    omega (arith, small, same)
