use Rattle.std.proofs.Common.{nat_lt, rules, arith}
use Rattle.std.proofs.lemmas.List.Sorted.{IsPartitionPoint-from_clause}
use Rattle.profile_runner.specs.declared.counts.Edge.{Edge}
use Rattle.profile_runner.proofs.EdgeLemmas.{parted, found_at, gap_at, gap_there}
use Rattle.profile_runner.proofs.edges.search_edge.Goals as goal

pub returns-then-place-row : goal.returns-then-place-row
returns-then-place-row c =
    let place = c.partition_point-place in
    gap_at c.args.row.now c.args.to place.result (IsPartitionPoint-from_clause (λ (e : Edge). nat_lt e.to c.args.to) c.args.row.now place.result place.ensures.partitioned (parted 0 c.args.to c.args.row.now c.requires) (λ a r q k. search rules)) place.ensures.bound (λ d below is. absurd (omega (arith, below, c.if-place-row.true)))

pub returns-then-row-place : goal.returns-then-row-place
returns-then-row-place c =
    let place = c.partition_point-place in
    found_at c.args.row.now c.args.to place.result _ (IsPartitionPoint-from_clause (λ (e : Edge). nat_lt e.to c.args.to) c.args.row.now place.result place.ensures.partitioned (parted 0 c.args.to c.args.row.now c.requires) (λ a r q k. search rules)) (omega (arith, place.ensures.bound, c.if-place-row.false)) c.if-row-place.true

pub returns-else-row-place : goal.returns-else-row-place
returns-else-row-place c =
    let place = c.partition_point-place in
    gap_there c.args.row.now c.args.to place.result _ (IsPartitionPoint-from_clause (λ (e : Edge). nat_lt e.to c.args.to) c.args.row.now place.result place.ensures.partitioned (parted 0 c.args.to c.args.row.now c.requires) (λ a r q k. search rules)) (omega (arith, place.ensures.bound, c.if-place-row.false)) c.if-row-place.false
