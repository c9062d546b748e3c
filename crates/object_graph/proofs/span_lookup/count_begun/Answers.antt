use Rattle.std.proofs.Common.{nat_le, rules, arith}
use Rattle.std.proofs.lemmas.Bool.{leb-true}
use Rattle.std.proofs.lemmas.List.Sorted.{IsPartitionPoint-from_clause, IsPartitionedBy-leb}
use Rattle.board_config.specs.declared.board.Range.{Range}
use Rattle.object_graph.specs.Sites.{no_area}
use Rattle.object_graph.proofs.DisjointLemmas.{by_start, above}
use Rattle.object_graph.proofs.span_lookup.count_begun.Goals as goal

pub returns-clause-begun : goal.returns-clause-begun
returns-clause-begun c k before =
    let parted = IsPartitionedBy-leb (λ r. r.base) _ c.args.address (by_start (λ r. r.base) (λ r. r.size) c.args.ranges.now c.requires) in
    let point = IsPartitionPoint-from_clause (λ (r : Range). nat_le r.base c.args.address) _ _ c.partition_point.ensures.partitioned parted (λ a r q k. search rules) in
    leb-true _ _ (point.0 k no_area (omega arith) before)

pub returns-clause-later : goal.returns-clause-later
returns-clause-later c k behind below =
    let parted = IsPartitionedBy-leb (λ r. r.base) _ c.args.address (by_start (λ r. r.base) (λ r. r.size) c.args.ranges.now c.requires) in
    let point = IsPartitionPoint-from_clause (λ (r : Range). nat_le r.base c.args.address) _ _ c.partition_point.ensures.partitioned parted (λ a r q k. search rules) in
    above _ _ (point.1 k no_area behind below)
