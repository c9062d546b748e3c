use Rattle.std.proofs.Common.{rules}
use Rattle.std.proofs.lemmas.List.Sorted.{IsPartitionPoint-from_clause, IsPartitionedBy-ltb}
use Rattle.list_checks.specs.Sorted.{is_under}
use Rattle.list_checks.proofs.SortedLemmas.{point_counts}
use Rattle.list_checks.proofs.search.count_under.Goals as goal

pub returns : goal.returns
returns c =
    let parted = IsPartitionedBy-ltb (λ x. x) _ c.args.bound c.requires in
    let point = IsPartitionPoint-from_clause (is_under c.args.bound) _ _ c.partition_point.ensures.partitioned parted (λ a r q k. search rules) in
    point_counts (is_under c.args.bound) c.args.sorted.now c.partition_point.result c.partition_point.ensures.bound point
