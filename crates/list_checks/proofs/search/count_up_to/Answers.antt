use Rattle.std.proofs.Common.{rules}
use Rattle.std.proofs.lemmas.List.Sorted.{IsPartitionPoint-from_clause, IsPartitionedBy-leb}
use Rattle.list_checks.specs.Sorted.{is_up_to}
use Rattle.list_checks.proofs.SortedLemmas.{point_counts}
use Rattle.list_checks.proofs.search.count_up_to.Goals as goal

pub returns : goal.returns
returns c =
    let parted = IsPartitionedBy-leb (λ x. x) _ c.args.bound c.requires in
    let point = IsPartitionPoint-from_clause (is_up_to c.args.bound) _ _ c.partition_point.ensures.partitioned parted (λ a r q k. search rules) in
    point_counts (is_up_to c.args.bound) c.args.sorted.now c.partition_point.result c.partition_point.ensures.bound point
