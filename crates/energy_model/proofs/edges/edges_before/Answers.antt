use Rattle.std.proofs.Common.{rules, nat_lt}
use Rattle.std.proofs.lemmas.List.Sorted.{IsPartitionPoint-from_clause, IsPartitionedBy-ltb}
use Rattle.energy_model.proofs.EdgeLemmas.{starts_there, from_rising, is_from}
use Rattle.energy_model.proofs.edges.edges_before.Goals as goal

pub returns : goal.returns
returns c =
    let edges = c.args.edges.now in
    let parted = IsPartitionedBy-ltb is_from edges c.args.a (from_rising edges c.requires) in
    let point = IsPartitionPoint-from_clause (λ e. nat_lt e.from c.args.a) _ _ c.partition_point.ensures.partitioned parted (λ a r q k. search rules) in
    starts_there edges c.args.a c.partition_point.result c.partition_point.ensures.bound point
