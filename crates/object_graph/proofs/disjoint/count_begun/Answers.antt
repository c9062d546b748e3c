use Rattle.std.proofs.Common.{nat_le, rules, arith}
use Rattle.std.proofs.lemmas.Bool.{leb-true}
use Rattle.std.proofs.lemmas.List.Sorted.{IsPartitionPoint-from_clause, IsPartitionedBy-leb}
use Rattle.loaded_file.specs.declared.byte_ranges.ByteRange.{ByteRange}
use Rattle.loaded_file.specs.ByteRanges.{no_byte_range}
use Rattle.object_graph.proofs.DisjointLemmas.{by_start, above}
use Rattle.object_graph.proofs.disjoint.count_begun.Goals as goal

pub returns-clause-begun : goal.returns-clause-begun
returns-clause-begun c k before =
    let begins = λ (e : ByteRange). nat_le e.home c.args.address in
    let parted = IsPartitionedBy-leb (λ e. e.home) _ c.args.address (by_start (λ e. e.home) (λ e. e.size) c.args.ranges.now c.requires) in
    let point = IsPartitionPoint-from_clause begins _ _ c.partition_point.ensures.partitioned parted (λ a r q k. search rules) in
    leb-true _ _ (point.0 k no_byte_range (omega arith) before)

pub returns-clause-later : goal.returns-clause-later
returns-clause-later c k behind below =
    let begins = λ (e : ByteRange). nat_le e.home c.args.address in
    let parted = IsPartitionedBy-leb (λ e. e.home) _ c.args.address (by_start (λ e. e.home) (λ e. e.size) c.args.ranges.now c.requires) in
    let point = IsPartitionPoint-from_clause begins _ _ c.partition_point.ensures.partitioned parted (λ a r q k. search rules) in
    above _ _ (point.1 k no_byte_range behind below)
