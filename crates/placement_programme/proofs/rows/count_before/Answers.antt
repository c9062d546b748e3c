use Rattle.std.proofs.Common.{ℕ, nat_lt, rules, arith}
use Rattle.std.proofs.lemmas.Bool.{ltb-true}
use Rattle.std.proofs.lemmas.List.Sorted.{IsPartitionPoint-from_clause, IsPartitionedBy-ltb}
use Rattle.placement_programme.specs.Bounds.{row_of}
use Rattle.placement_programme.proofs.WeightLemmas.{by_row, not_below}
use Rattle.placement_programme.proofs.rows.count_before.Goals as goal

pub returns-clause-before : goal.returns-clause-before
returns-clause-before c k before =
    let is_before = λ (w : ℕ × ℕ). nat_lt (row_of w) c.args.row in
    let parted = IsPartitionedBy-ltb row_of _ c.args.row (by_row c.requires.0 c.args.entries.now c.requires.1) in
    let point = IsPartitionPoint-from_clause is_before _ _ c.partition_point.ensures.partitioned parted (λ a r q k. search rules) in
    ltb-true _ _ (point.0 k (0, 0) (omega (arith, c.partition_point.ensures.bound)) before)

pub returns-clause-behind : goal.returns-clause-behind
returns-clause-behind c k behind below =
    let is_before = λ (w : ℕ × ℕ). nat_lt (row_of w) c.args.row in
    let parted = IsPartitionedBy-ltb row_of _ c.args.row (by_row c.requires.0 c.args.entries.now c.requires.1) in
    let point = IsPartitionPoint-from_clause is_before _ _ c.partition_point.ensures.partitioned parted (λ a r q k. search rules) in
    not_below _ _ (point.1 k (0, 0) behind below)
