use Rattle.std.proofs.Common.{◌≡◌, ℕ, ◌+◌, ◌-◌, ◌<◌, nat_le, rules, sym, subst, arith}
use Rattle.std.proofs.lemmas.List.Sorted.{IsPartitionPoint-from_clause, IsPartitionedBy-leb}
use Rattle.loaded_file.specs.declared.reaches.Reach.{Reach}
use Rattle.loaded_file.specs.Reaches.{reach_at}
use Rattle.loaded_file.proofs.ReachLemmas.{none_over, some_over}
use Rattle.loaded_file.proofs.reaches.section_over.Goals as goal

pub returns-then-begun-eq0 : goal.returns-then-begun-eq0
returns-then-begun-eq0 c kind v are =
    let point = IsPartitionPoint-from_clause (λ (r : Reach). nat_le r.start c.args.address) c.args.reaches.now c.partition_point-begun.result c.partition_point-begun.ensures.partitioned (IsPartitionedBy-leb (λ r. r.start) c.args.reaches.now c.args.address are.ascending) (λ a r q k. search rules) in
    none_over kind v c.args.reaches.now c.args.address c.args.size c.partition_point-begun.result are c.partition_point-begun.ensures.bound point (λ i is. absurd (omega arith))

pub returns-then-from-last : goal.returns-then-from-last
returns-then-from-last c kind v are =
    let begun = c.partition_point-begun.result in
    let point = IsPartitionPoint-from_clause (λ (r : Reach). nat_le r.start c.args.address) c.args.reaches.now begun c.partition_point-begun.ensures.partitioned (IsPartitionedBy-leb (λ r. r.start) c.args.reaches.now c.args.address are.ascending) (λ a r q k. search rules) in
    some_over kind v c.args.reaches.now c.args.address c.args.size begun (begun - 1) are c.partition_point-begun.ensures.bound point (omega arith) (omega arith)

pub returns-else-from-last : goal.returns-else-from-last
returns-else-from-last c kind v are =
    let begun = c.partition_point-begun.result in
    let point = IsPartitionPoint-from_clause (λ (r : Reach). nat_le r.start c.args.address) c.args.reaches.now begun c.partition_point-begun.ensures.partitioned (IsPartitionedBy-leb (λ r. r.start) c.args.reaches.now c.args.address are.ascending) (λ a r q k. search rules) in
    none_over kind v c.args.reaches.now c.args.address c.args.size begun are c.partition_point-begun.ensures.bound point (λ i is.
    let last : i ≡ begun - 1 = omega (arith, is) in
    let short = c.if-from-last.false in
    subst (λ (j : ℕ). (reach_at c.args.reaches.now j).furthest_end < c.args.address + c.args.size) (sym last) (omega arith))
