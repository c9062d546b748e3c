use Rattle.std.proofs.Common.{nat_le, rules}
use Rattle.std.proofs.lemmas.List.Sorted.{IsPartitionPoint-from_clause}
use Rattle.code_blocks.specs.declared.parts.Block.{Block}
use Rattle.code_blocks.proofs.NumberLemmas.{blocks_begun}
use Rattle.code_blocks.proofs.parts.Code.blocks_up_to.Goals as goal

pub returns-clause-bound : goal.returns-clause-bound
returns-clause-bound c = rw c.deref.ensures.value at c.partition_point.ensures.bound

pub returns-clause-point : goal.returns-clause-point
returns-clause-point c =
    let blocks = c.args.self.now.blocks in
    let address = c.args.address in
    let point = IsPartitionPoint-from_clause (λ (b : Block). nat_le b.start address) c.deref.result.now c.partition_point.result c.partition_point.ensures.partitioned
    (rw c.deref.ensures.value (blocks_begun blocks.items address c.requires)) (λ a r q k. search rules) in
    rw c.deref.ensures.value at point
