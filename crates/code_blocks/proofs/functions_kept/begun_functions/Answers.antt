use Rattle.std.proofs.Common.{nat_le, rules}
use Rattle.std.proofs.lemmas.List.Sorted.{IsPartitionPoint-from_clause}
use Rattle.code_blocks.specs.declared.parts.Function.{Function}
use Rattle.code_blocks.proofs.OwnerLemmas.{starts_rise}
use Rattle.code_blocks.proofs.functions_kept.begun_functions.Goals as goal

pub returns-clause-point : goal.returns-clause-point
returns-clause-point c =
    let functions = c.args.functions.now in
    let address = c.args.address in
    IsPartitionPoint-from_clause (λ (f : Function). nat_le f.start address) functions c.partition_point.result c.partition_point.ensures.partitioned (starts_rise functions address c.requires) (λ a r q k. search rules)
