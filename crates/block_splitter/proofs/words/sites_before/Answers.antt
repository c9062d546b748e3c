use Rattle.std.proofs.Common.{nat_lt, rules}
use Rattle.std.proofs.lemmas.List.Sorted.{IsPartitionPoint-from_clause}
use Rattle.block_splitter.specs.Copies.{Patch, address_in}
use Rattle.block_splitter.proofs.PatchLemmas.{sites_rise}
use Rattle.block_splitter.proofs.words.sites_before.Goals as goal

pub returns-clause-point : goal.returns-clause-point
returns-clause-point c =
    IsPartitionPoint-from_clause (λ (p : Patch). nat_lt (address_in p) c.args.address) c.args.sites.now c.partition_point.result c.partition_point.ensures.partitioned
    (sites_rise c.args.sites.now c.args.address c.requires) (λ a r q k. search rules)
