use Rattle.std.proofs.Common.{nat_lt, rules}
use Rattle.std.proofs.lemmas.List.Sorted.{IsPartitionPoint-from_clause, IsPartitionedBy-ltb}
use Rattle.relink_core.specs.declared.unit_forms.UnitAt.{UnitAt}
use Rattle.compare_runner.proofs.FormLemmas.{stands_at, forms_rise}
use Rattle.compare_runner.proofs.forms.forms_before.Goals as goal

pub returns-clause-point : goal.returns-clause-point
returns-clause-point c =
    let units = c.args.units.now in
    let parted = IsPartitionedBy-ltb stands_at units c.args.at (forms_rise units c.requires) in
    IsPartitionPoint-from_clause (λ (x : UnitAt). nat_lt x.at c.args.at) units c.partition_point.result c.partition_point.ensures.partitioned parted (λ a r q k. search rules)
