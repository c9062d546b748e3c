use Rattle.std.proofs.Common.{◌∙◌}
use Rattle.block_splitter.proofs.LookupLemmas.{found_or}
use Rattle.block_splitter.proofs.copy_lookups.is_inside.Goals as goal

pub returns : goal.returns
returns c = c.is_some.ensures ∙ found_or c.args.plan.now c.args.address c.block_inside.result c.requires c.block_inside.ensures
