use Rattle.std.proofs.Common.{◌∙◌, sym}
use Rattle.block_splitter.proofs.LookupLemmas.{none_inside, other_inside}
use Rattle.block_splitter.proofs.copy_lookups.block_inside.Goals as goal

pub returns-in-None : goal.returns-in-None
returns-in-None c = none_inside c.args.plan.now.code.now c.args.plan.now.range c.args.address c.in-None.ensures

pub returns-else-holds_block : goal.returns-else-holds_block
returns-else-holds_block c =
    other_inside c.args.plan.now c.args.address c.in-Some.block c.requires c.in-Some.ensures.0 c.in-Some.ensures.1 (sym c.holds_block.ensures ∙ c.if-holds_block.false)
