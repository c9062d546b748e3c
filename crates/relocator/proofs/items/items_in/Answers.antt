use Rattle.std.proofs.Common.{map}
use Rattle.placement_programme.specs.Plain.{plain_var}
use Rattle.placement_programme.proofs.AscendLemmas.{number_below}
use Rattle.relocator.proofs.ItemLemmas.{item_more}
use Rattle.relocator.proofs.items.items_in.Goals as goal

pub item_of-requires-clause-below : goal.item_of-requires-clause-below
item_of-requires-clause-below c = number_below 0 _ _ _ 0 c.requires.numbers c.loop-number-test.true

pub loop-number-preserved : goal.loop-number-preserved
loop-number-preserved c =
    item_more (map plain_var c.args.vars.now) c.args.take.now _ _ c.item_of.result c.loop-number.number-index 0 c.loop-number-test.true c.in_ok-push.ensures.items c.loop-number.invariant c.item_of.ensures
