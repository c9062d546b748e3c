use Rattle.std.proofs.Common.{map}
use Rattle.placement_programme.specs.Plain.{plain_var}
use Rattle.placement_programme.proofs.AscendLemmas.{number_below}
use Rattle.relocator.specs.Slots.{name_at}
use Rattle.list_checks.proofs.StepLemmas.{collect_more}
use Rattle.relink_core.proofs.choosing.names_in.Goals as goal

pub name_of-requires : goal.name_of-requires
name_of-requires c = number_below 0 _ _ _ 0 c.requires c.loop-number-test.true

pub loop-number-preserved : goal.loop-number-preserved
loop-number-preserved c =
    collect_more (name_at (map plain_var c.args.vars.now)) c.args.take.now _ _ c.name_of.result c.loop-number.number-index 0 c.loop-number-test.true c.in_ok-push.ensures.items c.loop-number.invariant c.name_of.ensures
