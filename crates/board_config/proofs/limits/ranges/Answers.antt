use Rattle.std.proofs.Common.{pos, Some, sym, ap, ◌∙◌}
use Rattle.board_config.specs.Limits.{range_of}
use Rattle.board_config.proofs.Elements.{all_none, all_more}
use Rattle.board_config.proofs.limits.ranges.Goals as goal

pub returns-in_default : goal.returns-in_default
returns-in_default c =
    sym (all_none range_of c.args.pairs.now c.loop-pair.pair-index (pos 0, pos 0) c.loop-pair-test.true (sym c.range.ensures ∙ c.in_default.is))

pub loop-pair-preserved : goal.loop-pair-preserved
loop-pair-preserved c =
    let read = sym c.range.ensures ∙ c.in-Some.is in
    all_more range_of c.args.pairs.now c.loop-pair.pair-index (pos 0, pos 0) c.loop-pair.ranges.items c.in-Some.range c.loop-pair-test.true c.loop-pair.invariant read
    ∙ ap Some (sym c.in_ok-push.ensures.items)
