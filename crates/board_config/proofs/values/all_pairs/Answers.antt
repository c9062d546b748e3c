use Rattle.std.proofs.Common.{Some, sym, ap, ◌∙◌}
use Rattle.toml.specs.View.{view}
use Rattle.board_config.specs.Values.{pair_of}
use Rattle.board_config.proofs.Elements.{seen_none, seen_more}
use Rattle.board_config.proofs.values.all_pairs.Goals as goal

pub returns-in_default : goal.returns-in_default
returns-in_default c =
    sym (seen_none view pair_of c.args.elements.now c.loop-element.element-index c.element-item.result c.loop-element-test.true c.element-item.is (sym c.pair.ensures ∙ c.in_default.is))

pub loop-element-preserved : goal.loop-element-preserved
loop-element-preserved c =
    let read = sym c.pair.ensures ∙ c.in-Some.is in
    seen_more view pair_of c.args.elements.now c.loop-element.element-index c.element-item.result c.loop-element.pairs.items c.in-Some.pair c.loop-element-test.true c.element-item.is c.loop-element.invariant read
    ∙ ap Some (sym c.in_ok-push.ensures.items)
