use Rattle.std.proofs.Common.{Some, string_bytes, map, sym, ap, ◌∙◌}
use Rattle.toml.specs.Data.{as_str}
use Rattle.toml.specs.View.{view}
use Rattle.board_config.proofs.Elements.{seen_none, seen_more, pushed_plain}
use Rattle.board_config.proofs.values.all_texts.Goals as goal

pub returns-in_default : goal.returns-in_default
returns-in_default c =
    sym (seen_none view as_str c.args.elements.now c.loop-element.element-index c.element-item.result c.loop-element-test.true c.element-item.is (sym c.in_default.ensures))

pub loop-element-preserved : goal.loop-element-preserved
loop-element-preserved c =
    let pushed = pushed_plain string_bytes c.loop-element.texts.items c.push.new.self.items c.in_ok-text.text c.in-Some.text.now c.in_ok-push.ensures.items c.in_ok-text.ensures.ok in
    seen_more view as_str c.args.elements.now c.loop-element.element-index c.element-item.result (map string_bytes c.loop-element.texts.items) c.in-Some.text.now c.loop-element-test.true c.element-item.is c.loop-element.invariant (sym c.in-Some.ensures)
    ∙ ap Some pushed
