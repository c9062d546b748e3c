use Rattle.std.proofs.Common.{Some, map, option_map, refl, sym, ap, ◌∙◌}
use Rattle.toml.specs.View.{view}
use Rattle.board_config.specs.Values.{texts_of}
use Rattle.board_config.specs.Board.{plain_texts}
use Rattle.board_config.proofs.Elements.{seen_none, seen_more, pushed_plain}
use Rattle.board_config.proofs.values.all_text_lists.Goals as goal

pub returns-in_default : goal.returns-in_default
returns-in_default c =
    let read = sym c.in_ok-list.ensures ∙ ap (option_map plain_texts) c.in_default.is in
    sym (seen_none view texts_of c.args.elements.now c.loop-element.element-index c.element-item.result c.loop-element-test.true c.element-item.is read)

pub loop-element-preserved : goal.loop-element-preserved
loop-element-preserved c =
    let read = sym c.in_ok-list.ensures ∙ ap (option_map plain_texts) c.in-Some.is in
    let pushed = pushed_plain plain_texts c.loop-element.lists.items c.push.new.self.items c.in-Some.list (plain_texts c.in-Some.list) c.in_ok-push.ensures.items refl in
    seen_more view texts_of c.args.elements.now c.loop-element.element-index c.element-item.result (map plain_texts c.loop-element.lists.items) (plain_texts c.in-Some.list) c.loop-element-test.true c.element-item.is c.loop-element.invariant read
    ∙ ap Some pushed
