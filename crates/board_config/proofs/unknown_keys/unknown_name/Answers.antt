use Rattle.std.proofs.Common.{Some, sym, ap, ◌∙◌}
use Rattle.board_config.proofs.Names.{passes, stops}
use Rattle.board_config.proofs.unknown_keys.unknown_name.Goals as goal

pub returns-then-not-is_known : goal.returns-then-not-is_known
returns-then-not-is_known c =
    let unknown = sym c.is_known.ensures ∙ c.if-not-is_known.true in
    ap Some c.as_str-then-not-is_known.ensures.value
    ∙ sym (stops _ _ _ _ (c.in-Some.name.now, c.in-Some.field-0-1.now) _ c.in-Some.ensures.steps c.loop-name.invariant c.as_str.ensures.value unknown)

pub loop-name-preserved : goal.loop-name-preserved
loop-name-preserved c =
    let known = sym c.is_known.ensures ∙ c.if-not-is_known.false in
    passes _ _ _ _ (c.in-Some.name.now, c.in-Some.field-0-1.now) _ c.in-Some.ensures.steps c.loop-name.invariant c.as_str.ensures.value known
