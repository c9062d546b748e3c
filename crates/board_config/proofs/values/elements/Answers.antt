use Rattle.std.proofs.Common.{List, map, Some, option_map, sym, ap, ◌∙◌}
use Rattle.toml.specs.View.{view}
use Rattle.toml.specs.declared.value.Value.{Value}
use Rattle.board_config.specs.Values.{listed}
use Rattle.board_config.proofs.Elements.{listed_view}
use Rattle.board_config.proofs.values.elements.Goals as goal

pub returns : goal.returns
returns c =
    let read = ap (option_map listed) c.in_ok-items.ensures in
    ap (λ (vs : List Value). Some (map view vs)) c.deref.ensures.value ∙ (ap Some (sym (listed_view c.in_ok-items.items.now.items)) ∙ read)
