use Rattle.std.proofs.Common.{◌≡◌, map, take, Some}
use Rattle.toml.specs.View.{view}
use Rattle.toml.specs.Data.{as_str}
use Rattle.board_config.specs.Values.{all_of}
use Rattle.board_config.specs.Board.{plain_texts}
use Rattle.board_config.proofs.values.all_texts.Given as goal

abbrev pub invariant-loop-element : goal.invariant-loop-element
invariant-loop-element l = all_of as_str (map view (take l.element-index l.elements)) ≡ Some (plain_texts l.texts)
