use Rattle.std.proofs.Common.{◌≡◌, map, take, Some}
use Rattle.toml.specs.View.{view}
use Rattle.board_config.specs.Values.{all_of, texts_of}
use Rattle.board_config.specs.Board.{plain_regions}
use Rattle.board_config.proofs.values.all_text_lists.Given as goal

abbrev pub invariant-loop-element : goal.invariant-loop-element
invariant-loop-element l = all_of texts_of (map view (take l.element-index l.elements)) ≡ Some (plain_regions l.lists)
