use Rattle.std.proofs.Common.{◌≡◌, map, take, Some}
use Rattle.toml.specs.View.{view}
use Rattle.board_config.specs.Values.{all_of, pair_of}
use Rattle.board_config.proofs.values.all_pairs.Given as goal

abbrev pub invariant-loop-element : goal.invariant-loop-element
invariant-loop-element l = all_of pair_of (map view (take l.element-index l.elements)) ≡ Some l.pairs.items
