use Rattle.std.proofs.Common.{◌≡◌, take, Some}
use Rattle.board_config.specs.Values.{all_of}
use Rattle.board_config.specs.Limits.{range_of}
use Rattle.board_config.proofs.limits.ranges.Given as goal

abbrev pub invariant-loop-pair : goal.invariant-loop-pair
invariant-loop-pair l = all_of range_of (take l.pair-index l.pairs) ≡ Some l.ranges.items
