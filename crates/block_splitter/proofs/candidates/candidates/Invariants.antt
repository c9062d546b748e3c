use Rattle.std.proofs.Common.{◌≡◌, ℕ, suc, ◌<◌, true}
use Rattle.std.specs.List.{All, list_any}
use Rattle.block_splitter.specs.declared.block_range.BlockRange.{BlockRange}
use Rattle.block_splitter.specs.Pieces.{HasShape}
use Rattle.block_splitter.specs.Facts.{IsRunFirst, is_range}
use Rattle.block_splitter.proofs.candidates.candidates.Given as goal

abbrev pub invariant-loop-last : goal.invariant-loop-last
invariant-loop-last l = record {
  before : (k : ℕ) → l.last ≡ suc k → IsRunFirst l.code k l.first;
  sound : All (HasShape l.code) l.ranges.items;
  whole : (r : BlockRange) → HasShape l.code r → r.last < l.last → list_any (is_range r) l.ranges.items ≡ true;
}
