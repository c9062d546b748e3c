use Rattle.std.proofs.Common.{◌≡◌, ℕ, ◌&&◌, nat_le, nat_lt, if◌then◌else◌, length, slice_index_or}
use Rattle.relink_core.proofs.copy_numbers.number_blocks.Given as goal

abbrev pub invariant-loop-b : goal.invariant-loop-b
invariant-loop-b l = record {
  len : length l.numbers ≡ length l.initial.numbers;
  put : (j : ℕ) → slice_index_or l.numbers j 0
      ≡ (if nat_le l.range.first j && nat_lt j l.b then l.number else slice_index_or l.initial.numbers j 0);
}
