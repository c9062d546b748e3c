use Rattle.std.proofs.Common.{◌≡◌, ℕ, ◌<◌, ◌≤◌, false, length, slice_index_or, Some, None}
use Rattle.block_splitter.specs.Forms.{holds_block}
use Rattle.paid_energy.proofs.inward_calls.fill_blocks.Given as goal

-- the blocks before are filled, and those outside are as they were
abbrev pub invariant-loop-b : goal.invariant-loop-b
invariant-loop-b l = record {
  len : length l.table ≡ length l.initial.table;
  filled : (k : ℕ) → l.range.first ≤ k → k < l.b → slice_index_or l.table k None ≡ Some l.range;
  others : (k : ℕ) → holds_block k l.range ≡ false → slice_index_or l.table k None ≡ slice_index_or l.initial.table k None;
}
