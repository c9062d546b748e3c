use Rattle.std.proofs.Common.{◌≡◌, ℕ, ◌==◌, ◌||◌, false, take, length, slice_index_or}
use Rattle.std.specs.List.{list_any}
use Rattle.relink_core.proofs.served.mark_blocks.Given as goal

abbrev pub invariant-loop-block : goal.invariant-loop-block
invariant-loop-block l = record {
  len : length l.marks ≡ length l.initial.marks;
  marked : (b : ℕ) → slice_index_or l.marks b false
      ≡ (slice_index_or l.initial.marks b false || list_any (λ e. e == b) (take l.block-index l.blocks));
}
