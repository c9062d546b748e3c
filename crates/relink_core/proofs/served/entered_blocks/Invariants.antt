use Rattle.std.proofs.Common.{◌≡◌, ℕ, false, take, length, slice_index_or}
use Rattle.std.specs.List.{list_any}
use Rattle.relink_core.specs.StubBlocks.{enters_copy}
use Rattle.relink_core.proofs.served.entered_blocks.Given as goal

abbrev pub invariant-loop-k : goal.invariant-loop-k
invariant-loop-k l = record {
  len : length l.entered.items ≡ length l.source.code.now.blocks.items;
  marked : (b : ℕ) → slice_index_or l.entered.items b false ≡ list_any (enters_copy l.source.code.now b) (take l.k l.copies);
}
