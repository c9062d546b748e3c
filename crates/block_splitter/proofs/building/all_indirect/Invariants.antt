use Rattle.std.proofs.Common.{◌≡◌, ℕ, ◌<◌, false, length, slice_index_or}
use Rattle.code_blocks.specs.Early.{has}
use Rattle.code_blocks.specs.Numbers.{start_at}
use Rattle.block_splitter.proofs.building.all_indirect.Given as goal

abbrev pub invariant-loop-b : goal.invariant-loop-b
invariant-loop-b l = record {
  each : length l.indirect.items ≡ l.b;
  are : (k : ℕ) → k < l.b → slice_index_or l.indirect.items k false ≡ has l.code.indirect.items (start_at l.code k);
}
