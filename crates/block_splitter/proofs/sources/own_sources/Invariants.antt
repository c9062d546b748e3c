use Rattle.std.proofs.Common.{◌≡◌, ℕ, ◌<◌, length}
use Rattle.block_splitter.specs.Facts.{sources_at}
use Rattle.block_splitter.proofs.sources.own_sources.Given as goal

abbrev pub invariant-loop-b : goal.invariant-loop-b
invariant-loop-b l = record {
  each : length l.sources.items ≡ l.b;
  own : (k : ℕ) → k < l.b → ((sources_at l.sources.items k).least ≡ k) × ((sources_at l.sources.items k).greatest ≡ k);
}
