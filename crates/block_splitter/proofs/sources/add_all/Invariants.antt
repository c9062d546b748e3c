use Rattle.std.proofs.Common.{◌≡◌, ℕ, ◌<◌, length}
use Rattle.block_splitter.specs.Facts.{block_count, sources_at, AreSources}
use Rattle.block_splitter.proofs.sources.add_all.Given as goal

abbrev pub invariant-loop-a : goal.invariant-loop-a
invariant-loop-a l = record {
  each : length l.sources ≡ block_count l.code;
  are : (b : ℕ) → b < block_count l.code → AreSources l.code b l.a (sources_at l.sources b);
}
