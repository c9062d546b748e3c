use Rattle.std.proofs.Common.{◌≡◌, ℕ, ◌<◌, ◌==◌, ◌&&◌, ◌||◌, nat_lt, take, length}
use Rattle.std.specs.List.{list_any}
use Rattle.code_blocks.specs.Numbers.{start_at}
use Rattle.block_splitter.specs.Facts.{block_count, sources_at}
use Rattle.block_splitter.proofs.sources.add_at_all.Given as goal

abbrev pub invariant-loop-address : goal.invariant-loop-address
invariant-loop-address l = record {
  each : length l.sources ≡ length l.initial.sources;
  least : (b first : ℕ) → b < block_count l.code
      → nat_lt (sources_at l.sources b).least first
      ≡ (nat_lt (sources_at l.initial.sources b).least first
      || (nat_lt l.a first && list_any (λ x. x == start_at l.code b) (take l.address-index l.addresses)));
  greatest : (b last : ℕ) → b < block_count l.code
      → nat_lt last (sources_at l.sources b).greatest
      ≡ (nat_lt last (sources_at l.initial.sources b).greatest
      || (nat_lt last l.a && list_any (λ x. x == start_at l.code b) (take l.address-index l.addresses)));
}
