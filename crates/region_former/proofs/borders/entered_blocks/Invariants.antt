use Rattle.std.proofs.Common.{◌≡◌, ℕ, ◌<◌, length}
use Rattle.list_checks.specs.Tests.{any_below}
use Rattle.region_former.specs.Flow.{block_count}
use Rattle.region_former.specs.Borders.{comes_from_outside}
use Rattle.region_former.specs.Rows.{truth_at}
use Rattle.region_former.proofs.borders.entered_blocks.Given as goal

abbrev pub invariant-loop-a : goal.invariant-loop-a
invariant-loop-a l = record {
  len : length l.entered.items ≡ block_count l.code;
  marked : (b : ℕ) → b < block_count l.code → truth_at l.entered.items b ≡ any_below (comes_from_outside l.code l.regions b) l.a;
}
