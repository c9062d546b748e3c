use Rattle.std.proofs.Common.{◌≡◌, ℕ, ◌<◌, length}
use Rattle.list_checks.specs.Tests.{any_below}
use Rattle.region_former.specs.Reaching.{driver_calls}
use Rattle.region_former.specs.Rows.{truth_at}
use Rattle.region_former.proofs.reaching.roots.Given as goal

abbrev pub invariant-loop-a : goal.invariant-loop-a
invariant-loop-a l = record {
  len : length l.roots.items ≡ length l.code.functions.items;
  marked : (g : ℕ) → g < length l.code.functions.items → truth_at l.roots.items g ≡ any_below (driver_calls l.code l.driver g) l.a;
}
