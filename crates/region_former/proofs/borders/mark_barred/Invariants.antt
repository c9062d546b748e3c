use Rattle.std.proofs.Common.{◌≡◌, ℕ, ◌||◌, length}
use Rattle.list_checks.specs.Tests.{any_below}
use Rattle.region_former.specs.Borders.{bars}
use Rattle.region_former.specs.Rows.{truth_at}
use Rattle.region_former.proofs.borders.mark_barred.Given as goal

abbrev pub invariant-loop-b : goal.invariant-loop-b
invariant-loop-b l = record {
  len : length l.barred ≡ length l.initial.barred;
  marked : (r : ℕ) → truth_at l.barred r ≡ (truth_at l.initial.barred r || any_below (bars l.code l.has_dead l.regions r) l.b);
}
