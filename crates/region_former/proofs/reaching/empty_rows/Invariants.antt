use Rattle.std.proofs.Common.{◌≡◌, ℕ, length, []}
use Rattle.region_former.specs.Propagation.{row_of}
use Rattle.region_former.proofs.reaching.empty_rows.Given as goal

abbrev pub invariant-loop : goal.invariant-loop
invariant-loop l = (length l.rows.items ≡ l.counter) × ((f : ℕ) → row_of l.rows.items f ≡ [])
