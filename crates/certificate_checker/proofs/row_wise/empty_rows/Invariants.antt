use Rattle.std.proofs.Common.{◌≡◌, ℕ, [], length}
use Rattle.certificate_checker.specs.RowWise.{plain_rows, row_at}
use Rattle.certificate_checker.proofs.row_wise.empty_rows.Given as goal

abbrev pub invariant-loop : goal.invariant-loop
invariant-loop l = record {
  count : length l.rows.items ≡ l.counter;
  bare : (row : ℕ) → row_at (plain_rows l.rows.items) row ≡ [];
}
