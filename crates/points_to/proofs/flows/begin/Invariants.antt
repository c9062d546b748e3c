use Rattle.std.proofs.Common.{◌≡◌, ℕ, ◌<◌, length}
use Rattle.std.specs.Prelude.{◌↔◌}
use Rattle.points_to.specs.Rows.{Has, row}
use Rattle.points_to.proofs.flows.begin.Given as goal

abbrev pub invariant-loop-x : goal.invariant-loop-x
invariant-loop-x l = (length l.rows ≡ 32) × ((k y : ℕ) → k < l.x → Has (row l.rows k) y ↔ (k ≡ y))
