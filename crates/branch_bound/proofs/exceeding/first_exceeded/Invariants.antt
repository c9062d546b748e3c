use Rattle.std.proofs.Common.{ℕ, ◌<◌, ◌≤◌, get_or, slice_index}
use Rattle.placement_programme.specs.Bounds.{row_of}
use Rattle.branch_bound.proofs.exceeding.first_exceeded.Given as goal

abbrev pub invariant-loop-entry : goal.invariant-loop-entry
invariant-loop-entry l =
    (k : ℕ) → k < l.entry-index → slice_index l.loads (row_of (get_or l.weights k (0, 0))) ≤ slice_index l.rows (row_of (get_or l.weights k (0, 0)))
