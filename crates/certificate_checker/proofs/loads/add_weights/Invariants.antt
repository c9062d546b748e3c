use Rattle.std.proofs.Common.{◌≡◌, ℕ, ◌+◌, take, slice_index}
use Rattle.placement_programme.specs.Programme.{weight_in}
use Rattle.certificate_checker.proofs.loads.add_weights.Given as goal

abbrev pub invariant-loop-entry : goal.invariant-loop-entry
invariant-loop-entry l =
    (row : ℕ) → slice_index l.loads row ≡ slice_index l.fn.loads row + weight_in (take l.entry-index l.weights) row
