-- What candidates of the code are as plain lists and numbers: the weights of each are in ranges of rows.
use Rattle.std.specs.Prelude.{ℕ, List, ◌++◌}
use Rattle.placement_programme.specs.Plain.{PlainFullVar}
use Rattle.placement_programme.specs.Rows.{in_rows}
use Rattle.placement_candidates.specs.declared.row_ranges.RowRange.{RowRange}
use Rattle.placement_candidates.specs.declared.variables.Weights.{Weights}
use Rattle.placement_candidates.specs.declared.variables.FullVar.{FullVar}

abbrev pub weights_in : RowRange → List (ℕ × ℕ)
weights_in range = in_rows range.first range.count range.value

abbrev pub plain_weights : Weights → List (ℕ × ℕ)
plain_weights w = weights_in w.space ++ weights_in w.patch ++ weights_in w.own

abbrev pub plain_full_var : FullVar → PlainFullVar
plain_full_var v = record { name = v.name; gain = v.gain; weights = plain_weights v.weights }
