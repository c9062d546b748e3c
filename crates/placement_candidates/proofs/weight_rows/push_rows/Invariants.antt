use Rattle.std.proofs.Common.{◌≡◌, ◌+◌, ◌-◌, ◌++◌}
use Rattle.placement_programme.specs.Rows.{in_rows}
use Rattle.placement_candidates.proofs.weight_rows.push_rows.Given as goal

abbrev pub invariant-loop-k : goal.invariant-loop-k
invariant-loop-k l =
    l.weights.items ++ in_rows (l.first + l.k) (l.count - l.k) l.value ≡ l.initial.weights.items ++ in_rows l.first l.count l.value
