use Rattle.std.proofs.Common.{◌≡◌}
use Rattle.list_checks.specs.Sorted.{sum_below}
use Rattle.energy_model.specs.Copied.{value_from, edge_in, stays_in}
use Rattle.energy_model.proofs.pieces.staying.Given as goal

abbrev pub invariant-loop-j : goal.invariant-loop-j
invariant-loop-j l = l.total ≡ sum_below (λ j. value_from l.a (stays_in l.range) (edge_in l.profile.edges.items j)) l.j
