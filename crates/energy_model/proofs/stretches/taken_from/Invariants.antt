use Rattle.std.proofs.Common.{◌≡◌}
use Rattle.list_checks.specs.Sorted.{sum_below}
use Rattle.energy_model.specs.Copied.{value_from, edge_in}
use Rattle.energy_model.specs.Stretches.{always}
use Rattle.energy_model.proofs.stretches.taken_from.Given as goal

abbrev pub invariant-loop-j : goal.invariant-loop-j
invariant-loop-j l = l.total ≡ sum_below (λ j. value_from l.a always (edge_in l.profile.edges.items j)) l.j
