use Rattle.std.proofs.Common.{◌≡◌}
use Rattle.list_checks.specs.Sorted.{sum_below}
use Rattle.energy_model.specs.Copied.{value_from, edge_in}
use Rattle.energy_model.specs.Entering.{entered_in}
use Rattle.energy_model.proofs.entering.staying.Given as goal

abbrev pub invariant-loop-j : goal.invariant-loop-j
invariant-loop-j l = l.total ≡ sum_below (λ j. value_from l.a (entered_in l.tables.regions.now.border.items l.range) (edge_in l.tables.profile.now.edges.items j)) l.j
