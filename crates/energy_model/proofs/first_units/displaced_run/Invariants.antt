use Rattle.std.proofs.Common.{◌≡◌}
use Rattle.list_checks.specs.Sorted.{sum_below}
use Rattle.energy_model.specs.Entering.{displaced_of, if_border}
use Rattle.energy_model.proofs.first_units.displaced_run.Given as goal

abbrev pub invariant-loop-b : goal.invariant-loop-b
invariant-loop-b l = l.total ≡ sum_below (if_border l.regions.border.items (displaced_of l.code l.graph l.profile)) l.b
