use Rattle.std.proofs.Common.{◌≡◌}
use Rattle.energy_model.specs.Overlay.{checks_in}
use Rattle.energy_model.proofs.checks.count_checks.Given as goal

abbrev pub invariant-loop-b : goal.invariant-loop-b
invariant-loop-b l = l.total ≡ checks_in l.profile l.borders l.b
