use Rattle.std.proofs.Common.{◌≡◌, map}
use Rattle.list_checks.specs.Tests.{any_below}
use Rattle.placement_candidates.specs.FullVars.{plain_full_var}
use Rattle.placement_candidates.specs.Selected.{var_in, saves_by_overlay}
use Rattle.placement_candidates.proofs.selecting.any_saves.Given as goal

abbrev pub invariant-loop-k : goal.invariant-loop-k
invariant-loop-k l = l.found ≡ any_below (λ k. saves_by_overlay (var_in (map plain_full_var l.vars) k)) l.k
