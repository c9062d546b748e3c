use Rattle.std.proofs.Common.{◌≡◌, map}
use Rattle.energy_model.specs.Copied.{values}
use Rattle.placement_candidates.specs.FullVars.{plain_full_var}
use Rattle.placement_candidates.specs.Selected.{worth_at}
use Rattle.placement_candidates.proofs.ranking.worths.Given as goal

abbrev pub invariant-loop-k : goal.invariant-loop-k
invariant-loop-k l = l.worths.items ≡ values (worth_at (map plain_full_var l.vars)) l.k
