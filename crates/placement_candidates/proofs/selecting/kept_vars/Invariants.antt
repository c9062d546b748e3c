use Rattle.std.proofs.Common.{◌≡◌, ℕ, ◌≤◌, List, map}
use Rattle.placement_programme.specs.Plain.{PlainVar, plain_var}
use Rattle.placement_candidates.specs.FullVars.{plain_full_var}
use Rattle.placement_candidates.specs.Selected.{kept_below}
use Rattle.placement_candidates.specs.Ranking.{ties_before}
use Rattle.placement_candidates.proofs.selecting.kept_vars.Given as goal

pub record IsKept (kept vars : List PlainVar) (ties counted k : ℕ) : Type 0 where
  pub kept_is : kept ≡ vars
  pub ties_are : ties ≡ counted
  pub few : ties ≤ k

abbrev pub invariant-loop-k : goal.invariant-loop-k
invariant-loop-k l =
    IsKept (map plain_var l.kept.items) (kept_below (map plain_full_var l.vars) l.k) l.ties (ties_before (map plain_full_var l.vars) l.cut l.k) l.k
