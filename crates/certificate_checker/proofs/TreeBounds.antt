-- A tree that holds bounds every selection that fits and agrees with the marks.
use Rattle.std.proofs.Common.{inl, inr, ℕ, ◌+◌, ◌≤◌, Bool, List, slice_set, refl}
use Rattle.placement_programme.specs.Plain.{PlainSide}
use Rattle.placement_programme.specs.Programme.{gain_at}
use Rattle.certificate_checker.specs.Nodes.{PlainTree, branch, over, dual, leaf}
use Rattle.certificate_checker.specs.Rules.{Holds}
use Rattle.certificate_checker.specs.declared.fixings.Fixing.{Fixing}
use Rattle.certificate_checker.specs.declared.fixings.Fixing.TheVariants.{Zero, One}
use Rattle.certificate_checker.proofs.Duality.{Agrees, chosen, FitsRows, dual_bounds, over_none, leaf_bounds}
use Rattle.certificate_checker.proofs.Children.{free_inside, one_child}

pub tree_bounds : (s : PlainSide) (best : ℕ) (marks : List Fixing) (t : PlainTree) (x : ℕ → Bool) → Holds s best marks t → FitsRows s x → Agrees s marks x → chosen s x (gain_at s.vars) ≤ best + s.fixed
tree_bounds s best marks (branch j l r) x holds fits agrees =
    elim (one_child s marks j x (x j) refl (free_inside marks j holds.0.free_there) agrees) [
      | inl zero ↦ tree_bounds s best (slice_set marks j Zero) l x holds.1 fits zero
      | inr one ↦ tree_bounds s best (slice_set marks j One) r x holds.2 fits one
    ]
tree_bounds s best marks (over row) x holds fits agrees = absurd (over_none s marks row x holds fits agrees)
tree_bounds s best marks (dual scale ms) x holds fits agrees = dual_bounds s best marks scale ms x holds fits agrees
tree_bounds s best marks leaf x holds fits agrees = leaf_bounds s best marks x holds agrees
