-- The sums of a dual node's rule, by the price of each variable.
use Rattle.std.specs.Prelude.{ℕ, ◌+◌, ◌*◌, ◌≤◌, List, length}
use Rattle.placement_programme.specs.Plain.{PlainSide}
use Rattle.placement_programme.specs.Programme.{gain_at}
use Rattle.placement_programme.specs.Sums.{sum_below}
use Rattle.certificate_checker.specs.Rules.{kept, moved}
use Rattle.certificate_checker.specs.Fixings.{fixing_of}
use Rattle.certificate_checker.specs.declared.fixings.Fixing.{Fixing}

abbrev pub kept_part : PlainSide → List Fixing → ℕ → (ℕ → ℕ) → ℕ → ℕ
kept_part s marks scale price j = kept (fixing_of marks j) (scale * gain_at s.vars j) (price j)

abbrev pub moved_part : List Fixing → (ℕ → ℕ) → ℕ → ℕ
moved_part marks price j = moved (fixing_of marks j) (price j)

abbrev pub SumsHold : PlainSide → ℕ → List Fixing → ℕ → ℕ → (ℕ → ℕ) → Type 0
SumsHold s best marks scale bound price =
    bound + sum_below (length s.vars) (kept_part s marks scale price)
    ≤ scale * (best + s.fixed) + sum_below (length s.vars) (moved_part marks price)
