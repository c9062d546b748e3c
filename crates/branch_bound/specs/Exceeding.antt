-- Which rows an assignment may exceed.
use Rattle.std.specs.Prelude.{◌≡◌, ℕ, ◌<◌, ◌≤◌, List, length, slice_index}
use Rattle.placement_programme.specs.Plain.{PlainSide}
use Rattle.placement_programme.specs.Programme.{weight_at}
use Rattle.certificate_checker.specs.Rules.{load_of}
use Rattle.certificate_checker.specs.declared.fixings.Fixing.{Fixing}

-- no row is exceeded but those in which variable j weighs
abbrev pub ExceedsOnlyRowsOf : PlainSide → List Fixing → ℕ → Type 0
ExceedsOnlyRowsOf s marks j =
    (row : ℕ) → row < length s.rows → weight_at s.vars row j ≡ 0 → load_of s marks row ≤ slice_index s.rows row
