-- Trees and choices within the ranges of a certificate's text.
use Rattle.std.proofs.Common.{◌≡◌, ℕ, zero, suc, ◌^◌, ◌<◌, ◌≤◌, Bool, true, false, List, [], ◌∷◌, length, Option, Some, None, refl, arith}
use Rattle.std.specs.Prelude.{IfSome, IsSomeAnd, option_map}
use Rattle.std.specs.List.{All}
use Rattle.placement_programme.specs.Plain.{PlainSide, PlainProgramme}
use Rattle.placement_programme.specs.Bounds.{AscendWithin, IsWithinBounds, value_of}
use Rattle.placement_programme.specs.Programme.{Fits, IsFeasible}
use Rattle.placement_programme.specs.Views.{plain_side}
use Rattle.placement_programme.specs.declared.sides.Side.{Side}
use Rattle.placement_programme.proofs.AscendLemmas.{count_within}
use Rattle.placement_programme.proofs.RowLemmas.{rows_higher}
use Rattle.certificate_checker.specs.Nodes.{PlainTree, branch, over, dual, leaf}
use Rattle.certificate_checker.specs.declared.fixings.Fixing.{Fixing}
use Rattle.certificate_checker.specs.Rules.{DualHolds}
use Rattle.certificate_checker.specs.Spelling.{IsDualInRange, IsTreeInRange}
use Rattle.certificate_checker.proofs.Limits.{rows_few}

-- a dual node that keeps its rule is within the ranges
pub dual_in_range : (s : PlainSide) (best : ℕ) (marks : List Fixing) (scale : ℕ) (ms : List (ℕ × ℕ)) → IsWithinBounds s → DualHolds s best marks scale ms → All (λ m. value_of m < 2 ^ 64) ms → IsDualInRange scale ms
dual_in_range s best marks scale ms bounds holds small =
    let few_rows = bounds.few_rows in
    let few = rows_few (length s.rows) ms holds.rows in
    record {
      least = holds.least;
      most = holds.most;
      few = omega (arith, few, few_rows);
      rows = rows_higher 0 (length s.rows) (2 ^ 32) ms (omega (arith, few_rows)) holds.rows;
      small = small;
    }

-- a tree of one level is within as many as there are
pub one_level : (levels : ℕ) (t : PlainTree) → (levels ≡ 0 → ⊥) → IsTreeInRange 1 t → IsTreeInRange levels t
one_level zero t more good = absurd (more refl)
one_level (suc levels) (branch j l r) more good = absurd good.1
one_level (suc levels) (over row) more good = good
one_level (suc levels) (dual scale ms) more good = good
one_level (suc levels) leaf more good = tt

pub ascend_wider : (low high wide : ℕ) (ns : List ℕ) → high ≤ wide → AscendWithin low high ns → AscendWithin low wide ns
ascend_wider low high wide [] order all = tt
ascend_wider low high wide (n ∷ ns) order all = (all.0, omega (arith, order, all.1), ascend_wider (suc n) high wide ns order all.2)

-- the numbers of a choice that fits
pub record AreListed (take : List ℕ) : Type 0 where
  pub few : length take < 2 ^ 32
  pub numbers : AscendWithin 0 (2 ^ 32) take

pub listed : (count : ℕ) (take : List ℕ) → count ≤ 4000 → AscendWithin 0 count take → AreListed take
listed count take small ascending =
    let counted = count_within 0 count take (omega arith) ascending in
    record { few = omega (arith, counted, small); numbers = ascend_wider 0 count (2 ^ 32) take (omega (arith, small)) ascending }

-- each side has few variables
abbrev pub HasFewVars : PlainSide → Type 0
HasFewVars s = length s.vars ≤ 4000

on_listed : (side : Option PlainSide) (take : List ℕ) → IfSome side HasFewVars → IsSomeAnd side (λ s. Fits s take) → AreListed take
on_listed None take on fits = absurd fits
on_listed (Some s) take on fits = listed (length s.vars) take on fits.numbers

pub choice_listed : (p : PlainProgramme) (on : Bool) (take : List ℕ) → HasFewVars p.off → IfSome p.on HasFewVars → IsFeasible p record { on = on; take = take } → AreListed take
choice_listed p false take off on fits = listed (length p.off.vars) take off fits.numbers
choice_listed p true take off on fits = on_listed p.on take on fits

pub few_on : (side : Option Side) → IfSome (option_map plain_side side) HasFewVars
few_on None = tt
few_on (Some s) = s.bounds.few_vars
