-- Which rows an assignment exceeds, and what it gains.
use Rattle.std.proofs.Common.{◌≡◌, ◌∙◌, ◌⊎◌, inl, inr, ℕ, zero, suc, ◌<◌, ◌≤◌, List, length, get_or, slice_index, slice_set, Option, Some, None, MatchOption, sym, ap, subst, arith}
use Rattle.std.proofs.lemmas.Bool.{cases_eq, cases_lt}
use Rattle.placement_programme.specs.Plain.{PlainSide}
use Rattle.placement_programme.specs.Bounds.{row_of}
use Rattle.placement_programme.specs.Programme.{weights_at, weight_in, weight_at, taken_gains, Fits}
use Rattle.placement_programme.proofs.WeightLemmas.{weight_missing}
use Rattle.certificate_checker.specs.Rules.{if_one, OverHolds}
use Rattle.certificate_checker.specs.Tallies.{AreTallies}
use Rattle.certificate_checker.specs.declared.assignments.Assignment.{Assignment}
use Rattle.certificate_checker.specs.declared.fixings.Fixing.{Fixing}
use Rattle.certificate_checker.specs.declared.fixings.Fixing.TheVariants.{One}
use Rattle.certificate_checker.proofs.TallyLemmas.{sum_set}
use Rattle.branch_bound.specs.Assignments.{taken}
use Rattle.branch_bound.specs.Exceeding.{ExceedsOnlyRowsOf}
use Rattle.branch_bound.proofs.OnesLemmas.{fits_from, ones_sum, gains_are}

-- which row is exceeded, where only those of one variable may be
named_or_none : (ws : List (ℕ × ℕ)) (row n : ℕ) → ((k : ℕ) → k < n → row_of (get_or ws k (0, 0)) ≡ row → ⊥) ⊎ ((k : ℕ) × ((k < n) × (row_of (get_or ws k (0, 0)) ≡ row)))
named_or_none ws row zero = inl (λ k below is. absurd (omega (arith, below)))
named_or_none ws row (suc n) =
    elim (named_or_none ws row n) [
      | inl none ↦
          elim (cases_eq (row_of (get_or ws n (0, 0))) row) [
            | inl same ↦ inr (n, (omega arith, same))
            | inr other ↦ inl (λ k below is.
                elim (cases_lt k n) [
                  | inl before ↦ none k before is
                  | inr last ↦
                      let same : k ≡ n = omega (arith, below, last) in
                      other (subst (λ i. row_of (get_or ws i (0, 0)) ≡ row) same is)
                ])
          ]
      | inr found ↦ inr (found.0, (let below = found.1.0 in omega (arith, below), found.1.1))
    ]

pub exceeded_is : (s : PlainSide) (a : Assignment) (j : ℕ) (ws : List (ℕ × ℕ)) (found : Option ℕ) → AreTallies s a → ws ≡ weights_at s.vars j → ExceedsOnlyRowsOf s a.marks.items j
    → MatchOption found ((i : ℕ) → i < length ws → slice_index a.loads.items (row_of (get_or ws i (0, 0))) ≤ slice_index s.rows (row_of (get_or ws i (0, 0)))) (λ row. (row < length s.rows) × (slice_index s.rows row < slice_index a.loads.items row))
    → MatchOption found (Fits s (taken s a.marks.items)) (OverHolds s a.marks.items)
exceeded_is s a j ws None tallies is only held =
    fits_from s a.marks.items (λ row inside.
    let load = tallies.loads row in
    elim (named_or_none ws row (length ws)) [
      | inl none ↦
          let missing = weight_missing ws row (0, 0) none in
          let weight = ap (λ l. weight_in l row) is in
          only row inside (omega (arith, missing, weight))
      | inr there ↦
          let here = held there.0 there.1.0 in
          let at : slice_index a.loads.items row ≤ slice_index s.rows row = subst (λ r. slice_index a.loads.items r ≤ slice_index s.rows r) there.1.1 here in
          omega (arith, at, load)
    ])
exceeded_is s a j ws (Some row) tallies is only found =
    record { inside = found.0; exceeded = let load = tallies.loads row in let above = found.1 in omega (arith, load, above) }

-- where what is taken fits, one variable more exceeds only its own rows
pub one_exceeds : (s : PlainSide) (marks : List Fixing) (j : ℕ) → j < length s.vars → length s.vars ≤ length marks → Fits s (taken s marks) → ExceedsOnlyRowsOf s (slice_set marks j One) j
one_exceeds s marks j below marked fits row inside none =
    let step = sum_set (λ m k. if_one m (weight_at s.vars row k)) marks j One (length s.vars) below (omega (arith, below, marked)) in
    let sum = ones_sum (weight_at s.vars row) (length s.vars) marks in
    let held = fits.rows row inside in
    omega (arith, step, sum, held, none)

pub tally_gains : (s : PlainSide) (a : Assignment) → AreTallies s a → a.gains ≡ taken_gains s (taken s a.marks.items)
tally_gains s a tallies = tallies.gains ∙ sym (gains_are s a.marks.items)
