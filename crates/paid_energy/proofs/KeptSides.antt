-- Whether a switch moves what is kept for the pair of a region: not between its twins, and where there is no twin nothing is kept.
use Rattle.std.proofs.Common.{◌≡◌, ◌∙◌, ℕ, suc, ◌+◌, ◌-◌, ◌*◌, ◌%◌, ◌<◌, ◌≤◌, ◌==◌, nat_lt, Bool, true, false, not, ◌&&◌, if◌then◌else◌, List, [], length, Option, Some, None, inl, inr, refl, sym, ap, subst, arith}
use Rattle.std.specs.Prelude.{All}
use Rattle.std.proofs.lemmas.Bool.{cases_eq, eqb-true}
use Rattle.std.proofs.lemmas.Bool.Decides.{nat_tests}
use Rattle.placement_programme.specs.declared.variables.VarName.TheVariants.{KeptData}
use Rattle.patch_code.specs.declared.job.CopyJob.{CopyJob}
use Rattle.patch_code.specs.Parts.{SwitchPlan, twin_of, twin_in}
use Rattle.patch_code.specs.Counts.{kept_unless}
use Rattle.relocator.specs.declared.slots.Slot.{Slot}
use Rattle.relocator.specs.Slots.{pair_of}
use Rattle.relocator.specs.Laws.{no_slot, slot_at}
use Rattle.relocator.proofs.WeightLemmas.{IsAmong}
use Rattle.result_laws.specs.ChosenJobs.{HasTwins}
use Rattle.energy_model.specs.Energy.{is_of_pair, comes_to_pair}
use Rattle.paid_energy.proofs.PlacedPrices.{of_pair}
use Rattle.paid_energy.proofs.Tests.{equal_numbers, other_numbers, same_some}

-- ---- twins

-- the other region of a pair
record IsTwin (own twin : ℕ) : Type 0 where
  pair : pair_of twin ≡ pair_of own
  only : (x : ℕ) → pair_of x ≡ pair_of own → (x ≡ own → ⊥) → x ≡ twin

even_twin : (i : ℕ) → suc i % 2 ≡ 0 → IsTwin (suc i) (suc i - 1)
even_twin i even =
    record {
      pair = omega (arith, even);
      only = λ x same other. elim (cases_eq x (suc i - 1)) [
        | inl is ↦ is
        | inr differs ↦ absurd (omega (arith, even, same, other, differs))
      ];
    }

odd_twin : (i : ℕ) → (suc i % 2 ≡ 0 → ⊥) → IsTwin (suc i) (suc i + 1)
odd_twin i odd =
    record {
      pair = omega (arith, odd);
      only = λ x same other. elim (cases_eq x (suc i + 1)) [
        | inl is ↦ is
        | inr differs ↦ absurd (omega (arith, odd, same, other, differs))
      ];
    }

twin_by : (regions i t : ℕ) (even more : Bool) → (suc i % 2 == 0) ≡ even → (if even then Some (suc i - 1) else (if more then Some (suc i + 1) else None)) ≡ Some t → IsTwin (suc i) t
twin_by regions i t true more is some = subst (IsTwin (suc i)) (same_some (suc i - 1) t some) (even_twin i (eqb-true (suc i % 2) 0 is))
twin_by regions i t false true is some =
    subst (IsTwin (suc i)) (same_some (suc i + 1) t some)
    (odd_twin i (λ even. let test : (suc i % 2 == 0) ≡ true = grind (arith, nat_tests, even) in cc))
twin_by regions i t false false is some = absurd (cc)

twin_is : (regions i t : ℕ) → twin_of regions (suc i) ≡ Some t → IsTwin (suc i) t
twin_is regions i t is = twin_by regions i t (suc i % 2 == 0) (nat_lt (suc i) regions) refl is

-- a region without one is the last, and of no whole pair
none_by : (regions i pair : ℕ) (even more : Bool) → (suc i % 2 == 0) ≡ even → nat_lt (suc i) regions ≡ more → (if even then Some (suc i - 1) else (if more then Some (suc i + 1) else None)) ≡ None → pair_of (suc i) ≡ pair → 2 * pair ≤ regions → ⊥
none_by regions i pair true more is last none same within = absurd (cc)
none_by regions i pair false true is last none same within = absurd (cc)
none_by regions i pair false false is last none same within =
    let few : regions ≤ suc i = grind (arith, nat_tests, last) in
    let odd : (suc i % 2 ≡ 0 → ⊥) = λ even. (let test : (suc i % 2 == 0) ≡ true = grind (arith, nat_tests, even) in cc) in
    omega (arith, few, odd, same, within)

none_is : (regions i pair : ℕ) → twin_of regions (suc i) ≡ None → pair_of (suc i) ≡ pair → 2 * pair ≤ regions → ⊥
none_is regions i pair none same within = none_by regions i pair (suc i % 2 == 0) (nat_lt (suc i) regions) refl refl none same within

-- ---- what is moved

moved_by : (own other : Bool) → other ≡ false → own && not other ≡ own
moved_by true other is = ap not is
moved_by false other is = refl

stays_by : (own other : Bool) → (own ≡ true → other ≡ true) → own && not other ≡ false
stays_by true other is = ap not (is refl)
stays_by false other is = refl

-- what is kept for the pair of `own` where `other` is the other region of a switch
pub data KeptSide (slots : List Slot) (twin : Option ℕ) (other own : ℕ) : Type 0 where
  Stays : ((jobs : List CopyJob) → kept_unless twin other jobs ≡ [])
      → ((k pair o : ℕ) → k < length slots → (slot_at slots k).name ≡ KeptData pair o → comes_to_pair pair other own ≡ false)
      → KeptSide slots twin other own
  Moves : ((jobs : List CopyJob) → kept_unless twin other jobs ≡ jobs)
      → ((pair : ℕ) → 1 ≤ pair → comes_to_pair pair other own ≡ (pair_of own == pair)) → KeptSide slots twin other own

module _ (w : SwitchPlan (List CopyJob)) (slots : List Slot) (twins : All (λ (s : Slot). HasTwins w.twins s.name) slots) (among : (k : ℕ) → k < length slots → IsAmong w.regions (slot_at slots k).name) (i other : ℕ) (within : suc i ≤ w.regions) (differs : other ≡ suc i → ⊥) where
  abbrev own : ℕ
  own = suc i

  pair_some : (k pair o : ℕ) → k < length slots → (slot_at slots k).name ≡ KeptData pair o → (1 ≤ pair) × (2 * pair ≤ w.regions)
  pair_some k pair o below is = subst (IsAmong w.regions) is (among k below)

  -- no pair of a name is that of a region without a twin
  none_kept : (twin : Bool) → w.twins ≡ twin → (if twin then twin_of w.regions own else None) ≡ None → (k pair o : ℕ) → k < length slots → (slot_at slots k).name ≡ KeptData pair o → pair_of own ≡ pair → ⊥
  none_kept true on none k pair o below is same = none_is w.regions i pair none same (pair_some k pair o below is).1
  none_kept false off none k pair o below is same =
      let has : w.twins ≡ true = subst (HasTwins w.twins) is (twins k no_slot below) in cc

  no_twin : twin_in w own ≡ None → KeptSide slots None other own
  no_twin none =
      Stays (λ jobs. refl)
      (λ k pair o below is.
      let some = (pair_some k pair o below is).0 in
      let test : is_of_pair pair own ≡ false =
      of_pair pair own some ∙ other_numbers (pair_of own) pair (λ same. none_kept w.twins refl none k pair o below is same) in
      ap (λ (b : Bool). b && not (is_of_pair pair other)) test)

  same_pair : (twin : ℕ) → IsTwin own twin → other ≡ twin → KeptSide slots (Some twin) other own
  same_pair twin is here =
      Stays (λ jobs. ap (λ (b : Bool). if b then [] else jobs) (equal_numbers other twin here))
      (λ k pair o below name.
      let some = (pair_some k pair o below name).0 in
      let pairs : pair_of other ≡ pair_of own = ap pair_of here ∙ is.pair in
      stays_by (is_of_pair pair own) (is_of_pair pair other)
      (λ of. of_pair pair other some ∙ (ap (λ (n : ℕ). n == pair) pairs ∙ (sym (of_pair pair own some) ∙ of))))

  other_pair : (twin : ℕ) → IsTwin own twin → (other ≡ twin → ⊥) → KeptSide slots (Some twin) other own
  other_pair twin is away =
      Moves (λ jobs. ap (λ (b : Bool). if b then [] else jobs) (other_numbers other twin away))
      (λ pair some. by pair some (pair_of own == pair) refl)
    where
      apart : pair_of other ≡ pair_of own → ⊥
      apart same = away (is.only other same differs)

      by : (pair : ℕ) → 1 ≤ pair → (b : Bool) → (pair_of own == pair) ≡ b → comes_to_pair pair other own ≡ (pair_of own == pair)
      by pair some true here =
          let same = eqb-true (pair_of own) pair here in
          let test : is_of_pair pair other ≡ false = of_pair pair other some ∙ other_numbers (pair_of other) pair (λ also. apart (also ∙ sym same)) in
          moved_by (is_of_pair pair own) (is_of_pair pair other) test ∙ of_pair pair own some
      by pair some false here =
          ap (λ (b : Bool). b && not (is_of_pair pair other)) (of_pair pair own some ∙ here) ∙ sym here

  side_by : (twin : Option ℕ) → twin_in w own ≡ twin → KeptSide slots twin other own
  side_by None none = no_twin none
  side_by (Some twin) some =
      let is : IsTwin own twin = on w.twins some in
      elim (cases_eq other twin) [ inl here ↦ same_pair twin is here | inr away ↦ other_pair twin is away ]
    where
      on : (t : Bool) → (if t then twin_of w.regions own else None) ≡ Some twin → IsTwin own twin
      on true is = twin_is w.regions i twin is
      on false is = absurd (cc)

  pub kept_side : KeptSide slots (twin_in w own) other own
  kept_side = side_by (twin_in w own) refl
