-- What an assignment takes: sums over it are sums over the variables that are fixed to one.
use Rattle.std.proofs.Common.{◌≡◌, ◌≢◌, ◌∙◌, inl, inr, ℕ, zero, suc, ◌^◌, ◌<◌, ◌≤◌, List, [], ◌∷◌, ◌++◌, length, slice_index, slice_set, sym, refl, subst, arith}
use Rattle.std.specs.List.{sum_by}
use Rattle.std.proofs.lemmas.Bool.{cases_eq}
use Rattle.std.proofs.lemmas.List.{length-replicate}
use Rattle.std.proofs.lemmas.List.Sums.{sum_by-cons, sum_by-append}
use Rattle.placement_programme.specs.Plain.{PlainSide}
use Rattle.placement_programme.specs.Bounds.{AscendWithin, IsWithinBounds}
use Rattle.placement_programme.specs.Programme.{gain_at, weight_at, Fits, taken_gains}
use Rattle.placement_programme.specs.Sums.{sum_below}
use Rattle.placement_programme.proofs.SumLemmas.{taken_gains_below}
use Rattle.certificate_checker.specs.Rules.{if_one, load_of, OverHolds}
use Rattle.certificate_checker.specs.Shows.{all_free}
use Rattle.certificate_checker.proofs.Children.{mark_same, mark_other}
use Rattle.certificate_checker.proofs.Least.{free_at}
use Rattle.branch_bound.specs.Assignments.{number_if, ones_below, taken}
use Rattle.certificate_checker.specs.Fixings.{fixing_of}
use Rattle.certificate_checker.specs.declared.fixings.Fixing.{Fixing}
use Rattle.certificate_checker.specs.declared.fixings.Fixing.TheVariants.{Zero, One, Free}

pub number_sum : (f : ℕ → ℕ) (m : Fixing) (n : ℕ) → sum_by f (number_if m n) ≡ if_one m (f n)
number_sum f Zero n = refl
number_sum f One n = let first = sum_by-cons f n [] in omega (arith, first)
number_sum f Free n = refl

pub ones_sum : (f : ℕ → ℕ) (n : ℕ) (marks : List Fixing) → sum_by f (ones_below n marks) ≡ sum_below n (λ j. if_one (fixing_of marks j) (f j))
ones_sum f zero marks = refl
ones_sum f (suc n) marks =
    let rest = ones_sum f n marks in
    let both = sum_by-append f (ones_below n marks) (number_if (fixing_of marks n) n) in
    let here = number_sum f (fixing_of marks n) n in
    omega (arith, rest, both, here)

ascend_join : (low n : ℕ) (m : Fixing) (ns : List ℕ) → low ≤ n → AscendWithin low n ns → AscendWithin low (suc n) (ns ++ number_if m n)
ascend_join low n Zero [] order all = tt
ascend_join low n One [] order all = (order, omega arith, tt)
ascend_join low n Free [] order all = tt
ascend_join low n m (k ∷ ks) order all =
    (all.0, omega (arith, all.1), ascend_join (suc k) n m ks (omega (arith, all.1)) all.2)

pub ones_ascend : (n : ℕ) (marks : List Fixing) → AscendWithin 0 n (ones_below n marks)
ones_ascend zero marks = tt
ones_ascend (suc n) marks = ascend_join 0 n (fixing_of marks n) (ones_below n marks) (omega arith) (ones_ascend n marks)

-- an assignment that exceeds no row takes what fits, and the other way round
pub fits_from : (s : PlainSide) (marks : List Fixing) → ((row : ℕ) → row < length s.rows → load_of s marks row ≤ slice_index s.rows row) → Fits s (taken s marks)
fits_from s marks held = record {
  numbers = ones_ascend (length s.vars) marks;
  rows = λ row inside.
      let sum = ones_sum (weight_at s.vars row) (length s.vars) marks in
      let here = held row inside in
      omega (arith, sum, here);
}

pub over_not_fits : (s : PlainSide) (marks : List Fixing) (row : ℕ) → OverHolds s marks row → Fits s (taken s marks) → ⊥
over_not_fits s marks row over fits =
    let sum = ones_sum (weight_at s.vars row) (length s.vars) marks in
    let held = fits.rows row over.inside in
    let exceeded = over.exceeded in
    omega (arith, sum, held, exceeded)

pub gains_are : (s : PlainSide) (marks : List Fixing) → taken_gains s (taken s marks) ≡ sum_below (length s.vars) (λ j. if_one (fixing_of marks j) (gain_at s.vars j))
gains_are s marks = ones_sum (gain_at s.vars) (length s.vars) marks

-- what is taken gains no more than all variables
pub gains_small : (s : PlainSide) (marks : List Fixing) → IsWithinBounds s → taken_gains s (taken s marks) < 2 ^ 104
gains_small s marks bounds =
    let less = taken_gains_below s.vars (taken s marks) (ones_ascend (length s.vars) marks) in
    let total = bounds.gains in
    omega (arith, less, total)

-- the sum over all variables
pub all_gains : (s : PlainSide) (marks : List Fixing) (n total : ℕ) → n ≤ length s.vars → length s.vars ≤ n → total ≡ sum_below n (λ j. if_one (fixing_of marks j) (gain_at s.vars j)) → total ≡ taken_gains s (taken s marks)
all_gains s marks n total some all sum =
    let same : n ≡ length s.vars = omega (arith, some, all) in
    let there = subst (λ m. total ≡ sum_below m (λ j. if_one (fixing_of marks j) (gain_at s.vars j))) same sum in
    there ∙ sym (gains_are s marks)

-- nothing is taken where nothing is fixed, and one variable where that alone is fixed to one
pub ones_none : (n : ℕ) (marks : List Fixing) → ((k : ℕ) → k < n → fixing_of marks k ≡ Free) → ones_below n marks ≡ []
ones_none zero marks all = refl
ones_none (suc n) marks all =
    let rest = ones_none n marks (λ k below. all k (omega (arith, below))) in
    rw (rest, all n (omega arith)) refl

pub ones_single : (n j : ℕ) (marks : List Fixing) → j < n → fixing_of marks j ≡ One → ((k : ℕ) → k < n → k ≢ j → fixing_of marks k ≡ Free) → ones_below n marks ≡ j ∷ []
ones_single zero j marks inside is others = absurd (omega arith)
ones_single (suc n) j marks inside is others =
    elim (cases_eq j n) [
      | inl same ↦
          let rest = ones_none n marks (λ k below. others k (omega (arith, below)) (omega (arith, below, same))) in
          let here : fixing_of marks n ≡ One = subst (λ k. fixing_of marks k ≡ One) same is in
          rw (rest, here, same) refl
      | inr before ↦
          let rest = ones_single n j marks (omega (arith, inside, before)) is (λ k below disjoint. others k (omega (arith, below)) disjoint) in
          let here = others n (omega arith) (λ same. before (sym same)) in
          rw (rest, here) refl
    ]

pub single_taken : (s : PlainSide) (j : ℕ) → j < length s.vars → taken s (slice_set (all_free s) j One) ≡ j ∷ []
single_taken s j inside =
    let long : length (all_free s) ≡ length s.vars = length-replicate {A = Fixing} (length s.vars) Free in
    ones_single (length s.vars) j (slice_set (all_free s) j One) inside
    (mark_same (all_free s) j One (omega (arith, inside, long)))
    (λ k below disjoint. mark_other (all_free s) j One k disjoint ∙ free_at s k below)

pub nothing_taken : (s : PlainSide) → taken s (all_free s) ≡ []
nothing_taken s = ones_none (length s.vars) (all_free s) (λ k below. free_at s k below)
