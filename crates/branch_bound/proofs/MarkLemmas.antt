-- Assignments as selections, and what fixing a variable changes.
use Rattle.std.proofs.Common.{◌≡◌, ◌∙◌, inl, inr, ℕ, suc, ◌+◌, Bool, true, false, cond, List, length, slice_set, sym, ap, refl, subst, arith}
use Rattle.std.specs.List.{count_by, sum_by}
use Rattle.std.proofs.lemmas.Bool.{cases_eq}
use Rattle.std.proofs.lemmas.List.{set-get_or}
use Rattle.std.proofs.lemmas.List.Sums.{sum_by-set}
use Rattle.placement_programme.specs.Plain.{PlainSide}
use Rattle.placement_programme.specs.Programme.{weight_at, Fits}
use Rattle.placement_programme.specs.Sums.{picked}
use Rattle.placement_programme.proofs.TakeLemmas.{below_same}
use Rattle.certificate_checker.specs.Rules.{if_one}
use Rattle.certificate_checker.proofs.Duality.{AgreesAt, Agrees, chosen, FitsRows}
use Rattle.certificate_checker.proofs.Children.{free_inside, mark_other}
use Rattle.certificate_checker.proofs.Failures.{set_twice}
use Rattle.branch_bound.specs.Assignments.{taken}
use Rattle.certificate_checker.specs.Fixings.{fixing_of, is_free}
use Rattle.certificate_checker.specs.declared.fixings.Fixing.{Fixing}
use Rattle.certificate_checker.specs.declared.fixings.Fixing.TheVariants.{Zero, One, Free}
use Rattle.branch_bound.proofs.OnesLemmas.{ones_sum}

-- whether a variable is fixed to one
abbrev pub is_one : Fixing → Bool
is_one Zero = false
is_one One = true
is_one Free = false

abbrev pub picks : List Fixing → ℕ → Bool
picks marks j = is_one (fixing_of marks j)

pub picked_one : (m : Fixing) (n : ℕ) → picked (is_one m) n ≡ if_one m n
picked_one Zero n = refl
picked_one One n = refl
picked_one Free n = refl

pub chosen_is : (s : PlainSide) (marks : List Fixing) (f : ℕ → ℕ) → chosen s (picks marks) f ≡ sum_by f (taken s marks)
chosen_is s marks f =
    let same = below_same (λ j. picked (picks marks j) (f j)) (λ j. if_one (fixing_of marks j) (f j)) (length s.vars) (λ j inside. picked_one (fixing_of marks j) (f j)) in
    let sum = ones_sum f (length s.vars) marks in
    omega (arith, same, sum)

pub picks_fit : (s : PlainSide) (marks : List Fixing) → Fits s (taken s marks) → FitsRows s (picks marks)
picks_fit s marks fits row inside =
    let sum = chosen_is s marks (weight_at s.vars row) in
    let held = fits.rows row inside in
    omega (arith, sum, held)

agrees_at : (m : Fixing) → AgreesAt m (is_one m)
agrees_at Zero = refl
agrees_at One = refl
agrees_at Free = tt

pub agrees_self : (s : PlainSide) (marks : List Fixing) → Agrees s marks (picks marks)
agrees_self s marks j inside = agrees_at (fixing_of marks j)

-- what agrees with a child agrees with the entry
pub agrees_back : (s : PlainSide) (marks : List Fixing) (j : ℕ) (f : Fixing) (x : ℕ → Bool) → fixing_of marks j ≡ Free → Agrees s (slice_set marks j f) x → Agrees s marks x
agrees_back s marks j f x unfixed agrees k below =
    elim (cases_eq k j) [
      | inl same ↦
          let there : fixing_of marks k ≡ Free = subst (λ i. fixing_of marks i ≡ Free) (sym same) unfixed in
          subst (λ m. AgreesAt m (x k)) (sym there) tt
      | inr other ↦ subst (λ m. AgreesAt m (x k)) (mark_other marks j f k other) (agrees k below)
    ]

abbrev counted : Fixing → ℕ
counted f = cond (is_free f) 1 0

-- one free variable fewer
pub fewer_free : (marks : List Fixing) (j : ℕ) (f : Fixing) → fixing_of marks j ≡ Free → is_free f ≡ false → count_by is_free marks ≡ suc (count_by is_free (slice_set marks j f))
fewer_free marks j f unfixed fixed =
    let sums = sum_by-set counted marks j f Zero (free_inside marks j unfixed) in
    let before = ap counted unfixed in
    let behind = ap {B = ℕ} (λ b. cond b 1 0) fixed in
    omega (arith, sums, before, behind)

-- a mark that was set is set back
pub back_once : (ms first : List Fixing) (k : ℕ) (a old : Fixing) → first ≡ slice_set ms k a → old ≡ fixing_of ms k → slice_set first k old ≡ ms
back_once ms first k a old is_first is_old =
    ap (λ l. slice_set l k old) is_first
    ∙ (set_twice ms k a old ∙ (ap (λ n. slice_set ms k n) is_old ∙ set-get_or ms k Zero))
