-- Marks made of a choice take what it takes.
use Rattle.std.proofs.Common.{◌≡◌, ◌∙◌, inl, inr, ℕ, zero, suc, ◌<◌, ◌==◌, if◌then◌else◌, Bool, true, false, List, [], ◌∷◌, length, take, get_or, slice_set, Some, sym, ap, refl, subst, arith}
use Rattle.std.specs.List.{sum_by}
use Rattle.std.proofs.lemmas.Bool.{cases_eq}
use Rattle.std.proofs.lemmas.Bool.Decides.{nat_tests}
use Rattle.placement_programme.specs.Plain.{PlainSide, PlainProgramme}
use Rattle.placement_programme.specs.Programme.{gain_at, weight_at, Fits, side_for}
use Rattle.placement_programme.specs.Sums.{picked, takes}
use Rattle.placement_programme.proofs.TakeLemmas.{below_same, take_sum}
use Rattle.certificate_checker.specs.Fixings.{fixing_of}
use Rattle.certificate_checker.specs.Rules.{if_one}
use Rattle.certificate_checker.specs.Shows.{IsAccepted}
use Rattle.certificate_checker.specs.declared.fixings.Fixing.{Fixing}
use Rattle.certificate_checker.specs.declared.fixings.Fixing.TheVariants.{One}
use Rattle.certificate_checker.proofs.Children.{mark_same, mark_other}
use Rattle.branch_bound.specs.Assignments.{taken, mark_if, AreMarksOf}
use Rattle.branch_bound.specs.Searching.{IsIncumbent}
use Rattle.branch_bound.specs.declared.incumbents.Incumbent.{Incumbent}
use Rattle.branch_bound.proofs.OnesLemmas.{ones_sum, ones_ascend}
use Rattle.branch_bound.proofs.IncumbentLemmas.{new_incumbent}
use Rattle.branch_bound.proofs.SolveLemmas.{gain_back}

-- one number more is taken
takes_more : (ks : List ℕ) (i j : ℕ) → i < length ks → takes (take (suc i) ks) j ≡ (if get_or ks i 0 == j then true else takes (take i ks) j)
takes_more [] i j inside = absurd (omega (arith, inside))
takes_more (k ∷ ks) zero j inside =
    elim (cases_eq k j) [
      | inl same ↦ grind (arith, nat_tests, same)
      | inr other ↦ grind (arith, nat_tests, other)
    ]
takes_more (k ∷ ks) (suc i) j inside =
    let rest = takes_more ks i j (omega (arith, inside)) in
    elim (cases_eq k j) [
      | inl same ↦ elim (cases_eq (get_or ks i 0) j) [
        | inl again ↦ grind (arith, nat_tests, same, again)
        | inr other ↦ grind (arith, nat_tests, same, other)
      ]
      | inr different ↦ grind (arith, nat_tests, different, rest)
    ]

marked_here : (s : PlainSide) (ks : List ℕ) (i k : ℕ) (marks : List Fixing) → i < length ks → k ≡ get_or ks i 0 → k < length marks → AreMarksOf s (take i ks) marks → (j : ℕ) → j < length s.vars → fixing_of (slice_set marks k One) j ≡ mark_if (takes (take (suc i) ks) j)
marked_here s ks i k marks inside is room so_far j below =
    let more = takes_more ks i j inside in
    elim (cases_eq j k) [
      | inl same ↦
          let there : get_or ks i 0 ≡ j = sym is ∙ sym same in
          let now : takes (take (suc i) ks) j ≡ true = grind (arith, nat_tests, more, there) in
          subst (λ n. fixing_of (slice_set marks k One) n ≡ One) (sym same) (mark_same marks k One room) ∙ sym (ap mark_if now)
      | inr other ↦
          let away : get_or ks i 0 ≡ j → ⊥ = λ there. other (sym there ∙ sym is) in
          let as_before : takes (take (suc i) ks) j ≡ takes (take i ks) j = grind (arith, nat_tests, more, away) in
          mark_other marks k One j other ∙ (so_far.exact j below ∙ sym (ap mark_if as_before))
    ]

pub marked_more : (s : PlainSide) (ks : List ℕ) (i next k : ℕ) (marks : List Fixing) → next ≡ suc i → i < length ks → k ≡ get_or ks i 0 → k < length marks → AreMarksOf s (take i ks) marks → (j : ℕ) → j < length s.vars → fixing_of (slice_set marks k One) j ≡ mark_if (takes (take next ks) j)
marked_more s ks i next k marks is_next inside is room so_far j below =
    subst (λ n. fixing_of (slice_set marks k One) j ≡ mark_if (takes (take n ks) j)) (sym is_next)
    (marked_here s ks i k marks inside is room so_far j below)

mark_is_picked : (b : Bool) (n : ℕ) → if_one (mark_if b) n ≡ picked b n
mark_is_picked true n = refl
mark_is_picked false n = refl

chosen_sum : (s : PlainSide) (f : ℕ → ℕ) (ks : List ℕ) (marks : List Fixing) → AreMarksOf s ks marks → Fits s ks → sum_by f (taken s marks) ≡ sum_by f ks
chosen_sum s f ks marks are fits =
    let ones = ones_sum f (length s.vars) marks in
    let same = below_same (λ j. if_one (fixing_of marks j) (f j)) (λ j. picked (takes ks j) (f j)) (length s.vars) (λ j below. ap (λ m. if_one m (f j)) (are.exact j below) ∙ mark_is_picked (takes ks j) (f j)) in
    let sum = take_sum f 0 (length s.vars) ks fits.numbers in
    omega (arith, ones, same, sum)

chosen_fits : (s : PlainSide) (ks : List ℕ) (marks : List Fixing) → AreMarksOf s ks marks → Fits s ks → Fits s (taken s marks)
chosen_fits s ks marks are fits =
    record {
      numbers = ones_ascend (length s.vars) marks;
      rows = λ row inside.
          let sum = chosen_sum s (weight_at s.vars row) ks marks are fits in
          let held = fits.rows row inside in
          omega (arith, sum, held);
    }

-- an incumbent made of a choice that gains something
pub chosen_incumbent : (p : PlainProgramme) (s : PlainSide) (best : Incumbent) (ks : List ℕ) → side_for p best.on ≡ Some s → Fits s ks → IsAccepted p record { on = best.on; take = ks } best.gain → 0 < best.gain → AreMarksOf s ks best.marks.items → IsIncumbent p best
chosen_incumbent p s best ks is fits accepted some are =
    let gains = gain_back p best.on s ks best.gain is accepted.gains some in
    let sum = chosen_sum s (gain_at s.vars) ks best.marks.items are fits in
    let long = are.long in
    new_incumbent p s best is (chosen_fits s ks best.marks.items are fits) (omega (arith, gains, sum)) some (omega (arith, long))
