-- How a node is closed or opened.
use Rattle.std.proofs.Common.{◌≡◌, ◌∙◌, inl, inr, ℕ, zero, suc, ◌+◌, ◌*◌, ◌<◌, ◌≤◌, List, [], ◌++◌, length, slice_index, slice_set, sym, ap, refl, subst, arith}
use Rattle.placement_programme.specs.Plain.{PlainSide}
use Rattle.placement_programme.specs.Programme.{gain_at, Fits, taken_gains}
use Rattle.placement_programme.proofs.TakeLemmas.{below_at_most}
use Rattle.certificate_checker.specs.Rules.{if_one, load_of, kept, kept_at, OverHolds, LeafHolds, DualHolds}
use Rattle.certificate_checker.specs.Shows.{all_free}
use Rattle.certificate_checker.proofs.Failures.{set_twice}
use Rattle.std.proofs.lemmas.Bool.{cases_eq, cases_lt}
use Rattle.certificate_checker.proofs.Children.{free_inside, mark_same, mark_other}
use Rattle.branch_bound.specs.Searching.{EntryBelow, IsTried}
use Rattle.branch_bound.specs.Assignments.{number_if, ones_below, taken, FailsEveryLeafRule, IsGreatestFree}
use Rattle.certificate_checker.specs.Fixings.{fixing_of}
use Rattle.certificate_checker.specs.declared.fixings.Fixing.{Fixing}
use Rattle.certificate_checker.specs.declared.fixings.Fixing.TheVariants.{Zero, One, Free}
use Rattle.branch_bound.proofs.OnesLemmas.{fits_from, over_not_fits, gains_are, nothing_taken}

-- marks on the way to the second child
pub zero_marks : (marks now : List Fixing) (j : ℕ) → now ≡ slice_set marks j One → slice_set now j Zero ≡ slice_set marks j Zero
zero_marks marks now j is = ap (λ l. slice_set l j Zero) is ∙ set_twice marks j One Zero

-- a full assignment that is known to gain no more keeps the rule of a leaf
pub leaf_known : (s : PlainSide) (best : ℕ) (marks : List Fixing) → Fits s (taken s marks) → EntryBelow s best marks → ((j : ℕ) → j < length s.vars → fixing_of marks j ≡ Free → ⊥) → LeafHolds s best marks
leaf_known s best marks fits below full =
    record { full = full; gains = let sum = gains_are s marks in let most = below fits in omega (arith, sum, most) }

-- what is taken where a free variable is fixed to zero
zero_below : (n : ℕ) (marks : List Fixing) (j : ℕ) → fixing_of marks j ≡ Free → ones_below n (slice_set marks j Zero) ≡ ones_below n marks
zero_below zero marks j unfixed = refl
zero_below (suc n) marks j unfixed =
    let rest = zero_below n marks j unfixed in
    let here : number_if (fixing_of (slice_set marks j Zero) n) n ≡ number_if (fixing_of marks n) n =
    elim (cases_eq n j) [
      | inl same ↦
          let free_there : fixing_of marks n ≡ Free = subst (λ i. fixing_of marks i ≡ Free) (sym same) unfixed in
          let zero_there : fixing_of (slice_set marks j Zero) n ≡ Zero = subst (λ i. fixing_of (slice_set marks j Zero) i ≡ Zero) (sym same) (mark_same marks j Zero (free_inside marks j unfixed)) in
          ap (λ m. number_if m n) zero_there ∙ sym (ap (λ m. number_if m n) free_there)
      | inr other ↦ ap (λ m. number_if m n) (mark_other marks j Zero n other)
    ] in
    ap (λ ns. ns ++ number_if (fixing_of (slice_set marks j Zero) n) n) rest ∙ ap (λ ns. ones_below n marks ++ ns) here

-- what is taken fits where no row is exceeded
pub within_fits : (s : PlainSide) (marks : List Fixing) → ((row : ℕ) → OverHolds s marks row → ⊥) → Fits s (taken s marks)
within_fits s marks within =
    fits_from s marks (λ row inside.
    elim (cases_lt (slice_index s.rows row) (load_of s marks row)) [
      | inl over ↦ absurd (within row record { inside = inside; exceeded = over })
      | inr held ↦ held
    ])

-- a child that fixes a free variable to zero is tried with its parent
pub zero_tried : (s : PlainSide) (best more : ℕ) (marks second : List Fixing) (j : ℕ) → FailsEveryLeafRule s best marks → EntryBelow s best marks → best ≤ more → fixing_of marks j ≡ Free → second ≡ slice_set marks j Zero → IsTried s more second
zero_tried s best more marks second j fails below grows unfixed is =
    let fits = within_fits s marks fails.within in
    let same : taken s second ≡ taken s marks = ap (λ m. taken s m) is ∙ zero_below (length s.vars) marks j unfixed in
    let most = below fits in (
      subst (λ take. Fits s take) (sym same) fits,
      λ any. subst (λ take. taken_gains s take ≤ more + s.fixed) (sym same) (omega (arith, most, grows)),
    )

pub opens : (s : PlainSide) (best : ℕ) (marks : List Fixing) (j : ℕ) → Fits s (taken s marks) → IsGreatestFree s marks j → (DualHolds s best marks 1 [] → ⊥) → FailsEveryLeafRule s best marks
opens s best marks j fits greatest unbounded =
    record {
      within = λ row over. over_not_fits s marks row over fits;
      open_or_better = λ leaf. leaf.full j greatest.inside greatest.holds;
      unbounded = unbounded;
    }

kept_leaf : (m : Fixing) (gain : ℕ) → (m ≡ Free → ⊥) → kept m (1 * gain) 0 ≤ if_one m gain
kept_leaf Zero gain full = omega arith
kept_leaf One gain full = omega arith
kept_leaf Free gain full = absurd (full refl)

-- a full assignment that gains no more keeps the dual rule, too
pub leaf_dual : (s : PlainSide) (best : ℕ) (marks : List Fixing) → LeafHolds s best marks → DualHolds s best marks 1 []
leaf_dual s best marks leaf =
    let less = below_at_most (kept_at s marks 1 []) (λ j. if_one (fixing_of marks j) (gain_at s.vars j)) (length s.vars) (λ j inside. kept_leaf (fixing_of marks j) (gain_at s.vars j) (leaf.full j inside)) in
    let gains = leaf.gains in
    record { least = omega arith; most = omega arith; rows = tt; sums = omega (arith, less, gains) }

-- nothing is taken at first, so the first entry is tried
pub first_fits : (s : PlainSide) → Fits s (taken s (all_free s))
first_fits s =
    subst (λ take. Fits s take) (sym (nothing_taken s)) record { numbers = tt; rows = λ row inside. omega arith }

pub first_tried : (s : PlainSide) (best : ℕ) (marks : List Fixing) → marks ≡ all_free s → IsTried s best marks
first_tried s best marks is =
    let none = ap (λ ms. taken_gains s (taken s ms)) is ∙ ap (λ take. taken_gains s take) (nothing_taken s) in (
      subst (λ ms. Fits s (taken s ms)) (sym is) (first_fits s),
      λ any. omega (arith, none),
    )

-- the first entry fails every leaf rule where the dual rule without multipliers fails
pub first_fails : (s : PlainSide) (best : ℕ) → (DualHolds s best (all_free s) 1 [] → ⊥) → FailsEveryLeafRule s best (all_free s)
first_fails s best unbounded =
    record {
      within = λ row over. over_not_fits s (all_free s) row over (first_fits s);
      open_or_better = λ leaf. unbounded (leaf_dual s best (all_free s) leaf);
      unbounded = unbounded;
    }
