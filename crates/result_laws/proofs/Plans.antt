-- The jobs of a switch are those that leave one region, and then those that enter the other.
use Rattle.std.proofs.Common.{◌≡◌, ◌⊎◌, inl, inr, ℕ, suc, ◌+◌, ◌-◌, ◌%◌, ◌<◌, ◌≤◌, ◌==◌, Bool, true, false, if◌then◌else◌, List, [], ◌∷◌, ◌++◌, length, refl, sym, ◌∙◌, ap, subst, arith}
use Rattle.std.specs.Prelude.{Option, Some, None}
use Rattle.std.proofs.lemmas.Bool.{cases_eq, cases_lt}
use Rattle.std.proofs.lemmas.Bool.Decides.{nat_tests}
use Rattle.object_graph.specs.declared.parts.Graph.{Graph}
use Rattle.placement_programme.specs.declared.variables.VarName.{VarName}
use Rattle.placement_programme.specs.declared.variables.VarName.TheVariants.{StaticData, StaticCode, OverlayData, OverlayCode, KeptData}
use Rattle.patch_code.specs.declared.job.CopyJob.{CopyJob}
use Rattle.patch_code.specs.Parts.{SwitchPlan, twin_of, twin_in}
use Rattle.patch_code.specs.Switching.{switch_jobs}
use Rattle.patch_code.specs.Counts.{is_region, kept_unless, side_jobs}
use Rattle.patch_code.proofs.Counts.{switch_runs_jobs_so}
use Rattle.relocator.specs.declared.slots.Slot.{Slot}
use Rattle.relocator.specs.Slots.{pair_of}
use Rattle.relocator.specs.Laws.{no_slot, slot_at}
use Rattle.relocator.proofs.WeightLemmas.{IsAmong}
use Rattle.result_laws.specs.ChosenJobs.{Images, is_overlaid, is_kept, job_into, jobs_home, next_code, entering, leaving, HasTwins, IsPlanOf}
use Rattle.result_laws.specs.Memories.{stays}
use Rattle.result_laws.proofs.Moved.{entered_jobs}
use Rattle.result_laws.proofs.Leaving.{IsLeft}

-- ---- twins

same_test : (x y a b : ℕ) → (x ≡ y → a ≡ b) → (a ≡ b → x ≡ y) → (x == y) ≡ (a == b)
same_test x y a b to from = elim (cases_eq x y) [
  | inl same ↦ let other = to same in grind (arith, nat_tests, same, other)
  | inr apart ↦ elim (cases_eq a b) [
    | inl other ↦ absurd (apart (from other))
    | inr other ↦ grind (arith, nat_tests, apart, other)
  ]
]

-- a region without a twin
abbrev HasNoTwin : Bool → ℕ → ℕ → Type 0
HasNoTwin twins regions a = (twins ≡ false) ⊎ ((a % 2 ≡ 0 → ⊥) × (regions ≤ a))

none_kept : (x : Bool) (jobs : List CopyJob) → jobs ≡ [] → [] ≡ (if x then [] else jobs)
none_kept true jobs none = refl
none_kept false jobs none = sym none

-- a region's twin is the other one of its pair; and where it has none nothing is kept
kept_is : (twins : Bool) (regions a b : ℕ) (jobs : List CopyJob) → (a ≡ b → ⊥) → 1 ≤ a → (HasNoTwin twins regions a → jobs ≡ []) → kept_unless (if twins then twin_of regions a else None) b jobs ≡ (if stays twins a b then [] else jobs)
kept_is false regions a b jobs other some none = sym (none (inl refl))
kept_is true regions a b jobs other some none =
    elim (cases_eq (a % 2) 0) [
      | inl even ↦
          let twin : twin_of regions a ≡ Some (a - 1) = grind (arith, nat_tests, even) in
          ap (λ (t : Option ℕ). kept_unless t b jobs) twin
          ∙ ap (λ (x : Bool). if x then [] else jobs)
          (same_test b (a - 1) (pair_of a) (pair_of b) (λ is. omega (arith, is, even, some)) (λ is. omega (arith, is, even, some, other)))
      | inr odd ↦ elim (cases_lt a regions) [
        | inl below ↦
            let twin : twin_of regions a ≡ Some (a + 1) = grind (arith, nat_tests, odd, below) in
            ap (λ (t : Option ℕ). kept_unless t b jobs) twin
            ∙ ap (λ (x : Bool). if x then [] else jobs)
            (same_test b (a + 1) (pair_of a) (pair_of b) (λ is. omega (arith, is, odd)) (λ is. omega (arith, is, odd, other)))
        | inr last ↦
            let twin : twin_of regions a ≡ None = grind (arith, nat_tests, odd, last) in
            ap (λ (t : Option ℕ). kept_unless t b jobs) twin ∙ none_kept (stays true a b) jobs (none (inr (odd, last)))
      ]
    ]

-- ---- nothing kept

leaving_none : (which : VarName → Bool) (g : Graph) (slots : List Slot) → ((k : ℕ) → k < length slots → which (slot_at slots k).name ≡ false) → leaving which g slots ≡ []
leaving_none which g [] none = refl
leaving_none which g (s ∷ ss) none =
    ap (λ (x : Bool). (if x then jobs_home g s.at s.name else []) ++ leaving which g ss) (none 0 (omega arith))
    ∙ leaving_none which g ss (λ k below. none (suc k) (omega (arith, below)))

entering_none : (which : VarName → Bool) (g : Graph) (images : Images) (n : ℕ) (slots : List Slot) → ((k : ℕ) → k < length slots → which (slot_at slots k).name ≡ false) → entering which g images n slots ≡ []
entering_none which g images n [] none = refl
entering_none which g images n (s ∷ ss) none =
    ap (λ (x : Bool). (if x then job_into g images n s.at s.name ∷ [] else []) ++ entering which g images (next_code s.name n) ss) (none 0 (omega arith))
    ∙ entering_none which g images (next_code s.name n) ss (λ k below. none (suc k) (omega (arith, below)))

name_unkept : (twins : Bool) (regions a : ℕ) (name : VarName) → IsAmong regions name → HasTwins twins name → HasNoTwin twins regions a → is_kept a name ≡ false
name_unkept twins regions a (StaticData object) among has none = refl
name_unkept twins regions a (StaticCode first last) among has none = refl
name_unkept twins regions a (OverlayData own object) among has none = refl
name_unkept twins regions a (OverlayCode own first last) among has none = refl
name_unkept twins regions a (KeptData pair object) among has (inl off) = absurd (cc (off, has))
name_unkept twins regions a (KeptData pair object) among has (inr last) =
    let apart : pair_of a ≡ pair → ⊥ = λ is. omega (arith, is, last.0, last.1, among.1) in
    grind (arith, nat_tests, apart)

-- ---- sides

module _ (g : Graph) (slots : List Slot) (images : Images) (regions : ℕ) (w : SwitchPlan (List CopyJob)) (plan : IsPlanOf g images slots regions w) (among : (k : ℕ) → k < length slots → IsAmong regions (slot_at slots k).name) where
  region_is : (r : ℕ) → 1 ≤ r → r ≤ regions → is_region w.regions r ≡ true
  region_is r some within = let count = plan.count in let below : r ≤ w.regions = omega (arith, count, within) in grind (arith, nat_tests, some, below)

  unkept : (a : ℕ) → HasNoTwin w.twins w.regions a → (k : ℕ) → k < length slots → is_kept a (slot_at slots k).name ≡ false
  unkept a none k below =
      name_unkept w.twins regions a (slot_at slots k).name (among k below) (plan.twins k no_slot below)
      (subst (λ (n : ℕ). HasNoTwin w.twins n a) plan.count none)

  side_is : (always kept : ℕ → List CopyJob) (a b : ℕ) (xs ys : List CopyJob) → (a ≡ b → ⊥) → 1 ≤ a → a ≤ regions → always (a - 1) ≡ xs → kept (a - 1) ≡ ys → (HasNoTwin w.twins w.regions a → ys ≡ []) → side_jobs w always kept a b ≡ xs ++ (if stays w.twins a b then [] else ys)
  side_is always kept a b xs ys other some within first second none =
      ap (λ (x : Bool). if x then always (a - 1) ++ kept_unless (twin_in w a) b (kept (a - 1)) else []) (region_is a some within)
      ∙ ap (λ (js : List CopyJob). js ++ kept_unless (twin_in w a) b (kept (a - 1))) first
      ∙ ap (λ (js : List CopyJob). xs ++ kept_unless (twin_in w a) b js) second
      ∙ ap (λ (js : List CopyJob). xs ++ js) (kept_is w.twins w.regions a b ys other some none)

  -- a region without a twin has nothing kept
  twinless : (twins : Bool) (count a : ℕ) → (if twins then twin_of count a else None) ≡ None → HasNoTwin twins count a
  twinless false count a none = inl refl
  twinless true count a none =
      elim (cases_eq (a % 2) 0) [
        | inl even ↦ let twin : twin_of count a ≡ Some (a - 1) = grind (arith, nat_tests, even) in absurd (cc (none, twin))
        | inr odd ↦ elim (cases_lt a count) [
          | inl below ↦ let twin : twin_of count a ≡ Some (a + 1) = grind (arith, nat_tests, odd, below) in absurd (cc (none, twin))
          | inr last ↦ inr (odd, last)
        ]
      ]

  pub kept_none : (i : ℕ) → i < regions → twin_in w (i + 1) ≡ None → (w.kept_leave i ≡ []) × (w.kept_enter i ≡ [])
  kept_none i below none =
      let alone = twinless w.twins w.regions (i + 1) none in (
        plan.kept_leave i below ∙ leaving_none (is_kept (i + 1)) g slots (unkept (i + 1) alone),
        plan.kept_enter i below ∙ entering_none (is_kept (i + 1)) g images 0 slots (unkept (i + 1) alone),
      )

  pub left_is : (s r : ℕ) → (s ≡ r → ⊥) → s ≤ regions → IsLeft w.twins s r g slots (side_jobs w w.leave w.kept_leave s r)
  left_is s r other within = elim (cases_eq s 0) [
    | inl start ↦
        let none : is_region w.regions s ≡ false = grind (arith, nat_tests, start) in
        inr (start, ap (λ (x : Bool). if x then w.leave (s - 1) ++ kept_unless (twin_in w s) r (w.kept_leave (s - 1)) else []) none)
    | inr some ↦
        let back : s - 1 + 1 ≡ s = omega (arith, some) in
        inl (side_is w.leave w.kept_leave s r (leaving (is_overlaid s) g slots) (leaving (is_kept s) g slots) other (omega (arith, some)) within
        (plan.leave (s - 1) (omega (arith, some, within)) ∙ ap (λ (x : ℕ). leaving (is_overlaid x) g slots) back)
        (plan.kept_leave (s - 1) (omega (arith, some, within)) ∙ ap (λ (x : ℕ). leaving (is_kept x) g slots) back)
        (λ none. leaving_none (is_kept s) g slots (unkept s none)))
  ]

  pub entered_is : (r s : ℕ) → (r ≡ s → ⊥) → 1 ≤ r → r ≤ regions → side_jobs w w.enter w.kept_enter r s ≡ entered_jobs w.twins r s g images slots
  entered_is r s other some within =
      let back : r - 1 + 1 ≡ r = omega (arith, some) in
      side_is w.enter w.kept_enter r s (entering (is_overlaid r) g images 0 slots) (entering (is_kept r) g images 0 slots) other some within
      (plan.enter (r - 1) (omega (arith, some, within)) ∙ ap (λ (x : ℕ). entering (is_overlaid x) g images 0 slots) back)
      (plan.kept_enter (r - 1) (omega (arith, some, within)) ∙ ap (λ (x : ℕ). entering (is_kept x) g images 0 slots) back)
      (λ none. entering_none (is_kept r) g images 0 slots (unkept r none))

  pub jobs_are : (s r : ℕ) → (s ≡ r → ⊥) → 1 ≤ r → r ≤ regions → switch_jobs w s r ≡ side_jobs w w.leave w.kept_leave s r ++ entered_jobs w.twins r s g images slots
  jobs_are s r other some within =
      switch_runs_jobs_so w s r
      ∙ ap (λ (js : List CopyJob). side_jobs w w.leave w.kept_leave s r ++ js) (entered_is r s (λ same. other (sym same)) some within)
