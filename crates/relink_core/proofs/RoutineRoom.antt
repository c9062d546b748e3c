-- How many bytes the routine takes: what is fixed, and its jobs.
use Rattle.std.proofs.Common.{◌≡◌, ◌∙◌, inl, inr, ℕ, zero, suc, ◌+◌, ◌-◌, ◌*◌, ◌%◌, ◌≤◌, ◌==◌, nat_lt, Bool, true, false, List, length, refl, ap, arith, if◌then◌else◌}
use Rattle.std.specs.Prelude.{Option, Some, None}
use Rattle.std.proofs.lemmas.Bool.{cases_eq}
use Rattle.std.proofs.lemmas.Bool.Decides.{nat_tests}
use Rattle.list_checks.specs.Sorted.{sum_below}
use Rattle.list_checks.proofs.SumLemmas.{sum_zero}
use Rattle.placement_programme.specs.Rows.{pairs_of}
use Rattle.patch_code.specs.declared.job.CopyJob.{CopyJob}
use Rattle.patch_code.specs.Jobs.{fences}
use Rattle.patch_code.specs.Parts.{SwitchPlan, twin_of, twin_in}
use Rattle.patch_code.specs.Counts.{kept_words, first_words}
use Rattle.patch_code.specs.Overlay.{OverlayPlan, switching, switch_bytes}
use Rattle.patch_code.proofs.SizeLemmas.{some_words}
use Rattle.relink_core.specs.Counting.{routine_fixed}
use Rattle.relink_core.proofs.JobCounts.{planned_jobs}

-- the tests for the twin of a region, if it has one
abbrev twin_tests : Option ℕ → ℕ
twin_tests None = 0
twin_tests (Some twin) = 6

abbrev tests_at : SwitchPlan (List CopyJob) → ℕ → ℕ
tests_at w i = twin_tests (twin_in w (i + 1))

two_kept : (twin : Option ℕ) (leave enter : List CopyJob) → kept_words twin leave + kept_words twin enter ≤ 11 * (length leave + length enter) + twin_tests twin
two_kept None leave enter = omega arith
two_kept (Some twin) leave enter = omega arith

all_words : (w : SwitchPlan (List CopyJob)) (n : ℕ) → first_words w n ≤ 6 * n + 11 * sum_below (planned_jobs w) n + sum_below (tests_at w) n
all_words w zero = omega arith
all_words w (suc n) =
    let earlier = all_words w n in
    let here = two_kept (twin_in w (n + 1)) (w.kept_leave n) (w.kept_enter n) in
    omega (arith, earlier, here)

few_tests : (twin : Option ℕ) → twin_tests twin ≤ 6
few_tests None = omega arith
few_tests (Some twin) = omega arith

tests_below : (w : SwitchPlan (List CopyJob)) (n : ℕ) → sum_below (tests_at w) n ≤ 6 * n
tests_below w zero = omega arith
tests_below w (suc n) =
    let earlier = tests_below w n in
    let here = few_tests (twin_in w (n + 1)) in
    omega (arith, earlier, here)

-- a last region without a partner has no twin
last_alone : (regions : ℕ) → regions % 2 ≡ 1 → twin_of regions regions ≡ None
last_alone regions odd =
    let even : (regions % 2 == 0) ≡ false = grind (arith, nat_tests, odd) in
    let last : nat_lt regions regions ≡ false = grind (arith, nat_tests) in
    rw (even, last) refl

all_tests : (w : SwitchPlan (List CopyJob)) (b : Bool) → w.twins ≡ b → sum_below (tests_at w) w.regions ≤ 12 * pairs_of b w.regions
all_tests w false none =
    let zero_all = sum_zero (tests_at w) w.regions (λ i below. ap (λ (b : Bool). twin_tests (if b then twin_of w.regions (i + 1) else None)) none) in
    omega (arith, zero_all)
all_tests w true twins =
    elim (cases_eq (w.regions % 2) 0) [
      | inl even ↦ let all = tests_below w w.regions in omega (arith, all, even)
      | inr odd ↦
          let m = w.regions - 1 in
          let size : w.regions ≡ suc m = omega (arith, odd) in
          let all = tests_below w m in
          let is : twin_in w (m + 1) ≡ twin_of w.regions (m + 1) = ap (λ (b : Bool). if b then twin_of w.regions (m + 1) else None) twins in
          let number : m + 1 ≡ w.regions = omega (arith, size) in
          let alone : twin_of w.regions (m + 1) ≡ None = ap (twin_of w.regions) number ∙ last_alone w.regions (omega (arith, odd)) in
          let none : tests_at w m ≡ 0 = ap twin_tests (is ∙ alone) in
          let whole : sum_below (tests_at w) w.regions ≡ sum_below (tests_at w) (suc m) = ap (sum_below (tests_at w)) size in
          omega (arith, all, none, whole, odd, size)
    ]

-- without a region there is no routine
pub no_bytes : (p : OverlayPlan) → p.regions ≡ 0 → switch_bytes p ≡ 0
no_bytes p none =
    let test : (p.regions == 0) ≡ true = grind (arith, nat_tests, none) in
    rw test refl

some_fixed : (b : Bool) (n : ℕ) → b ≡ false → (if b then 0 else n) ≡ n
some_fixed b n is = rw is refl

-- the routine takes at most the fixed bytes of its regions, and 44 for each job
pub routine_fits : (p : OverlayPlan) → switch_bytes p ≤ routine_fixed p.start.fence_i p.twins p.regions + 44 * sum_below (planned_jobs (switching p)) p.regions
routine_fits p =
    elim (cases_eq p.regions 0) [
      | inl none ↦ let empty = no_bytes p none in omega (arith, empty)
      | inr some ↦
          let words = some_words p some in
          let all = all_words (switching p) p.regions in
          let tests = all_tests (switching p) p.twins refl in
          let fixed = some_fixed (p.regions == 0) (4 * (5 + 6 * p.regions) + 4 * length (fences p.start.fence_i) + 48 * pairs_of p.twins p.regions) (grind (arith, nat_tests, some)) in
          omega (arith, words, all, tests, fixed)
    ]
