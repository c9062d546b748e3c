-- The words of a switch, as the routine runs them and as they are counted.
use Rattle.std.proofs.Common.{◌≡◌, ◌∙◌, ℕ, zero, suc, ◌+◌, ◌-◌, ◌*◌, ◌%◌, ◌≤◌, ◌==◌, nat_lt, nat_le, Bool, true, false, ◌&&◌, if◌then◌else◌, List, length, Some, None, refl, sym, ap, arith}
use Rattle.std.proofs.lemmas.Bool.{eqb-true}
use Rattle.std.proofs.lemmas.Bool.Decides.{nat_tests}
use Rattle.patch_code.specs.declared.job.CopyJob.{CopyJob}
use Rattle.patch_code.specs.Jobs.{fences, jobs_run}
use Rattle.patch_code.specs.Parts.{SwitchPlan}
use Rattle.patch_code.specs.Parts as parts
use Rattle.patch_code.specs.Switching.{routine_run, switch_jobs}
use Rattle.patch_code.specs.Counts.{is_region, twin_test_run}
use Rattle.patch_code.proofs.Counts.{switch_runs_words_so}
use Rattle.energy_model.specs.Energy.{Scene, fence_words, test_words, twin_words, switch_words}

-- ---- regions

pub region_is : (regions r : ℕ) → suc r ≤ regions → is_region regions (suc r) ≡ true
region_is regions r within = grind (arith, nat_tests, within)

tests_are : (regions r : ℕ) → r ≤ regions → (if is_region regions r then 3 * regions - 1 else 3 * regions) ≡ test_words regions r
tests_are regions zero within = refl
tests_are regions (suc r) within = ap (λ (b : Bool). if b then 3 * regions - 1 else 3 * regions) (region_is regions r within)

pub fence_is : (fence : Bool) → length (fences fence) ≡ (if fence then 1 else 0)
fence_is true = refl
fence_is false = refl

-- ---- twins

module _ (regions r other : ℕ) (within : suc r ≤ regions) where
  -- the test for a twin
  abbrev test_for : ℕ → ℕ
  test_for twin = if twin == other then 3 else 2

  abbrev words_for : ℕ → ℕ
  words_for twin = if nat_lt 0 (suc r) && nat_le twin regions then test_for twin else 0

  turned : (twin : ℕ) → (if other == twin then 3 else 2) ≡ test_for twin
  turned twin = let same : (other == twin) ≡ (twin == other) = grind (arith, nat_tests) in ap (λ (b : Bool). if b then 3 else 2) same

  -- that of a first twin, if there is a second
  first_by : (some : Bool) → twin_test_run (if some then Some (suc r + 1) else None) other ≡ (if some then test_for (r + 2) else 0)
  first_by true =
      let at : suc r + 1 ≡ r + 2 = omega arith in
      ap (λ (n : ℕ). if other == n then 3 else 2) at ∙ turned (r + 2)
  first_by false = refl

  first_is : (r % 2 == 0) ≡ true → twin_test_run (parts.twin_of regions (suc r)) other ≡ twin_words regions (suc r) other
  first_is is =
      let even = eqb-true (r % 2) 0 is in
      let odd : suc r % 2 ≡ 1 = omega (arith, even) in
      let some : nat_lt 0 (suc r) && nat_le (r + 2) regions ≡ nat_lt (suc r) regions = grind (arith, nat_tests) in
      ap (λ (n : ℕ). twin_test_run (if n == 0 then Some (suc r - 1) else (if nat_lt (suc r) regions then Some (suc r + 1) else None)) other) odd
      ∙ (first_by (nat_lt (suc r) regions)
      ∙ (ap (λ (b : Bool). if b then test_for (r + 2) else 0) (sym some) ∙ sym (ap words_for (ap (λ (b : Bool). if b then r + 2 else r) is))))

  second_is : (r % 2 == 0) ≡ false → twin_test_run (parts.twin_of regions (suc r)) other ≡ twin_words regions (suc r) other
  second_is is =
      let odd : (suc r % 2 == 0) ≡ true = grind (arith, nat_tests, is) in
      let before : suc r - 1 ≡ r = omega arith in
      let some : nat_lt 0 (suc r) && nat_le r regions ≡ true = grind (arith, nat_tests, within) in
      let tested : twin_test_run (parts.twin_of regions (suc r)) other ≡ (if other == (suc r - 1) then 3 else 2) =
      ap (λ (b : Bool). twin_test_run (if b then Some (suc r - 1) else (if nat_lt (suc r) regions then Some (suc r + 1) else None)) other) odd in
      let here : (if other == (suc r - 1) then 3 else 2) ≡ test_for r =
      ◌∙◌ {b = if other == r then 3 else 2} (ap (λ (n : ℕ). if other == n then 3 else 2) before) (turned r) in
      let counted : test_for r ≡ twin_words regions (suc r) other =
      ◌∙◌ {b = words_for r} (ap (λ (b : Bool). if b then test_for r else 0) (sym some)) (sym (ap words_for (ap (λ (b : Bool). if b then r + 2 else r) is))) in
      tested ∙ (here ∙ counted)

  twin_by : (even : Bool) → (r % 2 == 0) ≡ even → twin_test_run (parts.twin_of regions (suc r)) other ≡ twin_words regions (suc r) other
  twin_by true is = first_is is
  twin_by false is = second_is is

  twin_is : twin_test_run (parts.twin_of regions (suc r)) other ≡ twin_words regions (suc r) other
  twin_is = twin_by (r % 2 == 0) refl

none_twice : (twins : Bool) → zero ≡ (if twins then zero else zero)
none_twice true = refl
none_twice false = refl

twins_by : (twins : Bool) (regions r other : ℕ) → r ≤ regions → (if is_region regions r then twin_test_run (if twins then parts.twin_of regions r else None) other else 0) ≡ (if twins then twin_words regions r other else 0)
twins_by twins regions zero other within = none_twice twins
twins_by true regions (suc r) other within =
    ap (λ (b : Bool). if b then twin_test_run (parts.twin_of regions (suc r)) other else 0) (region_is regions r within) ∙ twin_is regions r other within
twins_by false regions (suc r) other within = ap (λ (b : Bool). if b then 0 else 0) (region_is regions r within)

both_twins : (twins : Bool) (x y : ℕ) → (if twins then x else 0) + (if twins then y else 0) ≡ (if twins then x + y else 0)
both_twins true x y = refl
both_twins false x y = omega arith

-- ---- the whole

-- the words of the stub and of the routine are the four of the test, those of a switch, and those of its jobs
pub switch_run : (p : SwitchPlan (List CopyJob)) (w : Scene) (s r : ℕ) → p.regions ≡ w.region_count → p.fence_i ≡ w.board.fence_i → p.twins ≡ w.board.twins → s ≤ p.regions → r ≤ p.regions → 22 + routine_run p s r ≡ 4 + switch_words w s r + jobs_run (switch_jobs p s r)
switch_run p w s r count fence twins from to =
    let n : ℕ = p.regions in
    let run = switch_runs_words_so p s r in
    let fence_run : length (fences p.fence_i) ≡ fence_words w.board = fence_is p.fence_i ∙ ap (λ (b : Bool). if b then 1 else 0) fence in
    let leave = tests_are n s from ∙ ap (λ (k : ℕ). test_words k s) count in
    let enter = tests_are n r to ∙ ap (λ (k : ℕ). test_words k r) count in
    let left = twins_by p.twins n s r from in
    let entered = twins_by p.twins n r s to in
    let both = both_twins p.twins (twin_words n s r) (twin_words n r s) in
    let here : (if p.twins then twin_words n s r + twin_words n r s else 0) ≡ (if w.board.twins then twin_words w.region_count s r + twin_words w.region_count r s else 0) =
    ap (λ (b : Bool). if b then twin_words n s r + twin_words n r s else 0) twins
    ∙ ap (λ (k : ℕ). if w.board.twins then twin_words k s r + twin_words k r s else 0) count in
    omega (arith, run, fence_run, leave, enter, left, entered, both, here)
