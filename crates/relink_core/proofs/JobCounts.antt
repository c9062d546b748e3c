-- How many jobs a choice has: those of each name, in all regions together.
use Rattle.std.proofs.Common.{◌≡◌, ◌∙◌, inl, inr, ℕ, suc, ◌+◌, ◌-◌, ◌*◌, ◌/◌, ◌<◌, ◌≤◌, ◌==◌, Bool, true, false, List, [], ◌∷◌, length, map, refl, ap, arith, if◌then◌else◌}
use Rattle.std.specs.List.{sum_by}
use Rattle.std.proofs.lemmas.Bool.{cases_eq, cases_lt}
use Rattle.std.proofs.lemmas.Bool.Decides.{nat_tests}
use Rattle.std.proofs.lemmas.List.{length-append}
use Rattle.std.proofs.lemmas.List.Sums.{sum_by-cons}
use Rattle.list_checks.specs.Sorted.{sum_below}
use Rattle.list_checks.proofs.SumLemmas.{sum_same, sum_zero, sum_rises, sum_stays}
use Rattle.object_graph.specs.declared.parts.Graph.{Graph}
use Rattle.cell_values.specs.Objects.{object_of}
use Rattle.placement_programme.specs.declared.variables.VarName.{VarName}
use Rattle.placement_programme.specs.declared.variables.VarName.TheVariants.{StaticData, StaticCode, OverlayData, OverlayCode, KeptData}
use Rattle.patch_code.specs.declared.job.CopyJob.{CopyJob}
use Rattle.patch_code.specs.Parts.{SwitchPlan}
use Rattle.relocator.specs.declared.slots.Slot.{Slot}
use Rattle.relocator.specs.Slots.{pair_of}
use Rattle.result_laws.specs.ChosenJobs.{Images, is_static, is_overlaid, is_kept, back_home, home_jobs, job_into, jobs_home, next_code, entering, leaving, start_jobs, IsPlanOf}
use Rattle.relink_core.specs.Counting.{jobs_back, counts_into, counts_home, region_jobs, all_jobs}
use Rattle.relink_core.specs.Naming.{name_in}
use Rattle.relink_core.proofs.Sums.{sum_exchanged}

-- ---- the jobs of one name

home_count : (g : Graph) (at o : ℕ) → length (home_jobs g at o) ≡ (if (object_of g o).writable then 1 else 0)
home_count g at o = by (object_of g o).writable (back_home g at o)
  where
    by : (b : Bool) (job : CopyJob) → length (if b then job ∷ [] else []) ≡ (if b then 1 else 0)
    by true job = refl
    by false job = refl

back_count : (g : Graph) (at : ℕ) (name : VarName) → length (jobs_home g at name) ≡ jobs_back g name
back_count g at (StaticData o) = home_count g at o
back_count g at (StaticCode first last) = refl
back_count g at (OverlayData own o) = home_count g at o
back_count g at (OverlayCode own first last) = refl
back_count g at (KeptData pair o) = home_count g at o

-- ---- of slots

abbrev pub by_name : (VarName → ℕ) → Slot → ℕ
by_name f s = f s.name

pub names_listed : (f : VarName → ℕ) (ss : List Slot) → sum_by f (map name_in ss) ≡ sum_by (by_name f) ss
names_listed f [] = refl
names_listed f (s ∷ ss) =
    let one = sum_by-cons f s.name (map name_in ss) in
    let other = sum_by-cons (by_name f) s ss in
    let rest = names_listed f ss in
    omega (arith, one, other, rest)

pub entering_count : (which : VarName → Bool) (g : Graph) (images : Images) (n : ℕ) (slots : List Slot) → length (entering which g images n slots) ≡ sum_by (by_name (counts_into which)) slots
entering_count which g images n [] = refl
entering_count which g images n (s ∷ ss) =
    let whole = length-append (if which s.name then job_into g images n s.at s.name ∷ [] else []) (entering which g images (next_code s.name n) ss) in
    let here = first (which s.name) (job_into g images n s.at s.name) in
    let rest = entering_count which g images (next_code s.name n) ss in
    let sum = sum_by-cons (by_name (counts_into which)) s ss in
    omega (arith, whole, here, rest, sum)
  where
    first : (b : Bool) (job : CopyJob) → length (if b then job ∷ [] else []) ≡ (if b then 1 else 0)
    first true job = refl
    first false job = refl

pub leaving_count : (which : VarName → Bool) (g : Graph) (slots : List Slot) → length (leaving which g slots) ≡ sum_by (by_name (counts_home which g)) slots
leaving_count which g [] = refl
leaving_count which g (s ∷ ss) =
    let whole = length-append (if which s.name then jobs_home g s.at s.name else []) (leaving which g ss) in
    let here = first (which s.name) (jobs_home g s.at s.name) (jobs_back g s.name) (back_count g s.at s.name) in
    let rest = leaving_count which g ss in
    let sum = sum_by-cons (by_name (counts_home which g)) s ss in
    omega (arith, whole, here, rest, sum)
  where
    first : (b : Bool) (jobs : List CopyJob) (n : ℕ) → length jobs ≡ n → length (if b then jobs else []) ≡ (if b then n else 0)
    first true jobs n is = is
    first false jobs n is = refl

-- ---- in all regions

-- the jobs of region i + 1 in a plan
abbrev pub planned_jobs : SwitchPlan (List CopyJob) → ℕ → ℕ
planned_jobs w i = length (w.leave i) + length (w.enter i) + (length (w.kept_leave i) + length (w.kept_enter i))

four_sums : (f g h k : Slot → ℕ) (slots : List Slot) → sum_by (λ s. f s + g s + (h s + k s)) slots ≡ sum_by f slots + sum_by g slots + (sum_by h slots + sum_by k slots)
four_sums f g h k [] = refl
four_sums f g h k (s ∷ ss) =
    let whole = sum_by-cons (λ t. f t + g t + (h t + k t)) s ss in
    let one = sum_by-cons f s ss in
    let two = sum_by-cons g s ss in
    let three = sum_by-cons h s ss in
    let four = sum_by-cons k s ss in
    let rest = four_sums f g h k ss in
    omega (arith, whole, one, two, three, four, rest)

region_count : (g : Graph) (images : Images) (slots : List Slot) (regions : ℕ) (w : SwitchPlan (List CopyJob)) (i : ℕ) → IsPlanOf g images slots regions w → i < regions → planned_jobs w i ≡ sum_by (by_name (region_jobs g i)) slots
region_count g images slots regions w i plan below =
    let leave = ap (λ (js : List CopyJob). length js) (plan.leave i below) ∙ leaving_count (is_overlaid (i + 1)) g slots in
    let enter = ap (λ (js : List CopyJob). length js) (plan.enter i below) ∙ entering_count (is_overlaid (i + 1)) g images 0 slots in
    let kept_leave = ap (λ (js : List CopyJob). length js) (plan.kept_leave i below) ∙ leaving_count (is_kept (i + 1)) g slots in
    let kept_enter = ap (λ (js : List CopyJob). length js) (plan.kept_enter i below) ∙ entering_count (is_kept (i + 1)) g images 0 slots in
    let sum = four_sums (by_name (counts_home (is_overlaid (i + 1)) g)) (by_name (counts_into (is_overlaid (i + 1)))) (by_name (counts_home (is_kept (i + 1)) g)) (by_name (counts_into (is_kept (i + 1)))) slots in
    omega (arith, leave, enter, kept_leave, kept_enter, sum)

-- all jobs of a plan are those of all names
pub jobs_counted : (g : Graph) (images : Images) (slots : List Slot) (regions : ℕ) (w : SwitchPlan (List CopyJob)) → IsPlanOf g images slots regions w → length (start_jobs g images slots) + sum_below (planned_jobs w) regions ≡ sum_by (by_name (all_jobs g regions)) slots
jobs_counted g images slots regions w plan =
    let start = entering_count is_static g images 0 slots in
    let each = sum_same (planned_jobs w) (λ i. sum_by (by_name (region_jobs g i)) slots) regions (λ i below. region_count g images slots regions w i plan below) in
    let turned = sum_exchanged (λ i. by_name (region_jobs g i)) slots regions in
    let both = two_sums (by_name (counts_into is_static)) (by_name (λ name. sum_below (λ i. region_jobs g i name) regions)) slots in
    omega (arith, start, each, turned, both)
  where
    two_sums : (f h : Slot → ℕ) (slots : List Slot) → sum_by (λ s. f s + h s) slots ≡ sum_by f slots + sum_by h slots
    two_sums f h [] = refl
    two_sums f h (s ∷ ss) =
        let whole = sum_by-cons (λ t. f t + h t) s ss in
        let one = sum_by-cons f s ss in
        let two = sum_by-cons h s ss in
        let rest = two_sums f h ss in
        omega (arith, whole, one, two, rest)

-- ---- of a name at most so many

-- what is so in at most one place, or in two places next to each other
one_place : (f : ℕ → ℕ) (m n x : ℕ) → f m ≤ x → ((i : ℕ) → (i ≡ m → ⊥) → f i ≡ 0) → sum_below f n ≤ x
one_place f m n x here none =
    let before = sum_zero f m (λ i below. none i (λ same. omega (arith, below, same))) in
    elim (cases_lt n (suc m)) [
      | inl less ↦ let rises = sum_rises f n (suc m) (omega (arith, less)) in omega (arith, rises, before, here)
      | inr more ↦
          let stays = sum_stays f (suc m) n more (λ i from below. none i (λ same. omega (arith, from, same))) in
          omega (arith, stays, before, here)
    ]

two_places : (f : ℕ → ℕ) (m n x : ℕ) → f m ≤ x → f (suc m) ≤ x → ((i : ℕ) → (i ≡ m → ⊥) → (i ≡ suc m → ⊥) → f i ≡ 0) → sum_below f n ≤ 2 * x
two_places f m n x here next none =
    let before = sum_zero f m (λ i below. none i (λ same. omega (arith, below, same)) (λ same. omega (arith, below, same))) in
    elim (cases_lt n (suc (suc m))) [
      | inl less ↦ let rises = sum_rises f n (suc (suc m)) (omega (arith, less)) in omega (arith, rises, before, here, next)
      | inr more ↦
          let stays = sum_stays f (suc (suc m)) n more (λ i from below. none i (λ same. omega (arith, from, same)) (λ same. omega (arith, from, same))) in
          omega (arith, stays, before, here, next)
    ]

if_most : (b : Bool) (x : ℕ) → (if b then x else 0) ≤ x
if_most true x = omega arith
if_most false x = omega arith

other_region : (own i x y : ℕ) → 1 ≤ own → (i ≡ own - 1 → ⊥) → (if own == i + 1 then x else 0) + (if own == i + 1 then y else 0) + (0 + 0) ≡ 0
other_region own i x y some other =
    let differ : own ≡ i + 1 → ⊥ = λ same. other (omega (arith, same)) in
    grind (arith, nat_tests, differ)

other_pair : (pair i x y : ℕ) → 1 ≤ pair → (i ≡ 2 * pair - 2 → ⊥) → (i ≡ suc (2 * pair - 2) → ⊥) → 0 + 0 + ((if pair_of (i + 1) == pair then x else 0) + (if pair_of (i + 1) == pair then y else 0)) ≡ 0
other_pair pair i x y some first second =
    let differ : pair_of (i + 1) ≡ pair → ⊥ = λ same. neither pair i some first second same in
    grind (arith, nat_tests, differ)
  where
    neither : (pair i : ℕ) → 1 ≤ pair → (i ≡ 2 * pair - 2 → ⊥) → (i ≡ suc (2 * pair - 2) → ⊥) → (i + 1 + 1) / 2 ≡ pair → ⊥
    neither pair i some first second same =
        elim (cases_lt i (2 * pair - 2)) [
          | inl less ↦ omega (arith, less, same, some)
          | inr more ↦ elim (cases_eq i (2 * pair - 2)) [
            | inl is ↦ first is
            | inr apart ↦ elim (cases_eq i (suc (2 * pair - 2))) [
              | inl is ↦ second is
              | inr behind ↦ omega (arith, more, apart, behind, same, some)
            ]
          ]
        ]

pub static_data_jobs : (g : Graph) (regions o : ℕ) → all_jobs g regions (StaticData o) ≡ 1
static_data_jobs g regions o =
    let none = sum_zero (λ i. region_jobs g i (StaticData o)) regions (λ i below. refl) in
    omega (arith, none)

pub static_code_jobs : (g : Graph) (regions first last : ℕ) → all_jobs g regions (StaticCode first last) ≡ 1
static_code_jobs g regions first last =
    let none = sum_zero (λ i. region_jobs g i (StaticCode first last)) regions (λ i below. refl) in
    omega (arith, none)

pub overlay_data_jobs : (g : Graph) (regions own o : ℕ) → 1 ≤ own → all_jobs g regions (OverlayData own o) ≤ 1 + jobs_back g (OverlayData own o)
overlay_data_jobs g regions own o some =
    let back = jobs_back g (OverlayData own o) in
    let one = if_most (own == own - 1 + 1) 1 in
    let home = if_most (own == own - 1 + 1) back in
    let sum = one_place (λ i. region_jobs g i (OverlayData own o)) (own - 1) regions (1 + back) (omega (arith, one, home)) (λ i other. other_region own i back 1 some other) in
    omega (arith, sum)

pub overlay_code_jobs : (g : Graph) (regions own first last : ℕ) → 1 ≤ own → all_jobs g regions (OverlayCode own first last) ≤ 1
overlay_code_jobs g regions own first last some =
    let one = if_most (own == own - 1 + 1) 1 in
    let home = if_most (own == own - 1 + 1) 0 in
    let sum = one_place (λ i. region_jobs g i (OverlayCode own first last)) (own - 1) regions 1 (omega (arith, one, home)) (λ i other. other_region own i 0 1 some other) in
    omega (arith, sum)

pub kept_data_jobs : (g : Graph) (regions pair o : ℕ) → 1 ≤ pair → all_jobs g regions (KeptData pair o) ≤ 2 * (1 + jobs_back g (KeptData pair o))
kept_data_jobs g regions pair o some =
    let back = jobs_back g (KeptData pair o) in
    let m = 2 * pair - 2 in
    let one = if_most (pair_of (m + 1) == pair) 1 in
    let home = if_most (pair_of (m + 1) == pair) back in
    let next_one = if_most (pair_of (suc m + 1) == pair) 1 in
    let next_home = if_most (pair_of (suc m + 1) == pair) back in
    let sum = two_places (λ i. region_jobs g i (KeptData pair o)) m regions (1 + back) (omega (arith, one, home)) (omega (arith, next_one, next_home)) (λ i first second. other_pair pair i back 1 some first second) in
    omega (arith, sum)
