-- Jobs and words of a switch, by region.
use Rattle.std.proofs.Common.{◌≡◌, ◌⊎◌, inl, inr, ℕ, zero, suc, ◌+◌, ◌-◌, ◌*◌, ◌/◌, ◌<◌, ◌≤◌, ◌==◌, Bool, true, false, List, [], ◌∷◌, ◌++◌, length, if◌then◌else◌, refl, sym, ◌∙◌, ap, subst, arith}
use Rattle.std.specs.Prelude.{Option, Some, None, option_map, All}
use Rattle.std.specs.List.{flat_map, sum_by}
use Rattle.std.proofs.lemmas.Grind.{flat_map-append}
use Rattle.std.proofs.lemmas.Bool.{cond_both, cases_eq}
use Rattle.std.proofs.lemmas.Bool.Decides.{nat_tests}
use Rattle.std.proofs.lemmas.List.{append-nil, length-append}
use Rattle.std.proofs.lemmas.List.Sums.{sum_by-cons, sum_by-append}
use Rattle.std.proofs.lemmas.List.Elements.{All-head, All-tail}
use Rattle.rv32im.specs.declared.instructions.Instr.{Instr}
use Rattle.rv32im.specs.Acts.{Registers}
use Rattle.patch_code.specs.declared.job.CopyJob.{CopyJob}
use Rattle.patch_code.specs.Jobs.{copying, copies_words, unit_bytes, job_run, fences, jobs_run}
use Rattle.patch_code.specs.Parts.{Part, SwitchPlan, twin_in, kept_of, leave_part, enter_part, first_parts, all_parts, kept_code, part_code}
use Rattle.patch_code.specs.Switching.{ends, routine, jobs_code, asked, kept_jobs, part_jobs, kept_run, part_run, switch_jobs, routine_run}
use Rattle.patch_code.proofs.JobRanges.{eleven}
use Rattle.patch_code.proofs.JobWays.{jobs_run-append}
use Rattle.patch_code.specs.Counts.{is_region, kept_unless, side_jobs, tests_run, twin_test_run, twin_run, span, spans, kept_words, first_words, SwitchRunsJobs, SwitchRunsWords, SwitchIsBounded, RoutineCount}

-- ---- of the parts of one side at most one runs its jobs

-- the number of a region is 0 or above the first `n`, or it is one of these
by_region : (n r : ℕ) (P : Bool → Type 0) → ((r ≡ 0) ⊎ (n < r) → P false) → (1 ≤ r → r ≤ n → P true) → P (is_region n r)
by_region n r P out within = by (is_region n r) refl
  where
    by : (b : Bool) → is_region n r ≡ b → P b
    by true inside = within (grind (arith, nat_tests, inside)) (grind (arith, nat_tests, inside))
    by false outside =
        elim (cases_eq r 0) [
          | inl none ↦ out (inl none)
          | inr some ↦ out (inr (grind (arith, nat_tests, outside, some)))
        ]

module _ (regs : Registers) (part : ℕ → Part (List CopyJob)) (r : ℕ) (f : ℕ → List CopyJob) (each : (i : ℕ) → part_jobs regs (part i) ≡ (if r == i + 1 then f i else [])) where
  none_before : (n : ℕ) → (r ≡ 0) ⊎ (n < r) → flat_map (part_jobs regs) (first_parts part n) ≡ []
  none_before zero out = refl
  none_before (suc n) out =
      let rest = none_before n (sooner out) in
      let last : part_jobs regs (part n) ≡ [] = each n ∙ other n out in
      flat_map-append (part_jobs regs) (first_parts part n) (part n ∷ [])
      ∙ (ap (λ (js : List CopyJob). js ++ (part_jobs regs (part n) ++ [])) rest ∙ ap (λ (js : List CopyJob). js ++ []) last)
    where
      sooner : (r ≡ 0) ⊎ (suc n < r) → (r ≡ 0) ⊎ (n < r)
      sooner (inl none) = inl none
      sooner (inr above) = inr (omega (arith, above))

      other : (n : ℕ) → (r ≡ 0) ⊎ (suc n < r) → (if r == n + 1 then f n else []) ≡ []
      other n (inl none) = grind (arith, nat_tests, none)
      other n (inr above) = grind (arith, nat_tests, above)

  one_of : (n : ℕ) → 1 ≤ r → r ≤ n → flat_map (part_jobs regs) (first_parts part n) ≡ f (r - 1)
  one_of zero some within = absurd (omega (arith, some, within))
  one_of (suc n) some within =
      flat_map-append (part_jobs regs) (first_parts part n) (part n ∷ [])
      ∙ elim (cases_eq r (n + 1)) [
        | inl same ↦
            let here : part_jobs regs (part n) ≡ f n = each n ∙ grind (arith, nat_tests, same) in
            let place : n ≡ r - 1 = omega (arith, same) in
            ap (λ (js : List CopyJob). js ++ (part_jobs regs (part n) ++ [])) (none_before n (inr (omega (arith, same))))
            ∙ (append-nil (part_jobs regs (part n)) ∙ (here ∙ ap f place))
        | inr other ↦
            let last : part_jobs regs (part n) ≡ [] = each n ∙ grind (arith, nat_tests, other) in
            ap (λ (js : List CopyJob). js ++ (part_jobs regs (part n) ++ [])) (one_of n some (omega (arith, within, other)))
            ∙ (ap (λ (js : List CopyJob). f (r - 1) ++ (js ++ [])) last ∙ append-nil (f (r - 1)))
      ]

  pub jobs_of : (n : ℕ) → flat_map (part_jobs regs) (first_parts part n) ≡ (if is_region n r then f (r - 1) else [])
  jobs_of n =
      by_region n r (λ b. flat_map (part_jobs regs) (first_parts part n) ≡ (if b then f (r - 1) else [])) (none_before n) (one_of n)

module _ (regs : Registers) (part : ℕ → Part (List CopyJob)) (r : ℕ) (g : ℕ → ℕ) (each : (i : ℕ) → part_run regs (part i) ≡ (if r == i + 1 then 2 + g i else 3)) where
  more_run : (n : ℕ) → sum_by (part_run regs) (first_parts part (suc n)) ≡ sum_by (part_run regs) (first_parts part n) + part_run regs (part n)
  more_run n =
      let both = sum_by-append (part_run regs) (first_parts part n) (part n ∷ []) in
      let last = sum_by-cons (part_run regs) (part n) [] in
      omega (arith, both, last)

  run_before : (n : ℕ) → (r ≡ 0) ⊎ (n < r) → sum_by (part_run regs) (first_parts part n) ≡ 3 * n
  run_before zero out = refl
  run_before (suc n) (inl none) =
      let rest = run_before n (inl none) in
      let here : part_run regs (part n) ≡ 3 = each n ∙ grind (arith, nat_tests, none) in
      let more = more_run n in
      omega (arith, rest, here, more)
  run_before (suc n) (inr above) =
      let rest = run_before n (inr (omega (arith, above))) in
      let here : part_run regs (part n) ≡ 3 = each n ∙ grind (arith, nat_tests, above) in
      let more = more_run n in
      omega (arith, rest, here, more)

  run_within : (n : ℕ) → 1 ≤ r → r ≤ n → sum_by (part_run regs) (first_parts part n) ≡ 3 * n - 1 + g (r - 1)
  run_within zero some within = absurd (omega (arith, some, within))
  run_within (suc n) some within =
      let more = more_run n in
      elim (cases_eq r (n + 1)) [
        | inl same ↦
            let rest = run_before n (inr (omega (arith, same))) in
            let here : part_run regs (part n) ≡ 2 + g n = each n ∙ grind (arith, nat_tests, same) in
            let place : g n ≡ g (r - 1) = ap g (omega (arith, same)) in
            omega (arith, rest, here, more, place)
        | inr other ↦
            let rest = run_within n some (omega (arith, within, other)) in
            let here : part_run regs (part n) ≡ 3 = each n ∙ grind (arith, nat_tests, other) in
            omega (arith, rest, here, more, some, within, other)
      ]

  pub run_of : (n : ℕ) → sum_by (part_run regs) (first_parts part n) ≡ (if is_region n r then 3 * n - 1 else 3 * n) + (if is_region n r then g (r - 1) else 0)
  run_of n =
      by_region n r (λ b. sum_by (part_run regs) (first_parts part n) ≡ (if b then 3 * n - 1 else 3 * n) + (if b then g (r - 1) else 0))
      (λ out. run_before n out ∙ omega arith) (run_within n)

-- ---- what is kept

kept_same : (s r : ℕ) (twin : Option ℕ) (jobs : List CopyJob) → kept_jobs (asked s r) (option_map (λ t. record { tested = 30; twin = t; jobs = jobs }) twin) ≡ kept_unless twin r jobs
kept_same s r None jobs = refl
kept_same s r (Some twin) jobs = refl

kept_same_6 : (s r : ℕ) (twin : Option ℕ) (jobs : List CopyJob) → kept_jobs (asked s r) (option_map (λ t. record { tested = 6; twin = t; jobs = jobs }) twin) ≡ kept_unless twin s jobs
kept_same_6 s r None jobs = refl
kept_same_6 s r (Some twin) jobs = refl

test_runs : (b : Bool) (jobs : List CopyJob) → (if b then 3 else 2 + jobs_run jobs) ≡ jobs_run (if b then [] else jobs) + (if b then 3 else 2)
test_runs true jobs = refl
test_runs false jobs = omega arith

kept_runs : (s r : ℕ) (twin : Option ℕ) (jobs : List CopyJob) → kept_run (asked s r) (option_map (λ t. record { tested = 30; twin = t; jobs = jobs }) twin) ≡ jobs_run (kept_unless twin r jobs) + twin_test_run twin r
kept_runs s r None jobs = refl
kept_runs s r (Some twin) jobs = test_runs (r == twin) jobs

kept_runs_6 : (s r : ℕ) (twin : Option ℕ) (jobs : List CopyJob) → kept_run (asked s r) (option_map (λ t. record { tested = 6; twin = t; jobs = jobs }) twin) ≡ jobs_run (kept_unless twin s jobs) + twin_test_run twin s
kept_runs_6 s r None jobs = refl
kept_runs_6 s r (Some twin) jobs = test_runs (s == twin) jobs

-- a region's number, back from its place
number_again : {T : Type 0} (f : ℕ → ℕ → T) (other : T) (n r : ℕ) → (if is_region n r then f (r - 1) (r - 1 + 1) else other) ≡ (if is_region n r then f (r - 1) r else other)
number_again f other n r =
    elim (cases_eq r 0) [
      | inl none ↦
          subst (λ k. (if is_region n k then f (k - 1) (k - 1 + 1) else other) ≡ (if is_region n k then f (k - 1) k else other)) (sym none) refl
      | inr some ↦ ap (λ k. if is_region n r then f (r - 1) k else other) (omega (arith, some))
    ]

module _ (w : SwitchPlan (List CopyJob)) (s r : ℕ) where
  abbrev regs : Registers
  regs = asked s r

  leave_jobs : flat_map (part_jobs regs) (first_parts (leave_part w) w.regions) ≡ side_jobs w w.leave w.kept_leave s r
  leave_jobs =
      jobs_of regs (leave_part w) s (λ i. w.leave i ++ kept_unless (twin_in w (i + 1)) r (w.kept_leave i))
      (λ i. ap (λ (js : List CopyJob). if s == i + 1 then w.leave i ++ js else []) (kept_same s r (twin_in w (i + 1)) (w.kept_leave i))) w.regions
      ∙ number_again (λ i k. w.leave i ++ kept_unless (twin_in w k) r (w.kept_leave i)) [] w.regions s

  enter_jobs : flat_map (part_jobs regs) (first_parts (enter_part w) w.regions) ≡ side_jobs w w.enter w.kept_enter r s
  enter_jobs =
      jobs_of regs (enter_part w) r (λ i. w.enter i ++ kept_unless (twin_in w (i + 1)) s (w.kept_enter i))
      (λ i. ap (λ (js : List CopyJob). if r == i + 1 then w.enter i ++ js else []) (kept_same_6 s r (twin_in w (i + 1)) (w.kept_enter i))) w.regions
      ∙ number_again (λ i k. w.enter i ++ kept_unless (twin_in w k) s (w.kept_enter i)) [] w.regions r

  pub switch_is : switch_jobs w s r ≡ side_jobs w w.leave w.kept_leave s r ++ side_jobs w w.enter w.kept_enter r s
  switch_is =
      flat_map-append (part_jobs regs) (first_parts (leave_part w) w.regions) (first_parts (enter_part w) w.regions)
      ∙ (λ i. leave_jobs i ++ enter_jobs i)

  -- words of a part, as those of its jobs and those of its test
  parted : (b : Bool) (always kept : List CopyJob) (run test : ℕ) → run ≡ jobs_run kept + test → (if b then jobs_run always + run else 0) ≡ jobs_run (if b then always ++ kept else []) + (if b then test else 0)
  parted true always kept run test same = let both = jobs_run-append always kept in omega (arith, both, same)
  parted false always kept run test same = refl

  -- words of a side's parts: those of its tests, of its jobs, and of the test for the twin
  side_run : (part : ℕ → Part (List CopyJob)) (always kept : ℕ → List CopyJob) (other own away : ℕ)
      → ((i : ℕ) → part_run regs (part i) ≡ (if own == i + 1 then 2 + (jobs_run (always i) + kept_run regs (kept_of w other (i + 1) (kept i))) else 3))
      → kept_run regs (kept_of w other own (kept (own - 1))) ≡ jobs_run (kept_unless (twin_in w own) away (kept (own - 1))) + twin_test_run (twin_in w own) away
      → sum_by (part_run regs) (first_parts part w.regions) ≡ tests_run w own + (jobs_run (side_jobs w always kept own away) + twin_run w own away)
  side_run part always kept other own away each runs =
      run_of regs part own (λ i. jobs_run (always i) + kept_run regs (kept_of w other (i + 1) (kept i))) each w.regions
      ∙ ap (λ n. tests_run w own + n)
      (number_again (λ i k. jobs_run (always i) + kept_run regs (kept_of w other k (kept i))) 0 w.regions own
      ∙ parted (is_region w.regions own) (always (own - 1)) (kept_unless (twin_in w own) away (kept (own - 1)))
      (kept_run regs (kept_of w other own (kept (own - 1)))) (twin_test_run (twin_in w own) away) runs)

  leave_run : sum_by (part_run regs) (first_parts (leave_part w) w.regions) ≡ tests_run w s + (jobs_run (side_jobs w w.leave w.kept_leave s r) + twin_run w s r)
  leave_run =
      side_run (leave_part w) w.leave w.kept_leave 30 s r (λ i. refl) (kept_runs s r (twin_in w s) (w.kept_leave (s - 1)))

  enter_run : sum_by (part_run regs) (first_parts (enter_part w) w.regions) ≡ tests_run w r + (jobs_run (side_jobs w w.enter w.kept_enter r s) + twin_run w r s)
  enter_run =
      side_run (enter_part w) w.enter w.kept_enter 6 r s (λ i. refl) (kept_runs_6 s r (twin_in w r) (w.kept_enter (r - 1)))

  pub run_is : routine_run w s r ≡ 5 + length (fences w.fence_i) + (tests_run w s + tests_run w r) + (twin_run w s r + twin_run w r s) + jobs_run (switch_jobs w s r)
  run_is =
      let left = leave_run in
      let entered = enter_run in
      let both = sum_by-append (part_run regs) (first_parts (leave_part w) w.regions) (first_parts (enter_part w) w.regions) in
      let jobs = ap (λ (js : List CopyJob). jobs_run js) switch_is in
      let sides = jobs_run-append (side_jobs w w.leave w.kept_leave s r) (side_jobs w w.enter w.kept_enter r s) in
      omega (arith, left, entered, both, jobs, sides)

pub switch_runs_jobs_so : SwitchRunsJobs
switch_runs_jobs_so w s r = switch_is w s r

pub switch_runs_words_so : SwitchRunsWords
switch_runs_words_so w s r = run_is w s r

-- ---- the bound

turns_fit : (words : Bool) (bytes : ℕ) → bytes / unit_bytes words ≤ bytes
turns_fit true bytes = omega arith
turns_fit false bytes = omega arith

job_bound : (job : CopyJob) → 1 ≤ job.bytes → 16 * job_run job ≤ 86 * span job
job_bound job some = let fit = turns_fit (copies_words job) job.bytes in omega (arith, fit, some)

jobs_bound : (jobs : List CopyJob) → All (λ job. 1 ≤ job.bytes) jobs → 16 * jobs_run jobs ≤ 86 * spans jobs
jobs_bound [] some = omega arith
jobs_bound (job ∷ jobs) some =
    let here = job_bound job (All-head (λ (j : CopyJob). 1 ≤ j.bytes) job jobs some) in
    let rest = jobs_bound jobs (All-tail (λ (j : CopyJob). 1 ≤ j.bytes) job jobs some) in
    let more = sum_by-cons span job jobs in
    omega (arith, here, rest, more)

unless_run : (twin : Option ℕ) (other : ℕ) (jobs : List CopyJob) → jobs_run (kept_unless twin other jobs) ≤ jobs_run jobs
unless_run None other jobs = omega arith
unless_run (Some twin) other jobs =
    cond_both (other == twin) [] jobs (λ js. jobs_run js ≤ jobs_run jobs) (λ yes. omega arith) (λ not_so. omega arith)

side_bound : (w : SwitchPlan (List CopyJob)) (always kept : ℕ → List CopyJob) (room r other : ℕ) → ((i : ℕ) → i < w.regions → spans (always i ++ kept i) ≤ room) → ((i : ℕ) → i < w.regions → All (λ job. 1 ≤ job.bytes) (always i ++ kept i)) → 16 * jobs_run (side_jobs w always kept r other) ≤ 86 * room
side_bound w always kept room r other fit some =
    let i : ℕ = r - 1 in
    cond_both (is_region w.regions r) (always i ++ kept_unless (twin_in w r) other (kept i)) [] (λ js. 16 * jobs_run js ≤ 86 * room)
    (λ yes.
    let below : i < w.regions = grind (arith, nat_tests, yes) in
    let all = jobs_bound (always i ++ kept i) (some i below) in
    let inside = fit i below in
    let whole = jobs_run-append (always i) (kept i) in
    let fewer = jobs_run-append (always i) (kept_unless (twin_in w r) other (kept i)) in
    let less = unless_run (twin_in w r) other (kept i) in
    omega (arith, all, inside, whole, fewer, less))
    (λ not_so. omega arith)

tests_bound : (w : SwitchPlan (List CopyJob)) (r : ℕ) → w.regions ≤ 8 → tests_run w r ≤ 24
tests_bound w r few =
    cond_both (is_region w.regions r) (3 * w.regions - 1) (3 * w.regions) (λ n. n ≤ 24) (λ yes. omega (arith, few)) (λ not_so. omega (arith, few))

twin_test_bound : (twin : Option ℕ) (other : ℕ) → twin_test_run twin other ≤ 3
twin_test_bound None other = omega arith
twin_test_bound (Some twin) other = cond_both (other == twin) 3 2 (λ n. n ≤ 3) (λ yes. omega arith) (λ not_so. omega arith)

twin_bound : (w : SwitchPlan (List CopyJob)) (r other : ℕ) → twin_run w r other ≤ 3
twin_bound w r other =
    cond_both (is_region w.regions r) (twin_test_run (twin_in w r) other) 0 (λ n. n ≤ 3) (λ yes. twin_test_bound (twin_in w r) other) (λ not_so. omega arith)

fence_bound : (fence : Bool) → length (fences fence) ≤ 1
fence_bound true = omega arith
fence_bound false = omega arith

pub switch_is_bounded_so : SwitchIsBounded
switch_is_bounded_so w room s r few fit =
    let run = run_is w s r in
    let jobs = ap (λ (js : List CopyJob). jobs_run js) (switch_is w s r) in
    let sides = jobs_run-append (side_jobs w w.leave w.kept_leave s r) (side_jobs w w.enter w.kept_enter r s) in
    let left = side_bound w w.leave w.kept_leave room s r (λ i below. (fit i below).leave) (λ i below. (fit i below).leave_some) in
    let entered = side_bound w w.enter w.kept_enter room r s (λ i below. (fit i below).enter) (λ i below. (fit i below).enter_some) in
    let tests_s = tests_bound w s few in
    let tests_r = tests_bound w r few in
    let twin_s = twin_bound w s r in
    let twin_r = twin_bound w r s in
    let fence = fence_bound w.fence_i in
    omega (arith, run, jobs, sides, left, entered, tests_s, tests_r, twin_s, twin_r, fence)

-- ---- how many words stand

jobs_words : (jobs : List CopyJob) → length (jobs_code jobs) ≡ 11 * length jobs
jobs_words [] = refl
jobs_words (job ∷ jobs) =
    let first = eleven job in
    let rest = jobs_words jobs in
    let both = length-append (copying job) (jobs_code jobs) in
    omega (arith, first, rest, both)

kept_count : (other : ℕ) (twin : Option ℕ) (jobs : List CopyJob) → length (kept_code jobs_code (option_map (λ t. record { tested = other; twin = t; jobs = jobs }) twin)) ≡ kept_words twin jobs
kept_count other None jobs = refl
kept_count other (Some twin) jobs = let count = jobs_words jobs in omega (arith, count)

part_count : (w : SwitchPlan (List CopyJob)) (tested other i : ℕ) (jobs kept : List CopyJob) → length (part_code jobs_code (record { tested = tested; region = i + 1; jobs = jobs; kept = kept_of w other (i + 1) kept })) ≡ 3 + 11 * length jobs + kept_words (twin_in w (i + 1)) kept
part_count w tested other i jobs kept =
    let first = jobs_words jobs in
    let behind = kept_count other (twin_in w (i + 1)) kept in
    let both = length-append (jobs_code jobs) (kept_code jobs_code (kept_of w other (i + 1) kept)) in
    omega (arith, first, behind, both)

module _ (part : ℕ → Part (List CopyJob)) where
  one_part_more : (n : ℕ) → length (flat_map (part_code jobs_code) (first_parts part (suc n))) ≡ length (flat_map (part_code jobs_code) (first_parts part n)) + length (part_code jobs_code (part n))
  one_part_more n =
      let joined = ap (λ (is : List Instr). length is) (flat_map-append (part_code jobs_code) (first_parts part n) (part n ∷ [])) in
      let both = length-append (flat_map (part_code jobs_code) (first_parts part n)) (part_code jobs_code (part n) ++ []) in
      let last = ap (λ (is : List Instr). length is) (append-nil (part_code jobs_code (part n))) in
      joined ∙ omega (arith, both, last)

module _ (w : SwitchPlan (List CopyJob)) where
  both_sides : (n : ℕ) → length (flat_map (part_code jobs_code) (first_parts (leave_part w) n)) + length (flat_map (part_code jobs_code) (first_parts (enter_part w) n)) ≡ first_words w n
  both_sides zero = refl
  both_sides (suc n) =
      let rest = both_sides n in
      let left = one_part_more (leave_part w) n in
      let entered = one_part_more (enter_part w) n in
      let one = part_count w 6 30 n (w.leave n) (w.kept_leave n) in
      let two = part_count w 30 6 n (w.enter n) (w.kept_enter n) in
      omega (arith, rest, left, entered, one, two)

  pub counted : length (routine jobs_code w) ≡ 5 + length (fences w.fence_i) + first_words w w.regions
  unfolding routine
  counted =
      let parts = ap (λ (is : List Instr). length is) (flat_map-append (part_code jobs_code) (first_parts (leave_part w) w.regions) (first_parts (enter_part w) w.regions)) in
      let two = length-append (flat_map (part_code jobs_code) (first_parts (leave_part w) w.regions)) (flat_map (part_code jobs_code) (first_parts (enter_part w) w.regions)) in
      let three = length-append (flat_map (part_code jobs_code) (all_parts w)) (fences w.fence_i ++ ends w.base) in
      let four = length-append (fences w.fence_i) (ends w.base) in
      let sides = both_sides w.regions in
      omega (arith, parts, two, three, four, sides)

pub routine_count_so : RoutineCount
routine_count_so w = counted w
