-- Which jobs a switch runs and how many words, by region; and a bound of these words.
use Rattle.std.specs.Prelude.{◌≡◌, ℕ, zero, suc, ◌+◌, ◌-◌, ◌*◌, ◌/◌, ◌<◌, ◌≤◌, ◌==◌, nat_lt, nat_le, Bool, ◌&&◌, if◌then◌else◌, List, [], ◌++◌, length, All, Option, Some, None}
use Rattle.std.specs.List.{sum_by}
use Rattle.patch_code.specs.declared.job.CopyJob.{CopyJob}
use Rattle.patch_code.specs.Jobs.{fences, jobs_run}
use Rattle.patch_code.specs.Parts.{SwitchPlan, twin_in}
use Rattle.patch_code.specs.Switching.{routine, routine_run, jobs_code, switch_jobs}

-- region 0 is no region: what is not copied has it
abbrev pub is_region : ℕ → ℕ → Bool
is_region regions r = nat_lt 0 r && nat_le r regions

-- ---- jobs

-- what is kept, unless the other region is the twin
abbrev pub kept_unless : Option ℕ → ℕ → List CopyJob → List CopyJob
kept_unless None other jobs = []
kept_unless (Some twin) other jobs = if other == twin then [] else jobs

-- the jobs of the region `r` where `other` is the other region of the switch
abbrev pub side_jobs : SwitchPlan (List CopyJob) → (ℕ → List CopyJob) → (ℕ → List CopyJob) → ℕ → ℕ → List CopyJob
side_jobs w always kept r other =
    if is_region w.regions r then always (r - 1) ++ kept_unless (twin_in w r) other (kept (r - 1)) else []

-- a switch from `s` to `r` runs those that leave `s`, and then those that enter `r`
abbrev pub SwitchRunsJobs : Type 0
SwitchRunsJobs =
    (w : SwitchPlan (List CopyJob)) (s r : ℕ) →
    switch_jobs w s r ≡ side_jobs w w.leave w.kept_leave s r ++ side_jobs w w.enter w.kept_enter r s

-- ---- words

-- the words of the tests of all regions, on one side
abbrev pub tests_run : SwitchPlan (List CopyJob) → ℕ → ℕ
tests_run w r = if is_region w.regions r then 3 * w.regions - 1 else 3 * w.regions

-- and of the test whether the other region is the twin
abbrev pub twin_test_run : Option ℕ → ℕ → ℕ
twin_test_run None other = 0
twin_test_run (Some twin) other = if other == twin then 3 else 2

abbrev pub twin_run : SwitchPlan (List CopyJob) → ℕ → ℕ → ℕ
twin_run w r other = if is_region w.regions r then twin_test_run (twin_in w r) other else 0

-- just so many words of the routine run in a switch from `s` to `r`
abbrev pub SwitchRunsWords : Type 0
SwitchRunsWords =
    (w : SwitchPlan (List CopyJob)) (s r : ℕ) →
    routine_run w s r ≡ 5 + length (fences w.fence_i) + (tests_run w s + tests_run w r) + (twin_run w s r + twin_run w r s)
    + jobs_run (switch_jobs w s r)

-- ---- a bound

-- slots begin at multiples of 16, so a job's slot takes at least so many bytes
abbrev pub span : CopyJob → ℕ
span job = (job.bytes + 15) / 16 * 16

abbrev pub spans : List CopyJob → ℕ
spans jobs = sum_by span jobs

-- the slots of a region take at most `room` bytes
pub record FitsRoom (w : SwitchPlan (List CopyJob)) (room i : ℕ) : Type 0 where
  pub leave : spans (w.leave i ++ w.kept_leave i) ≤ room
  pub enter : spans (w.enter i ++ w.kept_enter i) ≤ room
  pub leave_some : All (λ job. 1 ≤ job.bytes) (w.leave i ++ w.kept_leave i)
  pub enter_some : All (λ job. 1 ≤ job.bytes) (w.enter i ++ w.kept_enter i)

-- with at most eight regions a stub and the routine run at most twelve words for each byte of room, and 82
abbrev pub SwitchIsBounded : Type 0
SwitchIsBounded =
    (w : SwitchPlan (List CopyJob)) (room s r : ℕ) → w.regions ≤ 8 → ((i : ℕ) → i < w.regions → FitsRoom w room i) →
    22 + routine_run w s r ≤ 12 * room + 82

-- ---- how many words stand

-- three for a test, and eleven for each job behind it
abbrev pub kept_words : Option ℕ → List CopyJob → ℕ
kept_words None jobs = 0
kept_words (Some twin) jobs = 3 + 11 * length jobs

-- those of both parts of region i + 1
abbrev pub region_words : SwitchPlan (List CopyJob) → ℕ → ℕ
region_words w i =
    6 + 11 * (length (w.leave i) + length (w.enter i)) + kept_words (twin_in w (i + 1)) (w.kept_leave i)
    + kept_words (twin_in w (i + 1)) (w.kept_enter i)

abbrev pub first_words : SwitchPlan (List CopyJob) → ℕ → ℕ
first_words w zero = 0
first_words w (suc n) = first_words w n + region_words w n

-- five, one for a fence, and those of all regions
abbrev pub RoutineCount : Type 0
RoutineCount =
    (w : SwitchPlan (List CopyJob)) →
    length (routine jobs_code w) ≡ 5 + length (fences w.fence_i) + first_words w w.regions
