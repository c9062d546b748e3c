-- The switch routine: its instructions, the jobs that it runs, and how many words run.
-- It is called with the region that is entered in x30 and the address behind the call in x29.
use Rattle.std.specs.Prelude.{◌≡◌, ℕ, ◌+◌, ◌<◌, ◌==◌, if◌then◌else◌, List, [], ◌∷◌, ◌++◌, length, Option, Some, None, pos}
use Rattle.std.specs.List.{flat_map, sum_by}
use Rattle.rv32im.specs.Words.{upper_half, lower_half}
use Rattle.rv32im.specs.declared.instructions.Instr.{Instr}
use Rattle.rv32im.specs.declared.instructions.Instr.TheVariants.{Lui, Load, Store, Jalr}
use Rattle.rv32im.specs.declared.instructions.LoadKind.TheVariants.{Lw}
use Rattle.rv32im.specs.declared.instructions.StoreKind.TheVariants.{Sw}
use Rattle.rv32im.specs.Acts.{Registers}
use Rattle.patch_code.specs.declared.job.CopyJob.{CopyJob}
use Rattle.patch_code.specs.Jobs.{copying, fences, jobs_run}
use Rattle.patch_code.specs.Parts.{Kept, Part, SwitchPlan, part_code, all_parts}

-- ---- instructions

-- x6 gets the control word, which is the region that is left
abbrev pub begins : ℕ → List Instr
begins base = Lui 5 (upper_half base) ∷ Load Lw 6 5 (lower_half base) ∷ []

-- the control word becomes the region that is entered, and control goes back
abbrev pub ends : ℕ → List Instr
ends base = Lui 5 (upper_half base) ∷ Store Sw 5 30 (lower_half base) ∷ Jalr 0 29 (pos 0) ∷ []

-- FENCE.I stands behind the jobs, where it is asked for, so that copied code is fetched ("Zifencei")
unfoldable pub routine : {J : Type 0} → (J → List Instr) → SwitchPlan J → List Instr
routine code w = begins w.base ++ (flat_map (part_code code) (all_parts w) ++ (fences w.fence_i ++ ends w.base))

-- the instructions of jobs
abbrev pub jobs_code : List CopyJob → List Instr
jobs_code jobs = flat_map copying jobs

-- ---- jobs

-- those of a part, by what the registers hold
abbrev pub kept_jobs : Registers → Option (Kept (List CopyJob)) → List CopyJob
kept_jobs regs None = []
kept_jobs regs (Some k) = if regs k.tested == k.twin then [] else k.jobs

abbrev pub part_jobs : Registers → Part (List CopyJob) → List CopyJob
part_jobs regs p = if regs p.tested == p.region then p.jobs ++ kept_jobs regs p.kept else []

-- those of a switch from region `s` to region `r`
abbrev pub asked : ℕ → ℕ → Registers
asked s r = λ k. if k == 6 then s else r

abbrev pub switch_jobs : SwitchPlan (List CopyJob) → ℕ → ℕ → List CopyJob
switch_jobs w s r = flat_map (part_jobs (asked s r)) (all_parts w)

-- ---- how many words run

-- a test runs two words where what it guards is run, and else three
abbrev pub kept_run : Registers → Option (Kept (List CopyJob)) → ℕ
kept_run regs None = 0
kept_run regs (Some k) = if regs k.tested == k.twin then 3 else 2 + jobs_run k.jobs

abbrev pub part_run : Registers → Part (List CopyJob) → ℕ
part_run regs p = if regs p.tested == p.region then 2 + (jobs_run p.jobs + kept_run regs p.kept) else 3

abbrev pub routine_run : SwitchPlan (List CopyJob) → ℕ → ℕ → ℕ
routine_run w s r = 2 + (sum_by (part_run (asked s r)) (all_parts w) + (length (fences w.fence_i) + 3))

-- ---- instructions of jobs

-- a plan of instructions is of a plan of jobs
pub record IsCodeOf (p : SwitchPlan (List Instr)) (w : SwitchPlan (List CopyJob)) : Type 0 where
  pub base : p.base ≡ w.base
  pub fence_i : p.fence_i ≡ w.fence_i
  pub twins : p.twins ≡ w.twins
  pub regions : p.regions ≡ w.regions
  pub leave : (i : ℕ) → i < w.regions → p.leave i ≡ jobs_code (w.leave i)
  pub enter : (i : ℕ) → i < w.regions → p.enter i ≡ jobs_code (w.enter i)
  pub kept_leave : (i : ℕ) → i < w.regions → p.kept_leave i ≡ jobs_code (w.kept_leave i)
  pub kept_enter : (i : ℕ) → i < w.regions → p.kept_enter i ≡ jobs_code (w.kept_enter i)

-- its routine is that of the jobs
abbrev pub RoutineOfJobs : Type 0
RoutineOfJobs =
    (p : SwitchPlan (List Instr)) (w : SwitchPlan (List CopyJob)) → IsCodeOf p w → routine (λ is. is) p ≡ routine jobs_code w
