-- The instructions of the jobs of regions.
use Rattle.std.specs.Prelude.{◌≡◌, ℕ, ◌<◌, List, length}
use Rattle.rv32im.specs.declared.instructions.Instr.{Instr}
use Rattle.patch_code.specs.declared.job.CopyJob.{CopyJob}
use Rattle.patch_code.specs.declared.switch_plan.RegionCode.{RegionCode}
use Rattle.patch_code.specs.declared.switch_plan.RoutinePlan.{RoutinePlan}
use Rattle.patch_code.specs.Switching.{jobs_code}
use Rattle.patch_code.specs.SwitchPlans.{at_region}
use Rattle.patch_code.specs.Overlay.{OverlayPlan}

abbrev pub leave_code : RegionCode → List Instr
leave_code region = region.leave.items

abbrev pub enter_code : RegionCode → List Instr
enter_code region = region.enter.items

abbrev pub kept_leave_code : RegionCode → List Instr
kept_leave_code region = region.kept_leave.items

abbrev pub kept_enter_code : RegionCode → List Instr
kept_enter_code region = region.kept_enter.items

-- those of a region's number
pub record IsRegionOf (p : OverlayPlan) (i : ℕ) (region : RegionCode) : Type 0 where
  pub leave : leave_code region ≡ jobs_code (p.leave i)
  pub enter : enter_code region ≡ jobs_code (p.enter i)
  pub kept_leave : kept_leave_code region ≡ jobs_code (p.kept_leave i)
  pub kept_enter : kept_enter_code region ≡ jobs_code (p.kept_enter i)

-- one part of the first regions
abbrev pub IsPartOf : (RegionCode → List Instr) → (ℕ → List CopyJob) → ℕ → List RegionCode → Type 0
IsPartOf part jobs n regions = (i : ℕ) → i < n → at_region regions part i ≡ jobs_code (jobs i)

-- those of the first `n`
pub record AreRegionsOf (p : OverlayPlan) (n : ℕ) (regions : List RegionCode) : Type 0 where
  pub count : length regions ≡ n
  pub leave : IsPartOf leave_code p.leave n regions
  pub enter : IsPartOf enter_code p.enter n regions
  pub kept_leave : IsPartOf kept_leave_code p.kept_leave n regions
  pub kept_enter : IsPartOf kept_enter_code p.kept_enter n regions

-- what the routine is made of
pub record IsRoutineOf (p : OverlayPlan) (r : RoutinePlan) : Type 0 where
  pub base : r.base ≡ p.start.base
  pub fence_i : r.fence_i ≡ p.start.fence_i
  pub twins : r.twins ≡ p.twins
  pub regions : AreRegionsOf p p.regions r.regions.items
