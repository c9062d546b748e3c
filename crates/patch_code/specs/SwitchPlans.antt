-- The plan of a switch routine as the definitions see it.
use Rattle.std.specs.Prelude.{ℕ, ◌+◌, ◌*◌, ◌<◌, List, [], ◌++◌, map, length, slice_index_or, All}
use Rattle.rv32im.specs.declared.instructions.Instr.{Instr}
use Rattle.rv32im.specs.Table.{IsEvenWithin, IsInRange}
use Rattle.rv32im.specs.Sequences.{distance}
use Rattle.patch_code.specs.declared.switch_plan.RegionCode.{RegionCode}
use Rattle.patch_code.specs.declared.switch_plan.RoutinePlan.{RoutinePlan}
use Rattle.patch_code.specs.declared.switch_plan.Side.{Side}
use Rattle.patch_code.specs.declared.switch_plan.Side.TheVariants.{Leave, Enter}
use Rattle.patch_code.specs.Parts.{Part, SwitchPlan, leave_part, enter_part}
use Rattle.patch_code.specs.Switching.{routine}
use Rattle.patch_code.specs.Checking.{checking}

-- what a plan has instructions for, by the region's number
abbrev pub at_region : List RegionCode → (RegionCode → List Instr) → ℕ → List Instr
at_region regions part i = slice_index_or (map part regions) i []

abbrev pub plan_of : RoutinePlan → SwitchPlan (List Instr)
plan_of plan =
    record {
      base = plan.base;
      fence_i = plan.fence_i;
      twins = plan.twins;
      regions = length plan.regions.items;
      leave = at_region plan.regions.items (λ region. region.leave.items);
      enter = at_region plan.regions.items (λ region. region.enter.items);
      kept_leave = at_region plan.regions.items (λ region. region.kept_leave.items);
      kept_enter = at_region plan.regions.items (λ region. region.kept_enter.items);
    }

-- the part of a region by its side
abbrev pub side_part : Side → SwitchPlan (List Instr) → ℕ → Part (List Instr)
side_part Leave w i = leave_part w i
side_part Enter w i = enter_part w i

-- JAL can jump over the jobs of each part
pub record IsShort (region : RegionCode) : Type 0 where
  pub leave : 16 + 4 * (length region.leave.items + length region.kept_leave.items) < 1048576
  pub enter : 16 + 4 * (length region.enter.items + length region.kept_enter.items) < 1048576

-- the routine can be built: the tests can tell the regions, and each part is short
pub record CanBuild (plan : RoutinePlan) : Type 0 where
  pub few : length plan.regions.items < 2047
  pub short : All IsShort plan.regions.items

-- ---- instructions that words can mean

-- those of a plan, which stand in parts over which JAL can jump
pub record CanEncode (w : SwitchPlan (List Instr)) : Type 0 where
  pub few : w.regions < 2047
  pub leave : (i : ℕ) → i < w.regions → All IsInRange (w.leave i ++ w.kept_leave i)
  pub enter : (i : ℕ) → i < w.regions → All IsInRange (w.enter i ++ w.kept_enter i)
  pub short_leave : (i : ℕ) → i < w.regions → 16 + 4 * (length (w.leave i) + length (w.kept_leave i)) < 1048576
  pub short_enter : (i : ℕ) → i < w.regions → 16 + 4 * (length (w.enter i) + length (w.kept_enter i)) < 1048576

-- each instruction of its routine is one that a word can mean
abbrev pub RoutineInRange : Type 0
RoutineInRange = (w : SwitchPlan (List Instr)) → CanEncode w → All IsInRange (routine (λ is. is) w)

-- and so is each of a stub whose call reaches the routine
abbrev pub CheckingInRange : Type 0
CheckingInRange =
    (base t r at switch : ℕ) → t < 32 → r < 2048 → IsEvenWithin 1048576 (distance (at + 52) switch) →
    All IsInRange (checking base t r at switch)
