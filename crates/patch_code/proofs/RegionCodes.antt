-- The routine that is made of the instructions of the jobs of regions.
use Rattle.std.proofs.Common.{◌≡◌, ℕ, zero, suc, ◌+◌, ◌*◌, ◌<◌, ◌==◌, if◌then◌else◌, false, List, [], ◌++◌, length, slice_index_or, refl, sym, ◌∙◌, ap, subst, arith}
use Rattle.std.specs.Prelude.{All}
use Rattle.std.proofs.lemmas.Bool.Decides.{nat_tests}
use Rattle.std.proofs.lemmas.List.{get_or-map as get_or-mapped}
use Rattle.std.proofs.lemmas.List.Elements.{All-append}
use Rattle.rv32im.specs.declared.instructions.Instr.{Instr}
use Rattle.rv32im.specs.Table.{IsInRange}
use Rattle.patch_code.specs.declared.job.CopyJob.{CopyJob}
use Rattle.patch_code.proofs.JobRanges.{all_range, jobs_count}
use Rattle.patch_code.specs.declared.switch_plan.RegionCode.{RegionCode}
use Rattle.patch_code.specs.declared.switch_plan.RoutinePlan.{RoutinePlan}
use Rattle.patch_code.specs.Switching.{routine, jobs_code, IsCodeOf}
use Rattle.patch_code.specs.SwitchPlans.{plan_of, CanBuild, CanEncode}
use Rattle.patch_code.proofs.Coded.{same_routine}
use Rattle.patch_code.proofs.Ranges.{routine_in_range_so}
use Rattle.patch_code.specs.Overlay.{OverlayPlan, switching, switch_code, CanHold}
use Rattle.patch_code.specs.Regions.{leave_code, enter_code, kept_leave_code, kept_enter_code, IsPartOf, IsRoutineOf}

-- with a region there is a routine
pub some_routine : (p : OverlayPlan) → (p.regions ≡ 0 → ⊥) → switch_code p ≡ routine jobs_code (switching p)
some_routine p some = by p.regions some
  where
    by : (n : ℕ) → (n ≡ 0 → ⊥) → (if n == 0 then [] else routine jobs_code (switching p)) ≡ routine jobs_code (switching p)
    by zero none = absurd (none refl)
    by (suc n) none = let test : (suc n == 0) ≡ false = grind (arith, nat_tests) in rw test refl

module _ (p : OverlayPlan) (r : RoutinePlan) (is : IsRoutineOf p r) (can : CanHold p) where
  code_of_jobs : IsCodeOf (plan_of r) (switching p)
  code_of_jobs =
      record {
        base = is.base;
        fence_i = is.fence_i;
        twins = is.twins;
        regions = is.regions.count;
        leave = is.regions.leave;
        enter = is.regions.enter;
        kept_leave = is.regions.kept_leave;
        kept_enter = is.regions.kept_enter;
      }

  pub is_routine : routine (λ is. is) (plan_of r) ≡ routine jobs_code (switching p)
  is_routine = same_routine (plan_of r) (switching p) code_of_jobs

  at_index : (part : RegionCode → List Instr) (jobs : ℕ → List CopyJob) (i : ℕ) (d : RegionCode) → i < length r.regions.items → IsPartOf part jobs p.regions r.regions.items → part (slice_index_or r.regions.items i d) ≡ jobs_code (jobs i)
  at_index part jobs i d below are =
      let count = is.regions.count in
      sym (get_or-mapped part r.regions.items i d [] below) ∙ are i (omega (arith, count, below))

  short_count : (code more : List Instr) (jobs kept : List CopyJob) → code ≡ jobs_code jobs → more ≡ jobs_code kept → 16 + 44 * (length jobs + length kept) < 1048576 → 16 + 4 * (length code + length more) < 1048576
  short_count code more jobs kept one two short =
      let first = ap (λ (xs : List Instr). length xs) one ∙ jobs_count jobs in
      let second = ap (λ (xs : List Instr). length xs) two ∙ jobs_count kept in
      omega (arith, first, second, short)

  pub can_build : CanBuild r
  can_build =
      let few = can.few in
      let count = is.regions.count in
      record {
        few = omega (arith, few, count);
        short = λ i d below.
            let here : i < p.regions = omega (arith, count, below) in
            let change = can.jobs i here in
            record {
              leave = short_count (leave_code (slice_index_or r.regions.items i d)) (kept_leave_code (slice_index_or r.regions.items i d)) (p.leave i) (p.kept_leave i)
                  (at_index leave_code p.leave i d below is.regions.leave) (at_index kept_leave_code p.kept_leave i d below is.regions.kept_leave) change.short_leave;
              enter = short_count (enter_code (slice_index_or r.regions.items i d)) (kept_enter_code (slice_index_or r.regions.items i d)) (p.enter i) (p.kept_enter i)
                  (at_index enter_code p.enter i d below is.regions.enter) (at_index kept_enter_code p.kept_enter i d below is.regions.kept_enter) change.short_enter;
            };
      }

  range_of : (code more : List Instr) (jobs kept : List CopyJob) → code ≡ jobs_code jobs → more ≡ jobs_code kept → All IsInRange (code ++ more)
  range_of code more jobs kept one two =
      subst (λ (xs : List Instr). All IsInRange xs) (sym (λ t. one t ++ two t))
      (All-append IsInRange (jobs_code jobs) (jobs_code kept) (all_range jobs) (all_range kept))

  pub can_encode : CanEncode (plan_of r)
  can_encode =
      let few = can.few in
      let count = is.regions.count in
      let here : (i : ℕ) → i < length r.regions.items → i < p.regions = λ i below. omega (arith, count, below) in
      record {
        few = omega (arith, few, count);
        leave = λ i below. range_of ((plan_of r).leave i) ((plan_of r).kept_leave i) (p.leave i) (p.kept_leave i) (is.regions.leave i (here i below)) (is.regions.kept_leave i (here i below));
        enter = λ i below. range_of ((plan_of r).enter i) ((plan_of r).kept_enter i) (p.enter i) (p.kept_enter i) (is.regions.enter i (here i below)) (is.regions.kept_enter i (here i below));
        short_leave = λ i below. short_count ((plan_of r).leave i) ((plan_of r).kept_leave i) (p.leave i) (p.kept_leave i) (is.regions.leave i (here i below)) (is.regions.kept_leave i (here i below)) (can.jobs i (here i below)).short_leave;
        short_enter = λ i below. short_count ((plan_of r).enter i) ((plan_of r).kept_enter i) (p.enter i) (p.kept_enter i) (is.regions.enter i (here i below)) (is.regions.kept_enter i (here i below)) (can.jobs i (here i below)).short_enter;
      }

  -- words can mean its instructions
  pub all_in_range : All IsInRange (routine (λ is. is) (plan_of r))
  all_in_range = routine_in_range_so (plan_of r) can_encode
