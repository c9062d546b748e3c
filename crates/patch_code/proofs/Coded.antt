-- The routine of a plan of instructions is that of the plan of jobs that they are of.
use Rattle.std.proofs.Common.{◌≡◌, ℕ, zero, suc, ◌+◌, ◌<◌, List, [], ◌∷◌, ◌++◌, refl, sym, ◌∙◌, ap, arith}
use Rattle.std.specs.Prelude.{Option, Some, None, option_map}
use Rattle.std.specs.List.{flat_map}
use Rattle.std.proofs.lemmas.Grind.{flat_map-append}
use Rattle.rv32im.specs.declared.instructions.Instr.{Instr}
use Rattle.rv32im.specs.declared.instructions.BranchKind.TheVariants.{Beq}
use Rattle.patch_code.specs.declared.job.CopyJob.{CopyJob}
use Rattle.patch_code.specs.Jobs.{fences}
use Rattle.patch_code.specs.Parts.{Part, SwitchPlan, twin_in, kept_of, leave_part, enter_part, first_parts, all_parts, guarded, kept_code, part_code}
use Rattle.patch_code.specs.Switching.{begins, ends, routine, jobs_code, IsCodeOf, RoutineOfJobs}

same_kept : (other : ℕ) (twin : Option ℕ) (code : List Instr) (jobs : List CopyJob) → code ≡ jobs_code jobs → kept_code (λ (is : List Instr). is) (option_map (λ t. record { tested = other; twin = t; jobs = code }) twin) ≡ kept_code jobs_code (option_map (λ t. record { tested = other; twin = t; jobs = jobs }) twin)
same_kept other None code jobs same = refl
same_kept other (Some twin) code jobs same = ap (λ (is : List Instr). kept_code (λ (js : List Instr). js) (Some (record { tested = other; twin = twin; jobs = is }))) same

same_parts : (part : ℕ → Part (List Instr)) (of : ℕ → Part (List CopyJob)) (n : ℕ) → ((i : ℕ) → i < n → part_code (λ (is : List Instr). is) (part i) ≡ part_code jobs_code (of i)) → flat_map (part_code (λ (is : List Instr). is)) (first_parts part n) ≡ flat_map (part_code jobs_code) (first_parts of n)
same_parts part of zero each = refl
same_parts part of (suc n) each =
    let rest = same_parts part of n (λ i below. each i (omega (arith, below))) in
    let last = each n (omega arith) in
    flat_map-append (part_code (λ (is : List Instr). is)) (first_parts part n) (part n ∷ [])
    ∙ ((λ t. rest t ++ (last t ++ [])) ∙ sym (flat_map-append (part_code jobs_code) (first_parts of n) (of n ∷ [])))

module _ (p : SwitchPlan (List Instr)) (w : SwitchPlan (List CopyJob)) (is : IsCodeOf p w) where
  same_twin : (r : ℕ) → twin_in p r ≡ twin_in w r
  same_twin r = λ t. twin_in (record { base = w.base; fence_i = w.fence_i; twins = is.twins t; regions = is.regions t; leave = w.leave; enter = w.enter; kept_leave = w.kept_leave; kept_enter = w.kept_enter }) r

  same_kept_of : (other r : ℕ) (code : List Instr) (jobs : List CopyJob) → code ≡ jobs_code jobs → kept_code (λ (xs : List Instr). xs) (kept_of p other r code) ≡ kept_code jobs_code (kept_of w other r jobs)
  same_kept_of other r code jobs same =
      ap (λ twin. kept_code (λ (xs : List Instr). xs) (option_map (λ t. record { tested = other; twin = t; jobs = code }) twin)) (same_twin r)
      ∙ same_kept other (twin_in w r) code jobs same

  same_part : (tested region : ℕ) (code kept : List Instr) (jobs : List CopyJob) (kept_by : List Instr) → code ≡ jobs_code jobs → kept ≡ kept_by → guarded Beq tested region (code ++ kept) ≡ guarded Beq tested region (jobs_code jobs ++ kept_by)
  same_part tested region code kept jobs kept_by one two = λ t. guarded Beq tested region (one t ++ two t)

  leaves : flat_map (part_code (λ (xs : List Instr). xs)) (first_parts (leave_part p) w.regions) ≡ flat_map (part_code jobs_code) (first_parts (leave_part w) w.regions)
  leaves =
      same_parts (leave_part p) (leave_part w) w.regions
      (λ i below. same_part 6 (i + 1) (p.leave i) (kept_code (λ (xs : List Instr). xs) (kept_of p 30 (i + 1) (p.kept_leave i))) (w.leave i)
      (kept_code jobs_code (kept_of w 30 (i + 1) (w.kept_leave i))) (is.leave i below) (same_kept_of 30 (i + 1) (p.kept_leave i) (w.kept_leave i) (is.kept_leave i below)))

  enters : flat_map (part_code (λ (xs : List Instr). xs)) (first_parts (enter_part p) w.regions) ≡ flat_map (part_code jobs_code) (first_parts (enter_part w) w.regions)
  enters =
      same_parts (enter_part p) (enter_part w) w.regions
      (λ i below. same_part 30 (i + 1) (p.enter i) (kept_code (λ (xs : List Instr). xs) (kept_of p 6 (i + 1) (p.kept_enter i))) (w.enter i)
      (kept_code jobs_code (kept_of w 6 (i + 1) (w.kept_enter i))) (is.enter i below) (same_kept_of 6 (i + 1) (p.kept_enter i) (w.kept_enter i) (is.kept_enter i below)))

  parts : flat_map (part_code (λ (xs : List Instr). xs)) (all_parts p) ≡ flat_map (part_code jobs_code) (all_parts w)
  parts =
      flat_map-append (part_code (λ (xs : List Instr). xs)) (first_parts (leave_part p) p.regions) (first_parts (enter_part p) p.regions)
      ∙ (ap (λ n. flat_map (part_code (λ (xs : List Instr). xs)) (first_parts (leave_part p) n) ++ flat_map (part_code (λ (xs : List Instr). xs)) (first_parts (enter_part p) n)) is.regions
      ∙ ((λ t. leaves t ++ enters t) ∙ sym (flat_map-append (part_code jobs_code) (first_parts (leave_part w) w.regions) (first_parts (enter_part w) w.regions))))

  pub same_routine : routine (λ (xs : List Instr). xs) p ≡ routine jobs_code w
  unfolding routine
  same_routine = λ t. begins (is.base t) ++ (parts t ++ (fences (is.fence_i t) ++ ends (is.base t)))

pub routine_of_jobs_so : RoutineOfJobs
routine_of_jobs_so p w is = same_routine p w is
