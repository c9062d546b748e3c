-- The jobs of a switch: what all jobs of a plan have, those of a switch have; and what they leave of control words.
use Rattle.std.proofs.Common.{◌≡◌, ◌⊎◌, inl, inr, ℕ, zero, suc, ◌+◌, ◌-◌, ◌%◌, ◌<◌, ◌≤◌, ◌==◌, nat_lt, List, [], ◌∷◌, ◌++◌, if◌then◌else◌, refl, sym, ◌∙◌, subst, arith}
use Rattle.std.specs.Prelude.{Option, Some, None, option_map, All}
use Rattle.std.specs.List.{flat_map}
use Rattle.std.proofs.lemmas.Bool.{cond_both, cases_lt}
use Rattle.std.proofs.lemmas.List.Elements.{All-nil, All-cons, All-head, All-tail, All-append}
use Rattle.std.proofs.lemmas.Bool.Decides.{nat_tests}
use Rattle.rv32im.specs.Memory.{Memory}
use Rattle.rv32im.specs.Acts.{Registers}
use Rattle.flat_machine.specs.State.{State}
use Rattle.patch_code.specs.declared.job.CopyJob.{CopyJob}
use Rattle.patch_code.specs.Jobs.{copied, AreDisjoint, all_copied, IsOutside}
use Rattle.patch_code.proofs.ByteLemmas.{jobs_copy_so}
use Rattle.patch_code.specs.Parts.{Kept, Part, SwitchPlan, twin_of, kept_of, leave_part, enter_part, first_parts, all_parts}
use Rattle.patch_code.specs.Switching.{kept_jobs, part_jobs}
use Rattle.patch_code.specs.Switches.{FitsJob}
use Rattle.patch_code.proofs.TestedParts.{IsTest, IsSome, IsPart}

-- ---- what all parts have

pub first_all : (P : Part (List CopyJob) → Type 0) (part : ℕ → Part (List CopyJob)) (n : ℕ) → ((i : ℕ) → i < n → P (part i)) → All P (first_parts part n)
first_all P part zero each = All-nil P
first_all P part (suc n) each =
    All-append P (first_parts part n) (part n ∷ []) (first_all P part n (λ i below. each i (omega (arith, below))))
    (All-cons P (part n) [] (each n (omega arith)) (All-nil P))

module _ (P : CopyJob → Type 0) where
  kept_have : (regs : Registers) (kept : Option (Kept (List CopyJob))) → IsSome P kept → All P (kept_jobs regs kept)
  kept_have regs None have = All-nil P
  kept_have regs (Some k) have =
      cond_both (regs k.tested == k.twin) [] k.jobs (λ jobs. All P jobs) (λ twins. All-nil P) (λ others. have.jobs)

  pub jobs_have : (regs : Registers) (parts : List (Part (List CopyJob))) → All (IsPart P) parts → All P (flat_map (part_jobs regs) parts)
  jobs_have regs [] have = All-nil P
  jobs_have regs (p ∷ parts) have =
      let here = All-head (IsPart P) p parts have in
      All-append P (part_jobs regs p) (flat_map (part_jobs regs) parts)
      (cond_both (regs p.tested == p.region) (p.jobs ++ kept_jobs regs p.kept) [] (λ jobs. All P jobs)
      (λ same. All-append P p.jobs (kept_jobs regs p.kept) here.jobs (kept_have regs p.kept here.kept)) (λ other. All-nil P))
      (jobs_have regs parts (All-tail (IsPart P) p parts have))

  module _ (w : SwitchPlan (List CopyJob)) (few : w.regions < 2048) where
    kept_is : (other r : ℕ) (jobs : List CopyJob) → IsTest other → r < 2048 → All P jobs → IsSome P (kept_of w other r jobs)
    kept_is other r jobs test small have =
        cond_both w.twins (twin_of w.regions r) None IsMade
        (λ yes. cond_both (r % 2 == 0) (Some (r - 1)) (if nat_lt r w.regions then Some (r + 1) else None) IsMade
        (λ even. record { test = test; few = omega (arith, small); jobs = have })
        (λ odd. cond_both (nat_lt r w.regions) (Some (r + 1)) None IsMade
        (λ less. let below : r < w.regions = grind (arith, nat_tests, less) in record { test = test; few = omega (arith, below, few); jobs = have })
        (λ more. tt)))
        (λ not_so. tt)
      where
        make : ℕ → Kept (List CopyJob)
        make = λ twin. record { tested = other; twin = twin; jobs = jobs }

        IsMade : Option ℕ → Type 0
        IsMade = λ twin. IsSome P (option_map make twin)

    -- a part that tests one register, and the other for what the twin keeps
    part_is : (tested other i : ℕ) (jobs kept : List CopyJob) → IsTest tested → IsTest other → i < w.regions → All P jobs → All P kept → IsPart P (record { tested = tested; region = i + 1; jobs = jobs; kept = kept_of w other (i + 1) kept })
    part_is tested other i jobs kept test second below have kept_have =
        record {
          test = test;
          few = omega (arith, below, few);
          jobs = have;
          kept = kept_is other (i + 1) kept second (omega (arith, below, few)) kept_have;
        }

    pub all_are : ((i : ℕ) → i < w.regions → All P (w.leave i)) → ((i : ℕ) → i < w.regions → All P (w.enter i)) → ((i : ℕ) → i < w.regions → All P (w.kept_leave i)) → ((i : ℕ) → i < w.regions → All P (w.kept_enter i)) → All (IsPart P) (all_parts w)
    all_are leave enter kept_leave kept_enter =
        All-append (IsPart P) (first_parts (leave_part w) w.regions) (first_parts (enter_part w) w.regions)
        (first_all (IsPart P) (leave_part w) w.regions
        (λ i below. part_is 6 30 i (w.leave i) (w.kept_leave i) (inl refl) (inr refl) below (leave i below) (kept_leave i below)))
        (first_all (IsPart P) (enter_part w) w.regions
        (λ i below. part_is 30 6 i (w.enter i) (w.kept_enter i) (inr refl) (inl refl) below (enter i below) (kept_enter i below)))

-- ---- what jobs leave of control words

abbrev pub IsApart : ℕ → ℕ → Type 0
IsApart base x = (x < base) ⊎ (base + 64 ≤ x)

module _ (base lo size : ℕ) (s : State) where
  -- no job writes them
  outside : (x : ℕ) (jobs : List CopyJob) → base ≤ x → x < base + 64 → All (FitsJob base lo size s) jobs → All (IsOutside x) jobs
  outside x [] low high fit = All-nil (IsOutside x)
  outside x (job ∷ jobs) low high fit =
      All-cons (IsOutside x) job jobs (by (All-head (FitsJob base lo size s) job jobs fit).target)
      (outside x jobs low high (All-tail (FitsJob base lo size s) job jobs fit))
    where
      by : AreDisjoint job.to job.bytes base 64 → IsOutside x job
      by (inl before) = inr (omega (arith, before, low))
      by (inr past) = inl (omega (arith, past, high))

  pub jobs_spare : (mem : Memory) (jobs : List CopyJob) (x : ℕ) → base ≤ x → x < base + 64 → All (FitsJob base lo size s) jobs → all_copied mem jobs x ≡ mem x
  jobs_spare mem jobs x low high fit = jobs_copy_so.elsewhere mem jobs x (outside x jobs low high fit)

  -- nor reads them: memories that differ there alone differ there alone behind the jobs
  job_alike : (m n : Memory) (job : CopyJob) → AreDisjoint job.from job.bytes base 64 → ((x : ℕ) → IsApart base x → m x ≡ n x) → (x : ℕ) → IsApart base x → copied m job x ≡ copied n job x
  job_alike m n job source same x apart =
      elim (cases_lt x job.to) [
        | inl before ↦ elsewhere (inl before)
        | inr behind ↦
            elim (cases_lt x (job.to + job.bytes)) [
              | inl inside ↦
                  let i : ℕ = x - job.to in
                  let here : job.to + i ≡ x = omega (arith, behind) in
                  let below : i < job.bytes = omega (arith, behind, inside) in
                  subst (λ y. copied m job y ≡ copied n job y) here
                  (jobs_copy_so.target m [] [] job i below (All-nil (IsOutside (job.from + i))) (All-nil (IsOutside (job.to + i)))
                  ∙ (same (job.from + i) (by i below source)
                  ∙ sym (jobs_copy_so.target n [] [] job i below (All-nil (IsOutside (job.from + i))) (All-nil (IsOutside (job.to + i))))))
              | inr past ↦ elsewhere (inr past)
            ]
      ]
    where
      by : (i : ℕ) → i < job.bytes → AreDisjoint job.from job.bytes base 64 → IsApart base (job.from + i)
      by i below (inl before) = inl (omega (arith, before, below))
      by i below (inr past) = inr (omega (arith, past))

      elsewhere : IsOutside x job → copied m job x ≡ copied n job x
      elsewhere out =
          let all = All-cons (IsOutside x) job [] out (All-nil (IsOutside x)) in
          jobs_copy_so.elsewhere m (job ∷ []) x all ∙ (same x apart ∙ sym (jobs_copy_so.elsewhere n (job ∷ []) x all))

  pub jobs_alike : (m n : Memory) (jobs : List CopyJob) → All (FitsJob base lo size s) jobs → ((x : ℕ) → IsApart base x → m x ≡ n x) → (x : ℕ) → IsApart base x → all_copied m jobs x ≡ all_copied n jobs x
  jobs_alike m n [] fit same x apart = same x apart
  jobs_alike m n (job ∷ jobs) fit same x apart =
      jobs_alike (copied m job) (copied n job) jobs (All-tail (FitsJob base lo size s) job jobs fit)
      (job_alike m n job (All-head (FitsJob base lo size s) job jobs fit).source same) x apart
