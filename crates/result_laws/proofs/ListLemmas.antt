-- The jobs of slots that pass a test: what each has, all have; and what each writes is written.
use Rattle.std.proofs.Common.{◌≡◌, inl, ℕ, zero, suc, ◌+◌, ◌<◌, Bool, true, false, if◌then◌else◌, List, [], ◌∷◌, length, refl, sym, subst, arith}
use Rattle.std.specs.Prelude.{All}
use Rattle.std.proofs.lemmas.Bool.{cond_both}
use Rattle.std.proofs.lemmas.List.Elements.{All-nil, All-cons, All-append}
use Rattle.object_graph.specs.declared.parts.Graph.{Graph}
use Rattle.placement_programme.specs.declared.variables.VarName.{VarName}
use Rattle.patch_code.specs.declared.job.CopyJob.{CopyJob}
use Rattle.relocator.specs.declared.slots.Slot.{Slot}
use Rattle.relocator.specs.Slots.{is_code}
use Rattle.relocator.specs.Laws.{slot_at}
use Rattle.result_laws.specs.ChosenJobs.{Images, job_into, jobs_home, next_code, entering, leaving, code_number}
use Rattle.result_laws.proofs.Phases.{Writes, IsWritten, written_left, written_right}

-- the job into slot `k`, where `n` items of code come before the first slot; and those home from it
abbrev pub job_at : Graph → Images → ℕ → List Slot → ℕ → CopyJob
job_at g images n slots k = job_into g images n (slot_at slots k).at (slot_at slots k).name

abbrev pub homes_at : Graph → List Slot → ℕ → List CopyJob
homes_at g slots k = jobs_home g (slot_at slots k).at (slot_at slots k).name

-- a job is that into a slot that passes a test
pub record IsInto (which : VarName → Bool) (g : Graph) (images : Images) (slots : List Slot) (job : CopyJob) : Type 0 where
  pub k : ℕ
  pub below : k < length slots
  pub passes : which (slot_at slots k).name ≡ true
  pub is : job ≡ job_at g images (code_number slots k) slots k

-- jobs are those into just such slots
pub record AreInto (which : VarName → Bool) (g : Graph) (images : Images) (slots : List Slot) (jobs : List CopyJob) : Type 0 where
  pub are : All (IsInto which g images slots) jobs
  pub written : (a k : ℕ) → k < length slots → which (slot_at slots k).name ≡ true → Writes a (job_at g images (code_number slots k) slots k) → IsWritten a jobs

pub next_plus : (name : VarName) (n m : ℕ) → next_code name n + m ≡ n + next_code name m
next_plus name n m = by (is_code name)
  where
    by : (b : Bool) → (if b then suc n else n) + m ≡ n + (if b then suc m else m)
    by true = omega arith
    by false = refl

module _ (which : VarName → Bool) (g : Graph) where
  pub entering_all : (P : CopyJob → Type 0) (images : Images) (n : ℕ) (slots : List Slot) → ((k : ℕ) → k < length slots → which (slot_at slots k).name ≡ true → P (job_at g images (n + code_number slots k) slots k)) → All P (entering which g images n slots)
  entering_all P images n [] each = All-nil P
  entering_all P images n (s ∷ ss) each =
      All-append P (if which s.name then job_into g images n s.at s.name ∷ [] else []) (entering which g images (next_code s.name n) ss)
      (cond_both (which s.name) (job_into g images n s.at s.name ∷ []) [] (λ jobs. All P jobs)
      (λ yes. All-cons P (job_into g images n s.at s.name) [] (subst (λ (m : ℕ). P (job_into g images m s.at s.name)) (omega arith) (each 0 (omega arith) yes)) (All-nil P)) (λ not_so. All-nil P))
      (entering_all P images (next_code s.name n) ss
      (λ k below passes. subst (λ (m : ℕ). P (job_at g images m ss k)) (sym (next_plus s.name n (code_number ss k))) (each (suc k) (omega (arith, below)) passes)))

  pub entering_written : (a : ℕ) (images : Images) (n : ℕ) (slots : List Slot) (k : ℕ) → k < length slots → which (slot_at slots k).name ≡ true → Writes a (job_at g images (n + code_number slots k) slots k) → IsWritten a (entering which g images n slots)
  entering_written a images n [] k below passes writes = absurd (omega (arith, below))
  entering_written a images n (s ∷ ss) zero below passes writes =
      written_left a (if which s.name then job_into g images n s.at s.name ∷ [] else []) (entering which g images (next_code s.name n) ss)
      (subst (λ (b : Bool). IsWritten a (if b then job_into g images n s.at s.name ∷ [] else [])) (sym passes)
      (inl (subst (λ (m : ℕ). Writes a (job_into g images m s.at s.name)) (omega arith) writes)))
  entering_written a images n (s ∷ ss) (suc k) below passes writes =
      written_right a (if which s.name then job_into g images n s.at s.name ∷ [] else []) (entering which g images (next_code s.name n) ss)
      (entering_written a images (next_code s.name n) ss k (omega (arith, below)) passes
      (subst (λ (m : ℕ). Writes a (job_at g images m ss k)) (sym (next_plus s.name n (code_number ss k))) writes))

  pub leaving_all : (P : CopyJob → Type 0) (slots : List Slot) → ((k : ℕ) → k < length slots → which (slot_at slots k).name ≡ true → All P (homes_at g slots k)) → All P (leaving which g slots)
  leaving_all P [] each = All-nil P
  leaving_all P (s ∷ ss) each =
      All-append P (if which s.name then jobs_home g s.at s.name else []) (leaving which g ss)
      (cond_both (which s.name) (jobs_home g s.at s.name) [] (λ jobs. All P jobs) (λ yes. each 0 (omega arith) yes) (λ not_so. All-nil P))
      (leaving_all P ss (λ k below passes. each (suc k) (omega (arith, below)) passes))

  pub leaving_written : (a : ℕ) (slots : List Slot) (k : ℕ) → k < length slots → which (slot_at slots k).name ≡ true → IsWritten a (homes_at g slots k) → IsWritten a (leaving which g slots)
  leaving_written a [] k below passes written = absurd (omega (arith, below))
  leaving_written a (s ∷ ss) zero below passes written =
      written_left a (if which s.name then jobs_home g s.at s.name else []) (leaving which g ss)
      (subst (λ (b : Bool). IsWritten a (if b then jobs_home g s.at s.name else [])) (sym passes) written)
  leaving_written a (s ∷ ss) (suc k) below passes written =
      written_right a (if which s.name then jobs_home g s.at s.name else []) (leaving which g ss)
      (leaving_written a ss k (omega (arith, below)) passes written)

-- from the first slot on
from_0 : (P : CopyJob → Type 0) (g : Graph) (images : Images) (slots : List Slot) (k : ℕ) → P (job_at g images (code_number slots k) slots k) → P (job_at g images (0 + code_number slots k) slots k)
from_0 P g images slots k is = subst (λ (n : ℕ). P (job_at g images n slots k)) (omega arith) is

pub all_into : (which : VarName → Bool) (g : Graph) (images : Images) (slots : List Slot) (P : CopyJob → Type 0) → ((k : ℕ) → k < length slots → which (slot_at slots k).name ≡ true → P (job_at g images (code_number slots k) slots k)) → All P (entering which g images 0 slots)
all_into which g images slots P each =
    entering_all which g P images 0 slots (λ k below passes. from_0 P g images slots k (each k below passes))

pub written_into : (which : VarName → Bool) (g : Graph) (images : Images) (slots : List Slot) (a k : ℕ) → k < length slots → which (slot_at slots k).name ≡ true → Writes a (job_at g images (code_number slots k) slots k) → IsWritten a (entering which g images 0 slots)
written_into which g images slots a k below passes writes =
    entering_written which g a images 0 slots k below passes (from_0 (λ job. Writes a job) g images slots k writes)

pub are_into : (which : VarName → Bool) (g : Graph) (images : Images) (slots : List Slot) → AreInto which g images slots (entering which g images 0 slots)
are_into which g images slots = record {
  are = all_into which g images slots (IsInto which g images slots) (λ k below passes. record { k = k; below = below; passes = passes; is = refl });
  written = written_into which g images slots;
}
