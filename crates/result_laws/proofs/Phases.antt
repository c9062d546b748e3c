-- Jobs that write one part of memory and read another: what they leave at an address is what each job that writes it brings.
use Rattle.std.proofs.Common.{◌≡◌, ◌⊎◌, inl, inr, ℕ, ◌+◌, ◌-◌, ◌<◌, ◌≤◌, List, [], ◌∷◌, ◌++◌, ◌∙◌, subst, arith}
use Rattle.std.specs.Prelude.{All}
use Rattle.std.proofs.lemmas.Bool.{cases_lt}
use Rattle.std.proofs.lemmas.List.Elements.{All-nil, All-cons, All-head, All-tail, All-weaker}
use Rattle.rv32im.specs.Memory.{Memory}
use Rattle.patch_code.specs.declared.job.CopyJob.{CopyJob}
use Rattle.patch_code.specs.Jobs.{copied, all_copied, IsOutside}
use Rattle.patch_code.proofs.ByteLemmas.{jobs_copy_so}

-- a job writes an address; one of several does
pub record Writes (a : ℕ) (job : CopyJob) : Type 0 where
  pub from : job.to ≤ a
  pub to : a < job.to + job.bytes

abbrev pub IsWritten : ℕ → List CopyJob → Type 0
IsWritten a [] = ⊥
IsWritten a (job ∷ jobs) = Writes a job ⊎ IsWritten a jobs

pub written_left : (a : ℕ) (xs ys : List CopyJob) → IsWritten a xs → IsWritten a (xs ++ ys)
written_left a [] ys is = absurd is
written_left a (x ∷ xs) ys (inl here) = inl here
written_left a (x ∷ xs) ys (inr later) = inr (written_left a xs ys later)

pub written_right : (a : ℕ) (xs ys : List CopyJob) → IsWritten a ys → IsWritten a (xs ++ ys)
written_right a [] ys is = is
written_right a (x ∷ xs) ys is = inr (written_right a xs ys is)

-- where `mem` is the memory before, a job writes in the zone, reads outside it, and brings `v` to `a` if it writes that
pub record Brings (Zone : ℕ → Type 0) (mem : Memory) (a v : ℕ) (job : CopyJob) : Type 0 where
  pub target : (i : ℕ) → i < job.bytes → Zone (job.to + i)
  pub source : (i : ℕ) → i < job.bytes → Zone (job.from + i) → ⊥
  pub value : (i : ℕ) → i < job.bytes → job.to + i ≡ a → mem (job.from + i) ≡ v

module _ (Zone : ℕ → Type 0) (a v : ℕ) where
  inside_is : (mem : Memory) (job : CopyJob) (x : ℕ) → job.to ≤ x → x < job.to + job.bytes → copied mem job x ≡ mem (job.from + (x - job.to))
  inside_is mem job x from to =
      let i : ℕ = x - job.to in
      let here : job.to + i ≡ x = omega (arith, from) in
      subst (λ (y : ℕ). copied mem job y ≡ mem (job.from + i)) here
      (jobs_copy_so.target mem [] [] job i (omega (arith, from, to)) (All-nil (IsOutside (job.from + i))) (All-nil (IsOutside (job.to + i))))

  outside_is : (mem : Memory) (job : CopyJob) (x : ℕ) → IsOutside x job → copied mem job x ≡ mem x
  outside_is mem job x out = jobs_copy_so.elsewhere mem (job ∷ []) x (All-cons (IsOutside x) job [] out (All-nil (IsOutside x)))

  one_brings : (mem : Memory) (job : CopyJob) → Brings Zone mem a v job → (mem a ≡ v) ⊎ Writes a job → copied mem job a ≡ v
  one_brings mem job is before =
      elim (cases_lt a job.to) [
        | inl first ↦ outside_is mem job a (inl first) ∙ unwritten (λ w. let from = w.from in omega (arith, from, first)) before
        | inr from ↦ elim (cases_lt a (job.to + job.bytes)) [
          | inl to ↦ inside_is mem job a from to ∙ is.value (a - job.to) (omega (arith, from, to)) (omega (arith, from))
          | inr past ↦ outside_is mem job a (inr past) ∙ unwritten (λ w. let to = w.to in omega (arith, to, past)) before
        ]
      ]
    where
      unwritten : (Writes a job → ⊥) → (mem a ≡ v) ⊎ Writes a job → mem a ≡ v
      unwritten not (inl same) = same
      unwritten not (inr written) = absurd (not written)

  -- a job leaves what another reads
  source_left : (mem : Memory) (job other : CopyJob) → Brings Zone mem a v job → Brings Zone mem a v other → Brings Zone (copied mem job) a v other
  source_left mem job other first second = record {
    target = second.target;
    source = second.source;
    value = λ i below same. left (other.from + i) (second.source i below) ∙ second.value i below same;
  }
    where
      left : (x : ℕ) → (Zone x → ⊥) → copied mem job x ≡ mem x
      left x off = elim (cases_lt x job.to) [
        | inl before ↦ outside_is mem job x (inl before)
        | inr from ↦ elim (cases_lt x (job.to + job.bytes)) [
          | inl to ↦
              let here : job.to + (x - job.to) ≡ x = omega (arith, from) in
              absurd (off (subst Zone here (first.target (x - job.to) (omega (arith, from, to)))))
          | inr past ↦ outside_is mem job x (inr past)
        ]
      ]

  pub jobs_bring : (mem : Memory) (jobs : List CopyJob) → All (Brings Zone mem a v) jobs → (mem a ≡ v) ⊎ IsWritten a jobs → all_copied mem jobs a ≡ v
  jobs_bring mem [] bring (inl same) = same
  jobs_bring mem [] bring (inr none) = absurd none
  jobs_bring mem (job ∷ jobs) bring before =
      let here = All-head (Brings Zone mem a v) job jobs bring in
      let rest = All-weaker (Brings Zone mem a v) (Brings Zone (copied mem job) a v) (λ other is. source_left mem job other here is) jobs
      (All-tail (Brings Zone mem a v) job jobs bring) in
      jobs_bring (copied mem job) jobs rest (after here before)
    where
      after : Brings Zone mem a v job → (mem a ≡ v) ⊎ (Writes a job ⊎ IsWritten a jobs) → (copied mem job a ≡ v) ⊎ IsWritten a jobs
      after here (inl same) = inl (one_brings mem job here (inl same))
      after here (inr (inl written)) = inl (one_brings mem job here (inr written))
      after here (inr (inr later)) = inr later
