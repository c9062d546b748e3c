-- What jobs leave, byte by byte.
use Rattle.std.proofs.Common.{◌≡◌, inl, inr, ℕ, zero, suc, ◌+◌, ◌<◌, List, [], ◌∷◌, ◌++◌, refl, sym, ◌∙◌, ap, subst, arith}
use Rattle.std.specs.Prelude.{All}
use Rattle.std.proofs.lemmas.Bool.{cases_eq}
use Rattle.std.proofs.lemmas.Bool.Decides.{nat_tests}
use Rattle.std.proofs.lemmas.List.Elements.{All-head, All-tail}
use Rattle.rv32im.specs.Memory.{Memory, put}
use Rattle.patch_code.specs.declared.job.CopyJob.{CopyJob}
use Rattle.patch_code.specs.Jobs.{copied, all_copied, IsOutside, JobsCopy}
use Rattle.patch_code.proofs.Copies.{after, after_more, after_before, after_behind}

put_here : (m : Memory) (a b v : ℕ) → a ≡ b → put m b v a ≡ v
unfolding put
put_here m a b v same = grind (arith, nat_tests)

put_elsewhere : (m : Memory) (a b v : ℕ) → (a ≡ b → ⊥) → put m b v a ≡ m a
unfolding put
put_elsewhere m a b v other = grind (arith, nat_tests)

after_in : (mem : Memory) (from to n i : ℕ) → i < n → after mem from to n (to + i) ≡ mem (from + i)
after_in mem from to zero i below = absurd (omega arith)
after_in mem from to (suc n) i below =
    subst (λ (m : Memory). m (to + i) ≡ mem (from + i)) (after_more mem from to n)
    (elim (cases_eq i n) [
      | inl same ↦ put_here (after mem from to n) (to + i) (to + n) (mem (from + n)) (omega arith) ∙ ap (λ k. mem (from + k)) (sym same)
      | inr other ↦
          put_elsewhere (after mem from to n) (to + i) (to + n) (mem (from + n)) (λ e. other (omega arith))
          ∙ after_in mem from to n i (omega arith)
    ])

outside : (mem : Memory) (job : CopyJob) (a : ℕ) → IsOutside a job → copied mem job a ≡ mem a
outside mem job a (inl before) = after_before mem job.from job.to job.bytes a before
outside mem job a (inr past) = after_behind mem job.from job.to job.bytes a past

all_outside : (mem : Memory) (jobs : List CopyJob) (a : ℕ) → All (IsOutside a) jobs → all_copied mem jobs a ≡ mem a
all_outside mem [] a out = refl
all_outside mem (job ∷ jobs) a out =
    all_outside (copied mem job) jobs a (All-tail (IsOutside a) job jobs out)
    ∙ outside mem job a (All-head (IsOutside a) job jobs out)

pub in_order : (mem : Memory) (first last : List CopyJob) → all_copied mem (first ++ last) ≡ all_copied (all_copied mem first) last
in_order mem [] last = refl
in_order mem (job ∷ first) last = in_order (copied mem job) first last

one_of : (mem : Memory) (first last : List CopyJob) (job : CopyJob) (i : ℕ) → i < job.bytes → All (IsOutside (job.from + i)) first → All (IsOutside (job.to + i)) last → all_copied mem (first ++ job ∷ last) (job.to + i) ≡ mem (job.from + i)
one_of mem first last job i below before behind =
    ap (λ (m : Memory). m (job.to + i)) (in_order mem first (job ∷ last))
    ∙ (all_outside (copied (all_copied mem first) job) last (job.to + i) behind
    ∙ (after_in (all_copied mem first) job.from job.to job.bytes i below ∙ all_outside mem first (job.from + i) before))

pub jobs_copy_so : JobsCopy
jobs_copy_so = record { elsewhere = all_outside; target = one_of }
