-- What jobs move.
use Rattle.std.proofs.Common.{inl, inr, ℕ, suc, ◌+◌, ◌<◌, List, [], ◌∷◌, ◌∙◌, arith}
use Rattle.std.specs.Prelude.{All}
use Rattle.std.proofs.lemmas.List.Elements.{All-nil, All-cons, All-head, All-tail}
use Rattle.rv32im.specs.Memory.{Memory}
use Rattle.patch_code.specs.declared.job.CopyJob.{CopyJob}
use Rattle.patch_code.specs.Jobs.{copied, AreDisjoint, all_copied, IsOutside}
use Rattle.patch_code.proofs.ByteLemmas.{jobs_copy_so, in_order}
use Rattle.patch_code.specs.Moves.{SparesJob, AreApart, IsMoved, JobsMove}

abbrev Each : CopyJob → CopyJob → Type 0
Each a b = SparesJob a b × SparesJob b a

apart_first : (job : CopyJob) (jobs : List CopyJob) → AreApart (job ∷ jobs) → All (Each job) jobs
apart_first job jobs apart k d below = apart 0 (suc k) d (omega arith) (omega (arith, below))

apart_rest : (job : CopyJob) (jobs : List CopyJob) → AreApart (job ∷ jobs) → AreApart jobs
apart_rest job jobs apart i j d before below = apart (suc i) (suc j) d (omega (arith, before)) (omega (arith, below))

-- a byte of a range that a job spares
outside_of : (at n i : ℕ) (job : CopyJob) → i < n → AreDisjoint job.to job.bytes at n → IsOutside (at + i) job
outside_of at n i job below (inl before) = inr (omega (arith, before))
outside_of at n i job below (inr past) = inl (omega (arith, past, below))

all_outside : (at n i : ℕ) (jobs : List CopyJob) → i < n → All (λ (job : CopyJob). AreDisjoint job.to job.bytes at n) jobs → All (IsOutside (at + i)) jobs
all_outside at n i [] below spared = All-nil (IsOutside (at + i))
all_outside at n i (job ∷ jobs) below spared =
    All-cons (IsOutside (at + i)) job jobs (outside_of at n i job below (All-head (λ (j : CopyJob). AreDisjoint j.to j.bytes at n) job jobs spared))
    (all_outside at n i jobs below (All-tail (λ (j : CopyJob). AreDisjoint j.to j.bytes at n) job jobs spared))

moved_so : (mem : Memory) (jobs : List CopyJob) → AreApart jobs → All (IsMoved mem (all_copied mem jobs)) jobs
moved_so mem [] apart = All-nil (IsMoved mem (all_copied mem []))
moved_so mem (job ∷ jobs) apart =
    let others = apart_first job jobs apart in
    let rest = moved_so (copied mem job) jobs (apart_rest job jobs apart) in
    All-cons (IsMoved mem (all_copied mem (job ∷ jobs))) job jobs
    (λ i below. jobs_copy_so.target mem [] jobs job i below (All-nil (IsOutside (job.from + i)))
    (all_outside job.to job.bytes i jobs below (λ k d within. (others k d within).1.target)))
    (λ k d within i below.
    rest k d within i below
    ∙ jobs_copy_so.elsewhere mem (job ∷ []) _ (All-cons (IsOutside _) job [] (outside_of _ _ i job below (others k d within).0.source) (All-nil (IsOutside _))))

pub jobs_move_so : JobsMove
jobs_move_so = record { moved = moved_so; in_order = in_order }
