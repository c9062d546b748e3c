-- What jobs move that are not in each other's way.
use Rattle.std.specs.Prelude.{◌≡◌, ℕ, ◌+◌, ◌<◌, List, ◌++◌, All, AllPairs}
use Rattle.rv32im.specs.Memory.{Memory}
use Rattle.patch_code.specs.declared.job.CopyJob.{CopyJob}
use Rattle.patch_code.specs.Jobs.{AreDisjoint, all_copied}

-- what a job writes meets neither what another reads nor what it writes
pub record SparesJob (job other : CopyJob) : Type 0 where
  pub source : AreDisjoint job.to job.bytes other.from other.bytes
  pub target : AreDisjoint job.to job.bytes other.to other.bytes

abbrev pub AreApart : List CopyJob → Type 0
AreApart jobs = AllPairs (λ a b. SparesJob a b × SparesJob b a) jobs

-- the target of a job holds the bytes that its source held before
abbrev pub IsMoved : Memory → Memory → CopyJob → Type 0
IsMoved old new job = (i : ℕ) → i < job.bytes → new (job.to + i) ≡ old (job.from + i)

-- such jobs move all their bytes. Jobs that leave a region and jobs that enter one are done one list after the other
pub record JobsMove : Type 0 where
  pub moved : (mem : Memory) (jobs : List CopyJob) → AreApart jobs → All (IsMoved mem (all_copied mem jobs)) jobs
  pub in_order : (mem : Memory) (first last : List CopyJob) → all_copied mem (first ++ last) ≡ all_copied (all_copied mem first) last
