-- Parts that the routine can test, of jobs that all have one property.
use Rattle.std.proofs.Common.{◌≡◌, ◌⊎◌, ℕ, ◌<◌, List}
use Rattle.std.specs.Prelude.{Option, Some, None, All}
use Rattle.patch_code.specs.declared.job.CopyJob.{CopyJob}
use Rattle.patch_code.specs.Parts.{Kept, Part}

-- the registers whose words are tested
abbrev pub IsTest : ℕ → Type 0
IsTest k = (k ≡ 6) ⊎ (k ≡ 30)

module _ (P : CopyJob → Type 0) where
  pub record IsKept (k : Kept (List CopyJob)) : Type 0 where
    pub test : IsTest k.tested
    pub few : k.twin < 2048
    pub jobs : All P k.jobs

  abbrev pub IsSome : Option (Kept (List CopyJob)) → Type 0
  IsSome None = Unit {0}
  IsSome (Some k) = IsKept k

  pub record IsPart (p : Part (List CopyJob)) : Type 0 where
    pub test : IsTest p.tested
    pub few : p.region < 2048
    pub jobs : All P p.jobs
    pub kept : IsSome p.kept
