-- What a switch must leave in memory, so that the machine is in the next region.
use Rattle.std.specs.Prelude.{◌≡◌, ◌⊎◌, ℕ, ◌+◌, ◌<◌, true, false, List}
use Rattle.rv32im.specs.Words.{byte_of}
use Rattle.rv32im.specs.Memory.{Memory}
use Rattle.patch_code.specs.declared.job.CopyJob.{CopyJob}
use Rattle.patch_code.specs.Switches.{Switched}
use Rattle.object_machine.specs.Program.{Program}
use Rattle.simulation.specs.Setups.{Setup}

-- Memory while a region is current, where another may be next: what stands still has its bytes. Objects that nothing writes
-- have at home the bytes that they have at their places, and there these are the ones that stand still in the next region.
pub record IsOfRegion (p : Program) (l : Setup) (from to : ℕ) (mem : Memory) : Type 0 where
  pub still : (a : ℕ) → l.is_still from a ≡ true → mem a ≡ l.still from a
  pub homes : (o i : ℕ) → p.objects.writable o ≡ false → i < p.objects.size o
      → mem (p.objects.home o + i) ≡ mem (l.place from o + i)
  pub next_homes : (o i : ℕ) → p.objects.writable o ≡ false → i < p.objects.size o → (l.place to o ≡ p.objects.home o → ⊥)
      → mem (p.objects.home o + i) ≡ l.still to (p.objects.home o + i)

-- a byte that stands still is one of the region's number in the first control word
pub record IsOfNumber (l : Setup) (base r a : ℕ) : Type 0 where
  pub k : ℕ
  pub below : k < 4
  pub at : a ≡ base + k
  pub byte : l.still r a ≡ byte_of r k

-- each object's bytes come to its new place, fixed memory stays, and what stands still in the next region is there, but for
-- the region's number
pub record BringsAll (p : Program) (l : Setup) (base from to : ℕ) (old new : Memory) : Type 0 where
  pub objects : (o i : ℕ) → i < p.objects.size o → new (l.place to o + i) ≡ old (l.place from o + i)
  pub fixed : (a : ℕ) → p.is_fixed a ≡ true → new a ≡ old a
  pub still : (a : ℕ) → l.is_still to a ≡ true → IsOfNumber l base to a ⊎ (new a ≡ l.still to a)

-- a switch with these jobs leaves all that, from any memory of the one region
abbrev pub JobsServe : Program → Setup → ℕ → ℕ → ℕ → List CopyJob → Type 0
JobsServe p l base from to jobs =
    (lo size : ℕ) (old new : Memory) → IsOfRegion p l from to old → Switched base lo size to jobs old new
    → BringsAll p l base from to old new
