-- The relocations that are read: how many there are, where they stand, and what holds of them in a file
-- in which no check fails.
use Rattle.std.proofs.Common.{◌≡◌, ◌⊎◌, inl, inr, ℕ, zero, suc, ◌+◌, ◌*◌, ◌/◌, ◌<◌, ◌≤◌, Bool, true, false, List, refl, arith, if◌then◌else◌}
use Rattle.list_checks.proofs.FirstLemmas.{holds}
use Rattle.elf_reader.specs.Sections.{stands_in_file, relocation_count_at, relocation_count_below}
use Rattle.elf_reader.specs.Placed.{HasContent}
use Rattle.elf_reader.specs.declared.records.SectionHeader.{SectionHeader}

-- the relocations of one section header are counted among all
pub counted : (file : List ℕ) (k n : ℕ) → k < n → relocation_count_below file k + relocation_count_at file k ≤ relocation_count_below file n
counted file k zero below = absurd (omega arith)
counted file k (suc n) below =
    let place : (k ≡ n) ⊎ (k < n) = grind arith in
    elim place [
      | inl here ↦ rw here (omega arith)
      | inr earlier ↦ let more = counted file k n earlier in omega arith
    ]

-- the entries of a relocation section lie inside the file
placed : (size : ℕ) (s : SectionHeader) → HasContent size s → s.sh_type ≡ 4 → (i : ℕ) → i < s.sh_size / 12 → s.sh_offset + 12 * i + 12 ≤ size
placed size s content kind i below =
    let stands : stands_in_file s.sh_type ≡ true = rw kind in
    let inside = content stands in
    omega (arith, inside)

-- a count that is 0 unless the test passes
counts : (test : Bool) (n i : ℕ) → i < (if test then n else 0) → (test ≡ true) × (i < n)
counts true n i below = (refl, below)
counts false n i below = absurd (omega arith)
