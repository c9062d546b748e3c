-- What holds of a file in which no check fails, and of its segments.
use Rattle.std.specs.Prelude.{◌≡◌, ℕ, ◌+◌, ◌<◌, ◌≤◌, false, IsTrue, List, length, All}
use Rattle.std.specs.List.{AllPairs}
use Rattle.elf_reader.specs.Layout.{file_header, program_header_count, program_header_at, program_header}
use Rattle.elf_reader.specs.File.{PlainSegment, is_load}
use Rattle.list_checks.specs.Tests.{ranges_overlap}
use Rattle.elf_reader.specs.declared.records.FileHeader.{FileHeader}
use Rattle.elf_reader.specs.declared.records.ProgramHeader.{ProgramHeader}

-- the program header table lies inside the file
abbrev pub HasProgramHeaders : List ℕ → Type 0
HasProgramHeaders file = (k : ℕ) → k < program_header_count file → program_header_at file k + 32 ≤ length file

-- and `h` is the ELF header
abbrev pub HasProgramTable : List ℕ → FileHeader → Type 0
HasProgramTable file h = (h ≡ file_header file) × HasProgramHeaders file

-- a program header's segment lies inside a file of `size` bytes and fits into its memory, which ends
-- below 2 ^ 32
pub record HasSegment (size : ℕ) (p : ProgramHeader) : Type 0 where
  pub inside : p.p_offset + p.p_filesz ≤ size
  pub fits : p.p_filesz ≤ p.p_memsz
  pub ends : p.p_vaddr + p.p_memsz < 4294967296

-- so does each that is to be loaded
abbrev pub HasSegments : List ℕ → Type 0
HasSegments file =
    (k : ℕ) → k < program_header_count file → IsTrue (is_load (program_header file k)) → HasSegment (length file) (program_header file k)

abbrev pub IsByte : ℕ → Type 0
IsByte n = n < 256

abbrev pub AreBytes : List ℕ → Type 0
AreBytes ns = All IsByte ns

-- a segment's bytes fit into its memory, which ends below 2 ^ 32
pub record IsLoadable (s : PlainSegment) : Type 0 where
  pub bytes : AreBytes s.content
  pub fits : length s.content ≤ s.memsz
  pub ends : s.vaddr + s.memsz < 4294967296

abbrev pub AreLoadable : List PlainSegment → Type 0
AreLoadable ss = All IsLoadable ss

-- two segments share no address. A segment of size 0 has none
abbrev pub IsDisjoint : PlainSegment → PlainSegment → Type 0
IsDisjoint s t = ranges_overlap s.vaddr s.memsz t.vaddr t.memsz ≡ false

abbrev pub AreDisjoint : List PlainSegment → Type 0
AreDisjoint ss = AllPairs IsDisjoint ss
