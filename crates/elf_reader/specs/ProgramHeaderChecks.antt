-- The checks of the program headers and their segments, each with the fault that it tells, and their
-- order.
use Rattle.std.specs.Prelude.{ℕ, zero, suc, ◌+◌, ◌==◌, nat_lt, nat_le, Bool, not, ◌&&◌, ◌||◌, if◌then◌else◌, List, length, Option, None}
use Rattle.list_checks.specs.First.{◌or_else◌, unless, first_below}
use Rattle.list_checks.specs.Tests.{ranges_overlap}
use Rattle.elf_reader.specs.Layout.{program_header_count, program_header_at, program_header}
use Rattle.elf_reader.specs.File.{is_load}
use Rattle.elf_reader.specs.HeaderChecks.{capped}
use Rattle.elf_reader.specs.declared.fault.ElfFault.{ElfFault}
use Rattle.elf_reader.specs.declared.fault.ElfFault.TheVariants.{WrongKind, OutOfFile, OverLimit, Overlap}
use Rattle.elf_reader.specs.declared.records.ProgramHeader.{ProgramHeader}

-- program header `k` lies inside the file
abbrev pub place_fault : List ℕ → ℕ → Option ElfFault
place_fault file k = unless (nat_le (program_header_at file k + 32) (length file)) (OutOfFile 1 k)

-- the whole table does
abbrev pub table_fault : List ℕ → Option ElfFault
table_fault file = first_below (place_fault file) (program_header_count file)

-- nothing is linked when the program starts: no PT_DYNAMIC (2), no PT_INTERP (3)
abbrev pub type_fault : ProgramHeader → Option ElfFault
type_fault p = unless (not ((p.p_type == 2) || (p.p_type == 3))) (WrongKind 11 p.p_type)

-- a segment to be loaded, of program header `k` in a file of `size` bytes: its bytes lie inside the
-- file, and they fit into its memory, which ends at 2 ^ 32 - 1 or below
abbrev pub load_fault : ℕ → ℕ → ProgramHeader → Option ElfFault
load_fault size k p =
    unless (nat_le (p.p_offset + p.p_filesz) size) (OutOfFile 2 k)
    or_else unless (nat_le p.p_filesz p.p_memsz) (WrongKind 12 p.p_filesz)
    or_else unless (nat_le (p.p_vaddr + p.p_memsz) 4294967295) (WrongKind 13 p.p_memsz)

-- a program header of number `k` in a file of `size` bytes. Other types pass unread
abbrev pub program_fault : ℕ → ℕ → ProgramHeader → Option ElfFault
program_fault size k p = type_fault p or_else (if is_load p then load_fault size k p else None)

-- program header `k`
abbrev pub entry_fault : List ℕ → ℕ → Option ElfFault
entry_fault file k = program_fault (length file) k (program_header file k)

-- each program header
abbrev pub entries_fault : List ℕ → Option ElfFault
entries_fault file = first_below (entry_fault file) (program_header_count file)

-- the bytes in memory of the segment, if it is to be loaded
abbrev pub memory_size : ProgramHeader → ℕ
memory_size p = if is_load p then p.p_memsz else 0

-- the same of the first n program headers together
abbrev pub memory_below : List ℕ → ℕ → ℕ
memory_below file zero = 0
memory_below file (suc k) = memory_below file k + memory_size (program_header file k)

-- all segments together have at most 16 MiB of memory
abbrev pub memory_fault : List ℕ → Option ElfFault
memory_fault file =
    let total = memory_below file (program_header_count file) in
    unless (nat_le total 16777216) (OverLimit 4 (capped total))

-- two program headers are of segments to be loaded that share an address
abbrev pub overlaps : ProgramHeader → ProgramHeader → Bool
overlaps p q = is_load p && is_load q && ranges_overlap p.p_vaddr p.p_memsz q.p_vaddr q.p_memsz

-- program headers `i` and `j`, of which `i` is the lower one
unfoldable pub pair_fault : List ℕ → ℕ → ℕ → Option ElfFault
pair_fault file i j =
    unless (not (nat_lt i j && overlaps (program_header file i) (program_header file j))) (Overlap i j)

-- the pairs of which program header `i` is the lower one, in the order of the higher one
abbrev pub pairs_fault : List ℕ → ℕ → Option ElfFault
pairs_fault file i = first_below (pair_fault file i) (program_header_count file)

-- all pairs, in the order of the lower one
abbrev pub overlap_fault : List ℕ → Option ElfFault
overlap_fault file = first_below (pairs_fault file) (program_header_count file)

-- the program headers and their segments
abbrev pub program_headers_fault : List ℕ → Option ElfFault
program_headers_fault file =
    table_fault file or_else entries_fault file or_else memory_fault file or_else overlap_fault file
