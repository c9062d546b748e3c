-- The ELF header of a written file fails no check, but that the file may be too long.
use Rattle.std.proofs.Common.{◌≡◌, ◌∙◌, ℕ, ◌+◌, ◌<◌, ◌≤◌, ◌==◌, nat_le, true, false, not, ◌||◌, List, length, slice_index, Option, Some, None, refl, ap, arith, length-append}
use Rattle.std.proofs.lemmas.Bool.Decides.{nat_tests}
use Rattle.list_checks.specs.First.{◌or_else◌, unless}
use Rattle.list_checks.proofs.FirstLemmas.{both_none, holds, or_none, unless_true}
use Rattle.elf_reader.specs.Layout.{file_header, program_header_count}
use Rattle.elf_reader.specs.Sections.{bit_of}
use Rattle.elf_reader.specs.File.{view_in}
use Rattle.elf_reader.specs.Faults.{first_fault}
use Rattle.elf_reader.specs.HeaderChecks.{field_fault, size_fault, magic_fault, identification_fault, machine_fault, flags_fault, sizes_fault, fields_fault, header_fault}
use Rattle.elf_reader.specs.declared.fault.ElfFault.TheVariants.{NotElf, WrongKind, OverLimit, TooShort}
use Rattle.elf_writer.specs.declared.parts.Patch.{Patch}
use Rattle.elf_writer.specs.declared.parts.SymbolMove.{SymbolMove}
use Rattle.elf_writer.specs.Changes.{changed, within}
use Rattle.elf_writer.specs.Parts.{NewSegment}
use Rattle.elf_writer.specs.Written.{all_changes, appended, written}
use Rattle.elf_writer.specs.Conditions.{IsWritable, HasWordEntry}
use Rattle.elf_writer.specs.Laws.{length_fault}
use Rattle.elf_writer.proofs.AlikeLemmas.{Alike, byte_alike, half_alike, word_alike}
use Rattle.elf_writer.proofs.ChangeLemmas.{length-changed}
use Rattle.elf_writer.proofs.FitLemmas.{header_inside}
use Rattle.elf_writer.proofs.RangeLemmas.{header_contents_free, free_byte}
use Rattle.elf_writer.proofs.HeaderRead.{keeps_header, header_byte, header_is}

pub length_grows : (file : List ℕ) (ps : List Patch) (new : Option NewSegment) (ms : List SymbolMove) → length file ≤ length (written (view_in file) ps new ms)
length_grows file ps new ms =
    let v = view_in file in
    let front = changed (all_changes v ps new ms) 0 v.bytes in
    let size = length-changed (all_changes v ps new ms) 0 v.bytes in
    let whole = length-append front (appended v new) in
    omega (arith, size, whole)

-- ---- fields that stay

kept_byte : (file : List ℕ) (ps : List Patch) (new : Option NewSegment) (ms : List SymbolMove) (q : ℕ) → first_fault file ≡ None → IsWritable (view_in file) ps new ms → q < 52 → within 24 4 q ≡ false → within 28 4 q ≡ false → within 44 2 q ≡ false → slice_index (written (view_in file) ps new ms) q ≡ slice_index file q
kept_byte file ps None ms q none is below off_entry off_table off_count =
    let inside = header_inside file none in
    free_byte (view_in file) ps None ms q (omega (arith, inside, below)) (header_contents_free file ps None ms q none is below)
kept_byte file ps (Some s) ms q none is below off_entry off_table off_count =
    header_byte file ps s ms q none is below ∙ rw (off_entry, off_table, off_count) refl

kept_range : (file : List ℕ) (ps : List Patch) (new : Option NewSegment) (ms : List SymbolMove) (at n : ℕ) → first_fault file ≡ None → IsWritable (view_in file) ps new ms
    → ((q : ℕ) → at ≤ q → q < at + n → (q < 52) × (within 24 4 q ≡ false) × (within 28 4 q ≡ false) × (within 44 2 q ≡ false))
    → Alike (written (view_in file) ps new ms) at file at n
kept_range file ps new ms at n none is off i below =
    let (low, entry, table, count) = off (at + i) (omega arith) (omega (arith, below)) in
    kept_byte file ps new ms (at + i) none is low entry table count

pub record KeepsFields (file out : List ℕ) : Type 0 where
  pub first : Alike out 0 file 0 24
  pub sizes : Alike out 40 file 40 4
  pub last : Alike out 46 file 46 6

pub keeps_fields : (file : List ℕ) (ps : List Patch) (new : Option NewSegment) (ms : List SymbolMove) → first_fault file ≡ None → IsWritable (view_in file) ps new ms → KeepsFields file (written (view_in file) ps new ms)
keeps_fields file ps new ms none is =
    record {
      first =
          kept_range file ps new ms 0 24 none is
          (λ q from to. (omega (arith, to), grind (arith, nat_tests, to), grind (arith, nat_tests, to), grind (arith, nat_tests, to)));
      sizes =
          kept_range file ps new ms 40 4 none is
          (λ q from to. (omega (arith, to), grind (arith, nat_tests, from), grind (arith, nat_tests, from), grind (arith, nat_tests, to)));
      last =
          kept_range file ps new ms 46 6 none is
          (λ q from to. (omega (arith, to), grind (arith, nat_tests, from), grind (arith, nat_tests, from), grind (arith, nat_tests, from)));
    }

-- ---- the checks of single fields

same_byte : (file out : List ℕ) → KeepsFields file out → (k : ℕ) → k < 24 → slice_index out k ≡ slice_index file k
same_byte file out keeps k below = byte_alike out 0 file 0 24 k k k keeps.first below (omega arith) (omega arith)

magic_kept : (file out : List ℕ) → KeepsFields file out → magic_fault out ≡ magic_fault file
magic_kept file out keeps =
    let b0 = same_byte file out keeps 0 (omega arith) in
    let b1 = same_byte file out keeps 1 (omega arith) in
    let b2 = same_byte file out keeps 2 (omega arith) in
    let b3 = same_byte file out keeps 3 (omega arith) in
    λ i. unless (b0 i == 127) (NotElf 0) or_else unless (b1 i == 69) (NotElf 1) or_else unless (b2 i == 76) (NotElf 2) or_else unless (b3 i == 70) (NotElf 3)

identification_kept : (file out : List ℕ) → KeepsFields file out → identification_fault out ≡ identification_fault file
identification_kept file out keeps =
    let b4 = same_byte file out keeps 4 (omega arith) in
    let b5 = same_byte file out keeps 5 (omega arith) in
    let b6 = same_byte file out keeps 6 (omega arith) in
    λ i. field_fault 1 (b4 i) 1 or_else field_fault 2 (b5 i) 1 or_else field_fault 3 (b6 i) 1

machine_kept : (file out : List ℕ) → KeepsFields file out → machine_fault (file_header out) ≡ machine_fault (file_header file)
unfolding file_header
machine_kept file out keeps =
    let kind = half_alike out 0 file 0 24 16 16 16 keeps.first (omega arith) (omega arith) (omega arith) in
    let machine = half_alike out 0 file 0 24 18 18 18 keeps.first (omega arith) (omega arith) (omega arith) in
    let version = word_alike out 0 file 0 24 20 20 20 keeps.first (omega arith) (omega arith) (omega arith) in
    λ i. field_fault 4 (kind i) 2 or_else field_fault 5 (machine i) 243 or_else field_fault 6 (version i) 1

-- the sizes of the header and of the records
record KeepsSizes (file out : List ℕ) : Type 0 where
  header : (file_header out).e_ehsize ≡ (file_header file).e_ehsize
  program : (file_header out).e_phentsize ≡ (file_header file).e_phentsize
  section : (file_header out).e_shentsize ≡ (file_header file).e_shentsize

keeps_sizes : (file out : List ℕ) → KeepsFields file out → KeepsSizes file out
unfolding file_header
keeps_sizes file out keeps =
    record {
      header = half_alike out 40 file 40 4 0 40 40 keeps.sizes (omega arith) (omega arith) (omega arith);
      program = half_alike out 40 file 40 4 2 42 42 keeps.sizes (omega arith) (omega arith) (omega arith);
      section = half_alike out 46 file 46 6 0 46 46 keeps.last (omega arith) (omega arith) (omega arith);
    }

-- ---- all of them

-- what the checks of the fields have found
record HeaderHeld (file : List ℕ) : Type 0 where
  magic : magic_fault file ≡ None
  identification : identification_fault file ≡ None
  machine : machine_fault (file_header file) ≡ None
  flags : flags_fault (file_header file) ≡ None
  header_size : field_fault 8 (file_header file).e_ehsize 52 ≡ None
  program_size : (((file_header file).e_phnum == 0) || ((file_header file).e_phentsize == 32)) ≡ true
  section_size : unless (((file_header file).e_shnum == 0) || ((file_header file).e_shentsize == 40)) (WrongKind 10 (file_header file).e_shentsize) ≡ None
  programs : nat_le (file_header file).e_phnum 64 ≡ true
  sections : unless (nat_le (file_header file).e_shnum 4096) (OverLimit 3 (file_header file).e_shnum) ≡ None

header_held : (file : List ℕ) → first_fault file ≡ None → HeaderHeld file
header_held file none =
    let h = file_header file in
    let header = (both_none (header_fault file) _ none).0 in
    let after_size = (both_none (size_fault file) _ header).1 in
    let magic = both_none (magic_fault file) _ after_size in
    let identification = both_none (identification_fault file) _ magic.1 in
    let machine = both_none (machine_fault h) _ identification.1 in
    let flags = both_none (flags_fault h) _ machine.1 in
    let sizes = both_none (sizes_fault h) _ flags.1 in
    let header_size = both_none (field_fault 8 h.e_ehsize 52) _ sizes.0 in
    let program_size = both_none _ _ header_size.1 in
    let counts = both_none _ _ sizes.1 in
    record {
      magic = magic.0;
      identification = identification.0;
      machine = machine.0;
      flags = flags.0;
      header_size = header_size.0;
      program_size = holds _ _ program_size.0;
      section_size = program_size.1;
      programs = holds _ _ counts.0;
      sections = counts.1;
    }

no_fewer : (n more size : ℕ) → ((n == 0) || (size == 32)) ≡ true → 1 ≤ n → ((more == 0) || (size == 32)) ≡ true
no_fewer n more size held some = grind (arith, nat_tests, held, some)

-- with one program header more, their size and their count are as they must be
record ProgramsHold (out : List ℕ) (size : ℕ) : Type 0 where
  sizes : (((file_header out).e_phnum == 0) || (size == 32)) ≡ true
  count : nat_le (file_header out).e_phnum 64 ≡ true

programs_hold : (file : List ℕ) (ps : List Patch) (new : Option NewSegment) (ms : List SymbolMove) → first_fault file ≡ None → IsWritable (view_in file) ps new ms → HasWordEntry new → ProgramsHold (written (view_in file) ps new ms) (file_header file).e_phentsize
programs_hold file ps None ms none is entry =
    let held = header_held file none in
    let count = (header_is file ps None ms none is entry).count_is in
    let size = (file_header file).e_phentsize in
    record {
      sizes = (λ i. (count i == 0) || (size == 32)) ∙ held.program_size;
      count = (λ i. nat_le (count i) 64) ∙ held.programs;
    }
programs_hold file ps (Some s) ms none is entry =
    let out = written (view_in file) ps (Some s) ms in
    let held = header_held file none in
    let count = (header_is file ps (Some s) ms none is entry).count_is in
    let some = is.allowed.from_one in
    let most = is.allowed.to_limit in
    record {
      sizes = no_fewer (program_header_count file) (file_header out).e_phnum (file_header file).e_phentsize held.program_size some;
      count = grind (arith, nat_tests, count, most);
    }

fields_kept : (file : List ℕ) (ps : List Patch) (new : Option NewSegment) (ms : List SymbolMove) → first_fault file ≡ None → IsWritable (view_in file) ps new ms → HasWordEntry new → fields_fault (file_header (written (view_in file) ps new ms)) ≡ None
fields_kept file ps new ms none is entry =
    let out = written (view_in file) ps new ms in
    let h = file_header out in
    let held = header_held file none in
    let fields = keeps_fields file ps new ms none is in
    let sizes = keeps_sizes file out fields in
    let header = keeps_header file ps new ms none is in
    let flags = header.flags in
    let program = sizes.program in
    let section = sizes.section in
    let sections = header.sections in
    let programs = programs_hold file ps new ms none is entry in
    let machine : machine_fault h ≡ None = machine_kept file out fields ∙ held.machine in
    let flagged : flags_fault h ≡ None = (λ i. unless (not (bit_of (flags i) 0 || bit_of (flags i) 3)) (WrongKind 7 (flags i))) ∙ held.flags in
    let header_size : field_fault 8 h.e_ehsize 52 ≡ None = ap (λ n. field_fault 8 n 52) sizes.header ∙ held.header_size in
    let program_size : unless ((h.e_phnum == 0) || (h.e_phentsize == 32)) (WrongKind 9 h.e_phentsize) ≡ None = unless_true _ _ ((λ i. (h.e_phnum == 0) || (program i == 32)) ∙ programs.sizes) in
    let section_size : unless ((h.e_shnum == 0) || (h.e_shentsize == 40)) (WrongKind 10 h.e_shentsize) ≡ None = (λ i. unless ((sections i == 0) || (section i == 40)) (WrongKind 10 (section i))) ∙ held.section_size in
    let program_count : unless (nat_le h.e_phnum 64) (OverLimit 2 h.e_phnum) ≡ None = unless_true _ _ programs.count in
    let section_count : unless (nat_le h.e_shnum 4096) (OverLimit 3 h.e_shnum) ≡ None = (λ i. unless (nat_le (sections i) 4096) (OverLimit 3 (sections i))) ∙ held.sections in
    λ i. machine i or_else flagged i or_else (header_size i or_else program_size i or_else section_size i) or_else (program_count i or_else section_count i)

pub header_kept : (file : List ℕ) (ps : List Patch) (new : Option NewSegment) (ms : List SymbolMove) → first_fault file ≡ None → IsWritable (view_in file) ps new ms → HasWordEntry new → header_fault (written (view_in file) ps new ms) ≡ length_fault (written (view_in file) ps new ms)
header_kept file ps new ms none is entry =
    let out = written (view_in file) ps new ms in
    let held = header_held file none in
    let fields = keeps_fields file ps new ms none is in
    let inside = header_inside file none in
    let grows = length_grows file ps new ms in
    let long : unless (nat_le 52 (length out)) (TooShort 52 (length out)) ≡ None = unless_true _ _ (grind (arith, nat_tests, inside, grows)) in
    let magic : magic_fault out ≡ None = magic_kept file out fields ∙ held.magic in
    let identification : identification_fault out ≡ None = identification_kept file out fields ∙ held.identification in
    let rest = fields_kept file ps new ms none is entry in
    (λ i. (length_fault out or_else long i) or_else magic i or_else identification i or_else rest i)
    ∙ (or_none (length_fault out or_else None) None refl ∙ or_none (length_fault out) None refl)
