-- The relocations of a written file fail no check.
use Rattle.std.proofs.Common.{◌≡◌, ◌∙◌, ℕ, zero, suc, ◌+◌, ◌<◌, ◌≤◌, nat_lt, nat_le, Bool, true, false, not, ◌&&◌, List, Option, Some, None, refl, ap, arith, if◌then◌else◌}
use Rattle.std.proofs.lemmas.Bool.{ltb-true}
use Rattle.list_checks.specs.First.{◌or_else◌, unless, first_below}
use Rattle.list_checks.proofs.FirstLemmas.{both_none, none_at, holds, none_below}
use Rattle.elf_reader.specs.Layout.{section_count, section_header}
use Rattle.elf_reader.specs.Sections.{is_allocated, is_rel, is_relocation_section, names_section, symbol_table, count_in_table, symbol_count, symbol_count_of, relocation_count_at, relocation_count_below, relocation_count}
use Rattle.elf_reader.specs.File.{view_in}
use Rattle.elf_reader.specs.Faults.{first_fault}
use Rattle.elf_reader.specs.HeaderChecks.{capped, header_fault}
use Rattle.elf_reader.specs.ProgramHeaderChecks.{program_headers_fault}
use Rattle.elf_reader.specs.SectionChecks.{sections_fault}
use Rattle.elf_reader.specs.SymbolChecks.{symbols_fault}
use Rattle.elf_reader.specs.SymbolTables.{HasReadable}
use Rattle.elf_reader.specs.RelocationChecks.{rel_fault, rels_fault, rela_table_fault_of, rela_table_fault, rela_section_fault, rela_fault, relas_fault, relocation_limit_fault, relocation_fault_of, relocation_fault, section_relocations_fault, relocation_entries_fault, relocations_fault}
use Rattle.elf_reader.specs.declared.fault.ElfFault.TheVariants.{WrongKind, BadIndex, OverLimit}
use Rattle.elf_writer.specs.declared.parts.Patch.{Patch}
use Rattle.elf_writer.specs.declared.parts.SymbolMove.{SymbolMove}
use Rattle.elf_writer.specs.Parts.{NewSegment}
use Rattle.elf_writer.specs.Written.{written}
use Rattle.elf_writer.specs.Conditions.{IsWritable}
use Rattle.elf_writer.proofs.FitLemmas.{readable_held}
use Rattle.elf_writer.proofs.SectionsRead.{section_header_is, named_stays}
use Rattle.elf_writer.proofs.SymbolsRead.{table_stays}
use Rattle.elf_writer.proofs.RelocationsRead.{count_is, read_is, record_stays}

-- what the checks of the file have found
record RelocationsHeld (file : List ℕ) : Type 0 where
  rels : rels_fault file ≡ None
  relas : relas_fault file ≡ None
  limit : relocation_limit_fault file ≡ None
  entries : relocation_entries_fault file ≡ None

relocations_held : (file : List ℕ) → first_fault file ≡ None → RelocationsHeld file
relocations_held file none =
    let after_header = (both_none (header_fault file) _ none).1 in
    let after_segments = (both_none (program_headers_fault file) _ after_header).1 in
    let after_sections = (both_none (sections_fault file) _ after_segments).1 in
    let relocations = (both_none (symbols_fault file) _ after_sections).1 in
    let rels = both_none (rels_fault file) _ relocations in
    let relas = both_none (relas_fault file) _ rels.1 in
    let limit = both_none (relocation_limit_fault file) _ relas.1 in
    record { rels = rels.0; relas = relas.0; limit = limit.0; entries = limit.1 }

-- ---- the relocation sections

rel_same : (file : List ℕ) (ps : List Patch) (new : Option NewSegment) (ms : List SymbolMove) (k : ℕ) → first_fault file ≡ None → IsWritable (view_in file) ps new ms → k < section_count file → rel_fault (written (view_in file) ps new ms) k ≡ rel_fault file k
rel_same file ps new ms k none is below =
    let out = written (view_in file) ps new ms in
    let s = section_header file k in
    let same = section_header_is file ps new ms k none is below in
    let named = named_stays file ps new ms is_allocated s.sh_info none is in
    (λ i. unless (not (is_rel (same i) && names_section out is_allocated (same i).sh_info)) (WrongKind 14 9))
    ∙ (λ i. unless (not (is_rel s && named i)) (WrongKind 14 9))

-- the section that relocations change, where there is one
changed_same : (file : List ℕ) (ps : List Patch) (new : Option NewSegment) (ms : List SymbolMove) (k : ℕ) → first_fault file ≡ None → IsWritable (view_in file) ps new ms → k < section_count file
    → unless (nat_lt (section_header file k).sh_info (section_count file)) (BadIndex 7 k) ≡ None
    → section_header (written (view_in file) ps new ms) (section_header file k).sh_info ≡ section_header file (section_header file k).sh_info
changed_same file ps new ms k none is below held =
    let inside = ltb-true (section_header file k).sh_info (section_count file) (holds _ _ held) in
    section_header_is file ps new ms (section_header file k).sh_info none is inside

table_fault_same : (file : List ℕ) (ps : List Patch) (new : Option NewSegment) (ms : List SymbolMove) (k : ℕ) → first_fault file ≡ None → IsWritable (view_in file) ps new ms → k < section_count file → rela_table_fault (written (view_in file) ps new ms) k ≡ rela_table_fault file k
table_fault_same file ps new ms k none is below =
    let table = table_stays file ps new ms none is in
    let same = section_header_is file ps new ms k none is below in
    λ i. rela_table_fault_of (table i) k (same i)

section_kept : (file : List ℕ) (ps : List Patch) (new : Option NewSegment) (ms : List SymbolMove) (k : ℕ) → first_fault file ≡ None → IsWritable (view_in file) ps new ms → k < section_count file → rela_section_fault file k ≡ None → rela_section_fault (written (view_in file) ps new ms) k ≡ None
section_kept file ps new ms k none is below held =
    let out = written (view_in file) ps new ms in
    let same = section_header_is file ps new ms k none is below in
    let count = count_is file ps new ms none is in
    let parts = both_none (unless (nat_lt (section_header file k).sh_info (section_count file)) (BadIndex 7 k)) _ held in
    let there : section_header out (section_header out k).sh_info ≡ section_header file (section_header file k).sh_info =
    (λ i. section_header out (same i).sh_info) ∙ changed_same file ps new ms k none is below parts.0
    in
    let table = table_fault_same file ps new ms k none is below in
    (λ i. unless (nat_lt (same i).sh_info (count i)) (BadIndex 7 k) or_else (if is_allocated (there i) then table i else None)) ∙ held

-- a check that is made where a test passes
where_made : (test : Bool) {E : Type 0} (old new : Option E) → (old ≡ None → new ≡ None) → (if test then old else None) ≡ None → (if test then new else None) ≡ None
where_made true old new on held = on held
where_made false old new on held = refl

rela_kept : (file : List ℕ) (ps : List Patch) (new : Option NewSegment) (ms : List SymbolMove) (k : ℕ) → first_fault file ≡ None → IsWritable (view_in file) ps new ms → k < section_count file → rela_fault file k ≡ None → rela_fault (written (view_in file) ps new ms) k ≡ None
rela_kept file ps new ms k none is below held =
    let out = written (view_in file) ps new ms in
    let same = section_header_is file ps new ms k none is below in
    (λ i. if is_relocation_section (same i) then rela_section_fault out k else None)
    ∙ where_made (is_relocation_section (section_header file k)) (rela_section_fault file k) (rela_section_fault out k) (section_kept file ps new ms k none is below) held

-- ---- each relocation

counts_same : (file : List ℕ) (ps : List Patch) (new : Option NewSegment) (ms : List SymbolMove) (n : ℕ) → first_fault file ≡ None → IsWritable (view_in file) ps new ms → n ≤ section_count file → relocation_count_below (written (view_in file) ps new ms) n ≡ relocation_count_below file n
counts_same file ps new ms zero none is le = refl
counts_same file ps new ms (suc n) none is le =
    let earlier = counts_same file ps new ms n none is (omega (arith, le)) in
    let here = read_is file ps new ms n none is (omega (arith, le)) in
    λ i. earlier i + here i

in_table_same : (file : List ℕ) (ps : List Patch) (new : Option NewSegment) (ms : List SymbolMove) (found : Option ℕ) → first_fault file ≡ None → IsWritable (view_in file) ps new ms → HasReadable file found → count_in_table (written (view_in file) ps new ms) found ≡ count_in_table file found
in_table_same file ps new ms None none is readable = refl
in_table_same file ps new ms (Some t) none is readable = ap symbol_count_of (section_header_is file ps new ms t none is readable.below)

symbol_count_same : (file : List ℕ) (ps : List Patch) (new : Option NewSegment) (ms : List SymbolMove) → first_fault file ≡ None → IsWritable (view_in file) ps new ms → symbol_count (written (view_in file) ps new ms) ≡ symbol_count file
symbol_count_same file ps new ms none is =
    ap (count_in_table (written (view_in file) ps new ms)) (table_stays file ps new ms none is)
    ∙ in_table_same file ps new ms (symbol_table file) none is (readable_held file none)

relocation_same : (file : List ℕ) (ps : List Patch) (new : Option NewSegment) (ms : List SymbolMove) (k i : ℕ) → first_fault file ≡ None → IsWritable (view_in file) ps new ms → k < section_count file → i < relocation_count_at file k → relocation_fault (written (view_in file) ps new ms) k i ≡ relocation_fault file k i
relocation_same file ps new ms k i none is below inside =
    let symbols = symbol_count_same file ps new ms none is in
    let before = counts_same file ps new ms k none is (omega (arith, below)) in
    let same = record_stays file ps new ms k i none is below inside in
    λ j. relocation_fault_of (symbols j) (before j + i) (same j)

entries_kept : (file : List ℕ) (ps : List Patch) (new : Option NewSegment) (ms : List SymbolMove) (k : ℕ) → first_fault file ≡ None → IsWritable (view_in file) ps new ms → k < section_count file → section_relocations_fault file k ≡ None → section_relocations_fault (written (view_in file) ps new ms) k ≡ None
entries_kept file ps new ms k none is below held =
    let out = written (view_in file) ps new ms in
    let n = relocation_count_at file k in
    ap (first_below (relocation_fault out k)) (read_is file ps new ms k none is below)
    ∙ none_below (relocation_fault out k) n (λ i inside. relocation_same file ps new ms k i none is below inside ∙ none_at (relocation_fault file k) n i inside held)

pub relocations_kept : (file : List ℕ) (ps : List Patch) (new : Option NewSegment) (ms : List SymbolMove) → first_fault file ≡ None → IsWritable (view_in file) ps new ms → relocations_fault (written (view_in file) ps new ms) ≡ None
relocations_kept file ps new ms none is =
    let out = written (view_in file) ps new ms in
    let n = section_count file in
    let count = count_is file ps new ms none is in
    let held = relocations_held file none in
    let rels : rels_fault out ≡ None =
    ap (first_below (rel_fault out)) count
    ∙ none_below (rel_fault out) n (λ k below. rel_same file ps new ms k none is below ∙ none_at (rel_fault file) n k below held.rels)
    in
    let relas : relas_fault out ≡ None =
    ap (first_below (rela_fault out)) count
    ∙ none_below (rela_fault out) n (λ k below. rela_kept file ps new ms k none is below (none_at (rela_fault file) n k below held.relas))
    in
    let number : relocation_count out ≡ relocation_count file = ap (relocation_count_below out) count ∙ counts_same file ps new ms n none is (omega arith) in
    let limit : relocation_limit_fault out ≡ None = (λ i. unless (nat_le (number i) 262144) (OverLimit 6 (capped (number i)))) ∙ held.limit in
    let entries : relocation_entries_fault out ≡ None =
    ap (first_below (section_relocations_fault out)) count
    ∙ none_below (section_relocations_fault out) n (λ k below. entries_kept file ps new ms k none is below (none_at (section_relocations_fault file) n k below held.entries))
    in
    λ i. rels i or_else relas i or_else limit i or_else entries i
