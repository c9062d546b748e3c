-- The section headers of a written file, and the sections' names, fail no check.
use Rattle.std.proofs.Common.{◌≡◌, ◌∙◌, inl, inr, ℕ, ◌+◌, ◌*◌, ◌<◌, ◌≤◌, ◌==◌, nat_le, not, List, length, Option, None, refl, ap, arith, if◌then◌else◌}
use Rattle.std.proofs.lemmas.Bool.{cases_Bool}
use Rattle.std.proofs.lemmas.Bool.Decides.{nat_tests}
use Rattle.list_checks.specs.First.{◌or_else◌, unless, first_below}
use Rattle.list_checks.proofs.FirstLemmas.{both_none, none_at, none_below, none_or, unless_true, passes_on}
use Rattle.elf_reader.specs.Layout.{file_header, section_count, section_header}
use Rattle.elf_reader.specs.Sections.{stands_in_file, is_string_table, names_section, has_name}
use Rattle.elf_reader.specs.File.{view_in}
use Rattle.elf_reader.specs.Faults.{first_fault}
use Rattle.elf_reader.specs.SectionChecks.{header_place_fault, header_places_fault, overlaps_file_header, table_start_fault, content_fault, section_place_fault, section_places_fault, compressed_fault_of, compressed_fault, compressed_sections_fault, loaded_relocations_fault_of, loaded_relocations_fault, section_kinds_fault, section_headers_fault, names_table_fault, section_name_fault, section_names_fault, names_fault, sections_fault}
use Rattle.elf_reader.specs.declared.fault.ElfFault.TheVariants.{WrongKind, BadIndex}
use Rattle.elf_reader.proofs.SectionLemmas.{none_of_sections, none_of_section_headers, section_headers_held, none_of_section_names}
use Rattle.elf_writer.specs.declared.parts.Patch.{Patch}
use Rattle.elf_writer.specs.declared.parts.SymbolMove.{SymbolMove}
use Rattle.elf_writer.specs.Parts.{NewSegment}
use Rattle.elf_writer.specs.Written.{written}
use Rattle.elf_writer.specs.Conditions.{IsWritable}
use Rattle.elf_writer.proofs.HeaderRead.{keeps_header}
use Rattle.elf_writer.proofs.HeaderFaults.{length_grows}
use Rattle.elf_writer.proofs.SectionsRead.{section_header_is, named_stays, names_stay}

-- what the checks of the file have found
record SectionsHeld (file : List ℕ) : Type 0 where
  start : table_start_fault file ≡ None
  places : section_places_fault file ≡ None
  compressed : compressed_sections_fault file ≡ None
  kinds : section_kinds_fault file ≡ None

sections_held : (file : List ℕ) → first_fault file ≡ None → SectionsHeld file
sections_held file none =
    let headers = none_of_section_headers file (none_of_sections file none) in
    let start = both_none (table_start_fault file) _ (both_none (header_places_fault file) _ headers).1 in
    let places = both_none (section_places_fault file) _ start.1 in
    let compressed = both_none (compressed_sections_fault file) _ places.1 in
    record { start = start.0; places = places.0; compressed = compressed.0; kinds = compressed.1 }

-- ---- the section headers

place_kept : (file : List ℕ) (ps : List Patch) (new : Option NewSegment) (ms : List SymbolMove) (k : ℕ) → first_fault file ≡ None → IsWritable (view_in file) ps new ms → k < section_count file → header_place_fault (written (view_in file) ps new ms) k ≡ None
place_kept file ps new ms k none is below =
    let at = (keeps_header file ps new ms none is).sections_at in
    let inside = section_headers_held file (none_of_sections file none) k below in
    let grows = length_grows file ps new ms in
    unless_true _ _ (grind (arith, nat_tests, at, inside, grows))

more_content : (size more k : ℕ) (s : _) → size ≤ more → (if stands_in_file s.sh_type then content_fault size k s else None) ≡ None → (if stands_in_file s.sh_type then content_fault more k s else None) ≡ None
more_content size more k s le none =
    elim (cases_Bool (stands_in_file s.sh_type)) [
      | inl stands ↦
          let parts = both_none _ _ (rw stands at none) in
          rw stands
          (none_or _ _ (passes_on (nat_le (s.sh_offset + s.sh_size) size) (nat_le (s.sh_offset + s.sh_size) more) _ _ (λ inside. grind (arith, nat_tests, inside, le)) parts.0) parts.1)
      | inr absent ↦ rw absent refl
    ]

content_kept : (file : List ℕ) (ps : List Patch) (new : Option NewSegment) (ms : List SymbolMove) (k : ℕ) → first_fault file ≡ None → IsWritable (view_in file) ps new ms → k < section_count file → section_place_fault (written (view_in file) ps new ms) k ≡ None
content_kept file ps new ms k none is below =
    let out = written (view_in file) ps new ms in
    let same = section_header_is file ps new ms k none is below in
    (λ i. if stands_in_file (same i).sh_type then content_fault (length out) k (same i) else None)
    ∙ more_content (length file) (length out) k (section_header file k) (length_grows file ps new ms) (none_at (section_place_fault file) (section_count file) k below (sections_held file none).places)

headers_kept : (file : List ℕ) (ps : List Patch) (new : Option NewSegment) (ms : List SymbolMove) → first_fault file ≡ None → IsWritable (view_in file) ps new ms → section_headers_fault (written (view_in file) ps new ms) ≡ None
headers_kept file ps new ms none is =
    let out = written (view_in file) ps new ms in
    let n = section_count file in
    let header = keeps_header file ps new ms none is in
    let at = header.sections_at in
    let count = header.sections in
    let held = sections_held file none in
    let same : (k : ℕ) → k < n → section_header out k ≡ section_header file k = λ k below. section_header_is file ps new ms k none is below in
    let places : header_places_fault out ≡ None = ap (first_below (header_place_fault out)) count ∙ none_below (header_place_fault out) n (λ k below. place_kept file ps new ms k none is below) in
    let start : table_start_fault out ≡ None = (λ i. unless (not (overlaps_file_header (at i) (40 * count i))) (WrongKind 20 0)) ∙ held.start in
    let contents : section_places_fault out ≡ None = ap (first_below (section_place_fault out)) count ∙ none_below (section_place_fault out) n (λ k below. content_kept file ps new ms k none is below) in
    let compressed : compressed_sections_fault out ≡ None =
    ap (first_below (compressed_fault out)) count
    ∙ none_below (compressed_fault out) n (λ k below. ap (compressed_fault_of k) (same k below) ∙ none_at (compressed_fault file) n k below held.compressed)
    in
    let kinds : section_kinds_fault out ≡ None =
    ap (first_below (loaded_relocations_fault out)) count
    ∙ none_below (loaded_relocations_fault out) n (λ k below. ap loaded_relocations_fault_of (same k below) ∙ none_at (loaded_relocations_fault file) n k below held.kinds)
    in
    λ i. places i or_else start i or_else contents i or_else compressed i or_else kinds i

-- ---- the names

name_kept : (file : List ℕ) (ps : List Patch) (new : Option NewSegment) (ms : List SymbolMove) (k : ℕ) → first_fault file ≡ None → IsWritable (view_in file) ps new ms → k < section_count file → section_name_fault (written (view_in file) ps new ms) k ≡ section_name_fault file k
name_kept file ps new ms k none is below =
    let names = names_stay file ps new ms k none is below in
    let same = section_header_is file ps new ms k none is below in
    λ i. unless (has_name (names i) (same i).sh_name) (BadIndex 5 k)

some_names : (file : List ℕ) (ps : List Patch) (new : Option NewSegment) (ms : List SymbolMove) → first_fault file ≡ None → IsWritable (view_in file) ps new ms → 0 < section_count file → (names_table_fault (written (view_in file) ps new ms) or_else section_names_fault (written (view_in file) ps new ms)) ≡ None
some_names file ps new ms none is some =
    let out = written (view_in file) ps new ms in
    let n = section_count file in
    let header = keeps_header file ps new ms none is in
    let number = header.names in
    let held = none_of_section_names file (none_of_sections file none) some in
    let named = named_stays file ps new ms is_string_table (file_header file).e_shstrndx none is in
    let there = ap (λ k. unless (names_section out is_string_table k) (BadIndex 3 k)) number in
    let table : names_table_fault out ≡ None = there ∙ ((λ i. unless (named i) (BadIndex 3 (file_header file).e_shstrndx)) ∙ held.0) in
    let names : section_names_fault out ≡ None =
    ap (first_below (section_name_fault out)) header.sections
    ∙ none_below (section_name_fault out) n (λ k below. name_kept file ps new ms k none is below ∙ none_at (section_name_fault file) n k below held.1)
    in
    λ i. table i or_else names i

names_kept : (file : List ℕ) (ps : List Patch) (new : Option NewSegment) (ms : List SymbolMove) → first_fault file ≡ None → IsWritable (view_in file) ps new ms → names_fault (written (view_in file) ps new ms) ≡ None
names_kept file ps new ms none is =
    let out = written (view_in file) ps new ms in
    let count = (keeps_header file ps new ms none is).sections in
    (λ i. if count i == 0 then None else (names_table_fault out or_else section_names_fault out))
    ∙ elim (cases_Bool (section_count file == 0)) [
      | inl empty ↦ rw empty refl
      | inr some ↦ rw some (some_names file ps new ms none is (grind (arith, nat_tests, some)))
    ]

pub sections_kept : (file : List ℕ) (ps : List Patch) (new : Option NewSegment) (ms : List SymbolMove) → first_fault file ≡ None → IsWritable (view_in file) ps new ms → sections_fault (written (view_in file) ps new ms) ≡ None
sections_kept file ps new ms none is =
    none_or _ _ (headers_kept file ps new ms none is) (names_kept file ps new ms none is)
