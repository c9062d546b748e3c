-- The sections of a file in which no check fails.
use Rattle.std.proofs.Common.{◌≡◌, ℕ, ◌<◌, ◌==◌, false, List, length, None, arith, if◌then◌else◌}
use Rattle.std.proofs.lemmas.Bool.Decides.{nat_tests}
use Rattle.std.proofs.lemmas.Bool.{leb-true}
use Rattle.elf_reader.specs.Layout.{section_count, section_header}
use Rattle.elf_reader.specs.Sections.{stands_in_file}
use Rattle.elf_reader.specs.SectionChecks.{header_place_fault, header_places_fault, table_start_fault, content_fault, section_place_fault, section_places_fault, section_headers_fault, names_table_fault, section_name_fault, section_names_fault, names_fault, sections_fault}
use Rattle.elf_reader.specs.HeaderChecks.{header_fault}
use Rattle.elf_reader.specs.ProgramHeaderChecks.{program_headers_fault}
use Rattle.elf_reader.specs.Faults.{first_fault}
use Rattle.elf_reader.specs.Placed.{HasSectionHeaders, HasContent, HasContents, HasNamesTable, HasSectionNames}
use Rattle.elf_reader.specs.declared.records.SectionHeader.{SectionHeader}
use Rattle.list_checks.proofs.FirstLemmas.{both_none, none_at, holds}

pub headers_held : (file : List ℕ) → header_places_fault file ≡ None → HasSectionHeaders file
headers_held file none k below =
    leb-true _ _ (holds _ _ (none_at (header_place_fault file) (section_count file) k below none))

pub content_held : (size k : ℕ) (s : SectionHeader) → (if stands_in_file s.sh_type then content_fault size k s else None) ≡ None → HasContent size s
content_held size k s none stands =
    leb-true _ _ (holds _ _ (both_none _ _ (rw stands at none)).0)

pub contents_held : (file : List ℕ) → section_places_fault file ≡ None → HasContents file
contents_held file none k below =
    content_held (length file) k (section_header file k) (none_at (section_place_fault file) (section_count file) k below none)

pub names_held : (file : List ℕ) → section_names_fault file ≡ None → HasSectionNames file
names_held file none k below =
    holds _ _ (none_at (section_name_fault file) (section_count file) k below none)

-- where no check fails, none of the sections' does
pub none_of_sections : (file : List ℕ) → first_fault file ≡ None → sections_fault file ≡ None
none_of_sections file none =
    let after_header = (both_none (header_fault file) _ none).1 in
    let after_segments = (both_none (program_headers_fault file) _ after_header).1 in
    (both_none (sections_fault file) _ after_segments).0

-- what holds where no check of the sections fails
pub none_of_section_headers : (file : List ℕ) → sections_fault file ≡ None → section_headers_fault file ≡ None
none_of_section_headers file none = (both_none (section_headers_fault file) (names_fault file) none).0

pub section_headers_held : (file : List ℕ) → sections_fault file ≡ None → HasSectionHeaders file
section_headers_held file none = headers_held file (both_none (header_places_fault file) _ (none_of_section_headers file none)).0

pub section_contents_held : (file : List ℕ) → sections_fault file ≡ None → HasContents file
section_contents_held file none =
    let after_table = (both_none (header_places_fault file) _ (none_of_section_headers file none)).1 in
    let after_start = (both_none (table_start_fault file) _ after_table).1 in
    contents_held file (both_none (section_places_fault file) _ after_start).0

-- the checks of the names, which are made where there are sections
pub none_of_section_names : (file : List ℕ) → sections_fault file ≡ None → 0 < section_count file → (names_table_fault file ≡ None) × (section_names_fault file ≡ None)
none_of_section_names file none some =
    let names = (both_none (section_headers_fault file) (names_fault file) none).1 in
    let any : (section_count file == 0) ≡ false = grind (arith, nat_tests) in
    both_none (names_table_fault file) (section_names_fault file) (rw any at names)

pub names_table_held : (file : List ℕ) → sections_fault file ≡ None → HasNamesTable file
names_table_held file none some = holds _ _ (none_of_section_names file none some).0
