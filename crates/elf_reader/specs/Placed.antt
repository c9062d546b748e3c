-- What holds of the sections of a file in which no check fails.
use Rattle.std.specs.Prelude.{◌≡◌, ℕ, ◌+◌, ◌<◌, ◌≤◌, IsTrue, List, length}
use Rattle.elf_reader.specs.Layout.{file_header, section_count, section_header_at, section_header, symbol_at, relocation_at}
use Rattle.elf_reader.specs.Sections.{stands_in_file, is_string_table, names_section, has_name, section_names, symbol_count_of, relocation_count_at}
use Rattle.elf_reader.specs.declared.records.FileHeader.{FileHeader}
use Rattle.elf_reader.specs.declared.records.SectionHeader.{SectionHeader}

-- the table of section headers lies inside the file
abbrev pub HasSectionHeaders : List ℕ → Type 0
HasSectionHeaders file = (k : ℕ) → k < section_count file → section_header_at file k + 40 ≤ length file

-- and `h` is the ELF header
abbrev pub HasSectionTable : List ℕ → FileHeader → Type 0
HasSectionTable file h = (h ≡ file_header file) × HasSectionHeaders file

-- a section's content, where it stands in the file, lies inside a file of `size` bytes
abbrev pub HasContent : ℕ → SectionHeader → Type 0
HasContent size s = IsTrue (stands_in_file s.sh_type) → s.sh_offset + s.sh_size ≤ size

-- so does that of each section
abbrev pub HasContents : List ℕ → Type 0
HasContents file = (k : ℕ) → k < section_count file → HasContent (length file) (section_header file k)

-- where there are sections, their names stand in a string table
abbrev pub HasNamesTable : List ℕ → Type 0
HasNamesTable file = 0 < section_count file → IsTrue (names_section file is_string_table (file_header file).e_shstrndx)

-- each section has a name there
abbrev pub HasSectionNames : List ℕ → Type 0
HasSectionNames file =
    (k : ℕ) → k < section_count file → IsTrue (has_name (section_names file) (section_header file k).sh_name)

-- the symbols of the table of section header `table` lie inside the file
abbrev pub HasSymbols : List ℕ → ℕ → Type 0
HasSymbols file table = (i : ℕ) → i < symbol_count_of (section_header file table) → symbol_at file table i + 16 ≤ length file

-- the relocations of section header `k` that are read lie inside the file
abbrev pub HasRelocations : List ℕ → ℕ → Type 0
HasRelocations file k = (i : ℕ) → i < relocation_count_at file k → relocation_at file k i + 12 ≤ length file
