-- The checks of the section headers and of the sections' names, each with the fault that it tells, and
-- their order.
use Rattle.std.specs.Prelude.{ℕ, ◌+◌, ◌*◌, ◌==◌, nat_lt, nat_le, Bool, not, ◌&&◌, ◌||◌, if◌then◌else◌, List, length, Option, None}
use Rattle.list_checks.specs.First.{◌or_else◌, unless, first_below}
use Rattle.list_checks.specs.Tests.{ranges_overlap}
use Rattle.elf_reader.specs.Layout.{file_header, section_count, section_header_at, section_header}
use Rattle.elf_reader.specs.Sections.{is_allocated, is_compressed, stands_in_file, is_string_table, is_rel, is_rela, names_section, has_name, section_names}
use Rattle.elf_reader.specs.declared.fault.ElfFault.{ElfFault}
use Rattle.elf_reader.specs.declared.fault.ElfFault.TheVariants.{WrongKind, OutOfFile, BadIndex, Compressed}
use Rattle.elf_reader.specs.declared.records.SectionHeader.{SectionHeader}

-- section header `k` lies inside the file
abbrev pub header_place_fault : List ℕ → ℕ → Option ElfFault
header_place_fault file k = unless (nat_le (section_header_at file k + 40) (length file)) (OutOfFile 3 k)

-- the whole table does
abbrev pub header_places_fault : List ℕ → Option ElfFault
header_places_fault file = first_below (header_place_fault file) (section_count file)

-- the bytes of a range meet the ELF header
abbrev pub overlaps_file_header : ℕ → ℕ → Bool
overlaps_file_header offset size = ranges_overlap offset size 0 52

-- the table does not meet the ELF header
abbrev pub table_start_fault : List ℕ → Option ElfFault
table_start_fault file =
    unless (not (overlaps_file_header (file_header file).e_shoff (40 * section_count file))) (WrongKind 20 0)

-- the content of a section, of section header `k` in a file of `size` bytes, lies inside the file
-- and does not meet the ELF header
abbrev pub content_fault : ℕ → ℕ → SectionHeader → Option ElfFault
content_fault size k s =
    unless (nat_le (s.sh_offset + s.sh_size) size) (OutOfFile 4 k)
    or_else unless (not (overlaps_file_header s.sh_offset s.sh_size)) (WrongKind 20 k)

-- the section of section header `k`, if its content stands in the file
abbrev pub section_place_fault : List ℕ → ℕ → Option ElfFault
section_place_fault file k =
    if stands_in_file (section_header file k).sh_type
    then content_fault (length file) k (section_header file k) else None

-- each section
abbrev pub section_places_fault : List ℕ → Option ElfFault
section_places_fault file = first_below (section_place_fault file) (section_count file)

-- no section with memory is compressed
abbrev pub compressed_fault_of : ℕ → SectionHeader → Option ElfFault
compressed_fault_of k s = unless (not (is_allocated s && is_compressed s)) (Compressed k)

abbrev pub compressed_fault : List ℕ → ℕ → Option ElfFault
compressed_fault file k = compressed_fault_of k (section_header file k)

abbrev pub compressed_sections_fault : List ℕ → Option ElfFault
compressed_sections_fault file = first_below (compressed_fault file) (section_count file)

-- no section with memory holds relocations: none without addends (SHT_REL), and of those with addends
-- (SHT_RELA) only an empty one, as linkers leave it in static programs
abbrev pub loaded_relocations_fault_of : SectionHeader → Option ElfFault
loaded_relocations_fault_of s =
    unless (not (is_allocated s && (is_rel s || is_rela s && nat_lt 0 s.sh_size))) (WrongKind 14 s.sh_type)

abbrev pub loaded_relocations_fault : List ℕ → ℕ → Option ElfFault
loaded_relocations_fault file k = loaded_relocations_fault_of (section_header file k)

abbrev pub section_kinds_fault : List ℕ → Option ElfFault
section_kinds_fault file = first_below (loaded_relocations_fault file) (section_count file)

-- the places, and then what the section headers say
abbrev pub section_headers_fault : List ℕ → Option ElfFault
section_headers_fault file =
    header_places_fault file
    or_else table_start_fault file
    or_else section_places_fault file
    or_else compressed_sections_fault file
    or_else section_kinds_fault file

-- there is a string table of the sections' names (e_shstrndx)
abbrev pub names_table_fault : List ℕ → Option ElfFault
names_table_fault file =
    unless (names_section file is_string_table (file_header file).e_shstrndx) (BadIndex 3 (file_header file).e_shstrndx)

-- the name of section header `k` begins in it, and ends there
abbrev pub section_name_fault : List ℕ → ℕ → Option ElfFault
section_name_fault file k =
    unless (has_name (section_names file) (section_header file k).sh_name) (BadIndex 5 k)

-- each name
abbrev pub section_names_fault : List ℕ → Option ElfFault
section_names_fault file = first_below (section_name_fault file) (section_count file)

-- the sections' names, where there are sections
abbrev pub names_fault : List ℕ → Option ElfFault
names_fault file =
    if section_count file == 0 then None else (names_table_fault file or_else section_names_fault file)

-- the section headers and the names
abbrev pub sections_fault : List ℕ → Option ElfFault
sections_fault file = section_headers_fault file or_else names_fault file
