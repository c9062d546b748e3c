-- The checks of the symbol table, each with the fault that it tells, and their order.
use Rattle.std.specs.Prelude.{ℕ, ◌*◌, ◌==◌, nat_lt, nat_le, Bool, not, ◌&&◌, ◌||◌, List, Option, Some, None}
use Rattle.list_checks.specs.First.{◌or_else◌, unless, first_below}
use Rattle.list_checks.specs.Tests.{any_below, ranges_overlap}
use Rattle.elf_reader.specs.Layout.{file_header, section_count, section_header, symbol_record}
use Rattle.elf_reader.specs.Sections.{is_table_at, is_string_table, stands_in_file, names_section, has_name, has_entries, symbol_table, symbol_count_of, symbol_names}
use Rattle.elf_reader.specs.declared.fault.ElfFault.{ElfFault}
use Rattle.elf_reader.specs.declared.fault.ElfFault.TheVariants.{WrongKind, BadIndex, OverLimit}
use Rattle.elf_reader.specs.declared.records.SectionHeader.{SectionHeader}
use Rattle.elf_reader.specs.declared.records.SymbolRecord.{SymbolRecord}

-- section header `k` is not of a second symbol table
abbrev pub second_table_fault : List ℕ → ℕ → Option ElfFault
second_table_fault file k =
    unless (not (is_table_at file k && any_below (is_table_at file) k)) (WrongKind 15 k)

abbrev pub one_table_fault : List ℕ → Option ElfFault
one_table_fault file = first_below (second_table_fault file) (section_count file)

-- a table, of section header `table`, has entries of 16 bytes
abbrev pub symbol_size_fault : SectionHeader → Option ElfFault
symbol_size_fault s = unless (has_entries 16 s) (WrongKind 16 s.sh_entsize)

-- section `k` is another one, whose content in the file meets that of section `table`
abbrev pub shares_bytes : List ℕ → ℕ → ℕ → Bool
shares_bytes file table k =
    not (k == table)
    && stands_in_file (section_header file k).sh_type
    && ranges_overlap (section_header file table).sh_offset (section_header file table).sh_size (section_header file k).sh_offset (section_header file k).sh_size

-- the content of section `table` meets the table of section headers
abbrev pub overlaps_section_headers : List ℕ → SectionHeader → Bool
overlaps_section_headers file s = ranges_overlap s.sh_offset s.sh_size (file_header file).e_shoff (40 * section_count file)

-- the symbol table meets no section header and no content of another section: so its entries can be
-- changed without changing what else is read
abbrev pub shared_table_fault : List ℕ → ℕ → Option ElfFault
shared_table_fault file table =
    unless (not (overlaps_section_headers file (section_header file table) || any_below (shares_bytes file table) (section_count file))) (WrongKind 21 table)

-- its names stand in a string table (sh_link)
abbrev pub symbol_strings_fault : List ℕ → ℕ → Option ElfFault
symbol_strings_fault file table =
    unless (names_section file is_string_table (section_header file table).sh_link) (BadIndex 4 (section_header file table).sh_link)

-- at most 65,536 symbols
abbrev pub symbol_limit_fault : SectionHeader → Option ElfFault
symbol_limit_fault s = unless (nat_le (symbol_count_of s) 65536) (OverLimit 5 (symbol_count_of s))

-- the section number of a symbol is that of a section, or one of the reserved ones (SHN_LORESERVE and
-- above: ELF, "Special Section Indexes")
abbrev pub has_section : ℕ → SymbolRecord → Bool
has_section count s = nat_lt s.st_shndx count || nat_le 65280 s.st_shndx

-- symbol `i` has a name in the string table and a section
abbrev pub symbol_fault : List ℕ → ℕ → ℕ → Option ElfFault
symbol_fault file table i =
    unless (has_name (symbol_names file table) (symbol_record file table i).st_name && has_section (section_count file) (symbol_record file table i)) (BadIndex 6 i)

-- each symbol
abbrev pub symbol_entries_fault : List ℕ → ℕ → Option ElfFault
symbol_entries_fault file table = first_below (symbol_fault file table) (symbol_count_of (section_header file table))

-- the table of section header `table`, and then each symbol
abbrev pub symbol_table_fault : List ℕ → ℕ → Option ElfFault
symbol_table_fault file table =
    symbol_size_fault (section_header file table)
    or_else shared_table_fault file table
    or_else symbol_strings_fault file table
    or_else symbol_limit_fault (section_header file table)
    or_else symbol_entries_fault file table

-- the symbol table, if there is one
abbrev pub found_table_fault : List ℕ → Option ℕ → Option ElfFault
found_table_fault file None = None
found_table_fault file (Some table) = symbol_table_fault file table

-- the symbols
abbrev pub symbols_fault : List ℕ → Option ElfFault
symbols_fault file = one_table_fault file or_else found_table_fault file (symbol_table file)
