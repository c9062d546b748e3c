-- What a section header says of its section (ELF, "Sections": sh_type and sh_flags).
use Rattle.std.specs.Prelude.{ℕ, zero, suc, ◌+◌, ◌/◌, ◌%◌, ◌^◌, ◌==◌, nat_lt, Bool, not, ◌&&◌, ◌||◌, if◌then◌else◌, List, [], slice_range, drop, Option, Some, None}
use Rattle.std.specs.List.{list_any, take_while}
use Rattle.list_checks.specs.First.{unless, first_below}
use Rattle.elf_reader.specs.Layout.{file_header, section_count, section_header}
use Rattle.elf_reader.specs.declared.records.SectionHeader.{SectionHeader}

-- a bit of a word
abbrev pub bit_of : ℕ → ℕ → Bool
bit_of word bit = word / 2 ^ bit % 2 == 1

-- the section has memory when the program runs (SHF_ALLOC, bit 1)
abbrev pub is_allocated : SectionHeader → Bool
is_allocated s = bit_of s.sh_flags 1

-- the section's content is compressed (SHF_COMPRESSED, bit 11)
abbrev pub is_compressed : SectionHeader → Bool
is_compressed s = bit_of s.sh_flags 11

-- a type of section whose content stands in the file: neither SHT_NULL (0) nor SHT_NOBITS (8)
abbrev pub stands_in_file : ℕ → Bool
stands_in_file kind = not ((kind == 0) || (kind == 8))

-- a section of this kind of contents: SHT_SYMTAB (2), SHT_STRTAB (3), SHT_RELA (4), SHT_REL (9)
abbrev pub is_symbol_table : SectionHeader → Bool
is_symbol_table s = s.sh_type == 2

abbrev pub is_string_table : SectionHeader → Bool
is_string_table s = s.sh_type == 3

abbrev pub is_rela : SectionHeader → Bool
is_rela s = s.sh_type == 4

abbrev pub is_rel : SectionHeader → Bool
is_rel s = s.sh_type == 9

-- the content of a section, as it stands in the file
abbrev pub content_of : List ℕ → SectionHeader → List ℕ
content_of file s = if stands_in_file s.sh_type then slice_range file s.sh_offset (s.sh_offset + s.sh_size) else []

-- the content of the section of section header `k`
abbrev pub section_content : List ℕ → ℕ → List ℕ
section_content file k = content_of file (section_header file k)

-- a number is that of a section header for which the test holds
abbrev pub names_section : List ℕ → (SectionHeader → Bool) → ℕ → Bool
names_section file test k = nat_lt k (section_count file) && test (section_header file k)

-- the name that begins at byte `start` of a string table: the bytes before the next zero byte
-- (ELF, "String Table")
abbrev pub is_zero : ℕ → Bool
is_zero byte = byte == 0

abbrev pub name_in : List ℕ → ℕ → List ℕ
name_in table start = take_while (λ byte. not (is_zero byte)) (drop start table)

-- a name begins at byte `start` of a string table, and a zero byte of the table ends it
abbrev pub has_name : List ℕ → ℕ → Bool
has_name table start = list_any is_zero (drop start table)

-- the string table of the sections' names (e_shstrndx)
abbrev pub section_names : List ℕ → List ℕ
section_names file = section_content file (file_header file).e_shstrndx

-- section header `k` is of a symbol table
abbrev pub is_table_at : List ℕ → ℕ → Bool
is_table_at file k = is_symbol_table (section_header file k)

-- its number, if it is
abbrev pub table_at : List ℕ → ℕ → Option ℕ
table_at file k = unless (not (is_table_at file k)) k

-- the lowest of the first n section headers that is of a symbol table, if one is
abbrev pub symbol_table_below : List ℕ → ℕ → Option ℕ
symbol_table_below file n = first_below (table_at file) n

-- the section header of the symbol table
abbrev pub symbol_table : List ℕ → Option ℕ
symbol_table file = symbol_table_below file (section_count file)

-- a whole number of entries of `size` bytes
abbrev pub has_entries : ℕ → SectionHeader → Bool
has_entries size s = (s.sh_entsize == size) && (s.sh_size % size == 0)

-- how many symbols a symbol table has, the null symbol among them
abbrev pub symbol_count_of : SectionHeader → ℕ
symbol_count_of s = s.sh_size / 16

-- how many symbols the file has; none without a symbol table
abbrev pub count_in_table : List ℕ → Option ℕ → ℕ
count_in_table file None = 0
count_in_table file (Some table) = symbol_count_of (section_header file table)

abbrev pub symbol_count : List ℕ → ℕ
symbol_count file = count_in_table file (symbol_table file)

-- the string table of the symbols' names (sh_link of the symbol table of section header `table`)
abbrev pub symbol_names : List ℕ → ℕ → List ℕ
symbol_names file table = section_content file (section_header file table).sh_link

-- a relocation section that is not loaded itself
abbrev pub is_relocation_section : SectionHeader → Bool
is_relocation_section s = is_rela s && not (is_allocated s)

-- the relocations of section header `k` are read: they change an allocated section (sh_info)
abbrev pub is_read : List ℕ → ℕ → Bool
is_read file k =
    is_relocation_section (section_header file k)
    && names_section file is_allocated (section_header file k).sh_info

-- how many relocations of section header `k` are read
abbrev pub relocation_count_at : List ℕ → ℕ → ℕ
relocation_count_at file k = if is_read file k then (section_header file k).sh_size / 12 else 0

-- how many relocations of the first n section headers are read
abbrev pub relocation_count_below : List ℕ → ℕ → ℕ
relocation_count_below file zero = 0
relocation_count_below file (suc k) = relocation_count_below file k + relocation_count_at file k

-- how many relocations are read
abbrev pub relocation_count : List ℕ → ℕ
relocation_count file = relocation_count_below file (section_count file)

-- r_info has a symbol number in its upper 24 bits and a kind in its lowest byte (ELF32_R_SYM,
-- ELF32_R_TYPE)
abbrev pub symbol_of_info : ℕ → ℕ
symbol_of_info info = info / 256

abbrev pub kind_of_info : ℕ → ℕ
kind_of_info info = info % 256
