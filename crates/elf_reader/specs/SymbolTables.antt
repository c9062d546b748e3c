-- What holds of the symbol table of a file in which no check fails.
use Rattle.std.specs.Prelude.{ℕ, ◌<◌, IsTrue, List, Option, Some, None}
use Rattle.elf_reader.specs.Layout.{section_count, section_header, symbol_record}
use Rattle.elf_reader.specs.Sections.{is_string_table, names_section, has_name, symbol_count_of, symbol_names}
use Rattle.elf_reader.specs.Placed.{HasSymbols}

-- each symbol of the table of section header `table` has a name
abbrev pub HasSymbolNames : List ℕ → ℕ → Type 0
HasSymbolNames file table =
    (i : ℕ) → i < symbol_count_of (section_header file table) → IsTrue (has_name (symbol_names file table) (symbol_record file table i).st_name)

-- there is section header `table`, and its symbols can be read: they lie inside the file, and their
-- names stand in a string table
pub record IsReadable (file : List ℕ) (table : ℕ) : Type 0 where
  pub below : table < section_count file
  pub places : HasSymbols file table
  pub strings : IsTrue (names_section file is_string_table (section_header file table).sh_link)
  pub names : HasSymbolNames file table

-- the symbol table, if there is one, can be read
abbrev pub HasReadable : List ℕ → Option ℕ → Type 0
HasReadable file None = Unit {0}
HasReadable file (Some table) = IsReadable file table
