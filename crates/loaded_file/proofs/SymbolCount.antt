-- How many symbols a file has.
use Rattle.std.proofs.Common.{◌≡◌, ℕ, zero, suc, ◌≤◌, List, [], ◌∷◌, length, Option, Some, None, refl, arith, length-append}
use Rattle.std.proofs.lemmas.Bool.{leb-true}
use Rattle.std.proofs.lemmas.List.{length-map}
use Rattle.list_checks.proofs.FirstLemmas.{both_none, holds}
use Rattle.elf_reader.specs.Layout.{section_header}
use Rattle.elf_reader.specs.Sections.{symbol_table, symbol_count_of}
use Rattle.elf_reader.specs.HeaderChecks.{header_fault}
use Rattle.elf_reader.specs.ProgramHeaderChecks.{program_headers_fault}
use Rattle.elf_reader.specs.SectionChecks.{sections_fault}
use Rattle.elf_reader.specs.SymbolChecks.{one_table_fault, symbol_size_fault, shared_table_fault, symbol_strings_fault, symbol_limit_fault, found_table_fault, symbols_fault}
use Rattle.elf_reader.specs.File.{plain_symbol, plain_view, symbol_of, symbols_below, symbols_in}
use Rattle.elf_reader.specs.declared.view.ElfView.{ElfView}
use Rattle.loaded_file.specs.Read.{IsRead}

pub length_symbols : (file : List ℕ) (table n : ℕ) → length (symbols_below file table n) ≡ n
length_symbols file table zero = refl
length_symbols file table (suc n) =
    let earlier = length_symbols file table n in
    let more = length-append (symbols_below file table n) (symbol_of file table n ∷ []) in
    omega (arith, earlier, more)

symbols_limited : (file : List ℕ) (found : Option ℕ) → found_table_fault file found ≡ None → length (symbols_in file found) ≤ 65536
symbols_limited file None none = omega arith
symbols_limited file (Some table) none =
    let s = section_header file table in
    let after_size = both_none (symbol_size_fault s) _ none in
    let after_shared = both_none (shared_table_fault file table) _ after_size.1 in
    let after_strings = both_none (symbol_strings_fault file table) _ after_shared.1 in
    let limit = both_none (symbol_limit_fault s) _ after_strings.1 in
    let few = leb-true (symbol_count_of s) 65536 (holds _ _ limit.0) in
    let count = length_symbols file table (symbol_count_of s) in
    omega (arith, few, count)

-- a view that was read has few symbols
pub few_symbols : (view : ElfView) → IsRead view → length (plain_view view).symbols ≤ 65536
few_symbols view read =
    let (file, is, none) = read in
    let after_header = both_none (header_fault file) _ none in
    let after_segments = both_none (program_headers_fault file) _ after_header.1 in
    let after_sections = both_none (sections_fault file) _ after_segments.1 in
    let symbols = both_none (symbols_fault file) _ after_sections.1 in
    let found = both_none (one_table_fault file) _ symbols.0 in
    rw (is.symbols) (symbols_limited file (symbol_table file) found.1)

pub symbols_few : (view : ElfView) → IsRead view → length view.symbols.items ≤ 65536
symbols_few view read =
    let limited = few_symbols view read in
    let count = length-map view.symbols.items plain_symbol in
    omega (arith, limited, count)
