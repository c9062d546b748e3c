-- The symbol table of a file in which no check fails.
use Rattle.std.proofs.Common.{◌≡◌, ◌⊎◌, inl, inr, ℕ, zero, suc, ◌+◌, ◌*◌, ◌<◌, ◌≤◌, nat_lt, Bool, true, false, not, ◌&&◌, IsTrue, List, length, Option, Some, None, refl, arith}
use Rattle.std.proofs.lemmas.Bool.{ltb-true, eqb-true}
use Rattle.list_checks.specs.Tests.{any_below}
use Rattle.list_checks.proofs.TestLemmas.{both, not_true, any_at}
use Rattle.list_checks.specs.First.{◌or_else◌, unless}
use Rattle.list_checks.proofs.FirstLemmas.{both_none, none_at, holds}
use Rattle.elf_reader.specs.Layout.{section_count, section_header, symbol_record}
use Rattle.elf_reader.specs.Sections.{stands_in_file, names_section, has_name, is_table_at, table_at, symbol_table_below, symbol_table, symbol_count_of, symbol_names}
use Rattle.elf_reader.specs.SymbolChecks.{second_table_fault, one_table_fault, symbol_size_fault, shared_table_fault, symbol_strings_fault, symbol_limit_fault, has_section, symbol_fault, symbol_table_fault, found_table_fault, symbols_fault}
use Rattle.elf_reader.specs.Placed.{HasContent, HasContents, HasSymbols}
use Rattle.elf_reader.specs.SymbolTables.{IsReadable, HasReadable}
use Rattle.elf_reader.specs.declared.fault.ElfFault.{ElfFault}
use Rattle.elf_reader.specs.declared.fault.ElfFault.TheVariants.{WrongKind}
use Rattle.elf_reader.specs.declared.records.SectionHeader.{SectionHeader}

-- what is found in one of two places
either_found : {E : Type 0} (a b : Option E) (x : E) → a or_else b ≡ Some x → (a ≡ Some x) ⊎ (b ≡ Some x)
either_found None b x found = inr found
either_found (Some y) b x found = inl found

-- a number that stands for a test that passes
passes : (test : Bool) (x y : ℕ) → unless (not test) x ≡ Some y → (test ≡ true) × (x ≡ y)
passes true x y found = (refl, cc)
passes false x y found = cc

-- the section header of the symbol table is one, and of a symbol table
pub table_is : (file : List ℕ) (n table : ℕ) → symbol_table_below file n ≡ Some table → (table < n) × (is_table_at file table ≡ true)
table_is file zero table found = cc
table_is file (suc n) table found =
    elim (either_found (symbol_table_below file n) (table_at file n) table found) [
      | inl earlier ↦ let is = table_is file n table earlier in (omega arith, is.1)
      | inr here ↦ let is = passes (is_table_at file n) n table here in (omega (arith, is.1), rw (← is.1) is.0)
    ]

pub some_before : (file : List ℕ) (n table : ℕ) → symbol_table_below file n ≡ Some table → any_below (is_table_at file) n ≡ true
some_before file n table found =
    let is = table_is file n table found in
    any_at (is_table_at file) n table is.0 is.1

pub none_before : (file : List ℕ) (n : ℕ) → symbol_table_below file n ≡ None → any_below (is_table_at file) n ≡ false
none_before file zero none = refl
none_before file (suc n) none =
    let parts = both_none (symbol_table_below file n) (table_at file n) none in
    let earlier = none_before file n parts.0 in
    let here = not_true (is_table_at file n) (holds (not (is_table_at file n)) n parts.1) in
    rw earlier here

second : (here earlier : Bool) (fault : ElfFault) → here ≡ true → earlier ≡ true → unless (not (here && earlier)) fault ≡ Some fault
second here earlier fault is_here is_earlier = rw (is_here, is_earlier)

only : (here earlier : Bool) (fault : ElfFault) → earlier ≡ false → unless (not (here && earlier)) fault ≡ None
only true earlier fault none = rw none
only false earlier fault none = refl

-- a second symbol table
pub second_is : (file : List ℕ) (k table : ℕ) → is_table_at file k ≡ true → symbol_table_below file k ≡ Some table → second_table_fault file k ≡ Some (WrongKind 15 k)
second_is file k table here found =
    second (is_table_at file k) (any_below (is_table_at file) k) (WrongKind 15 k) here (some_before file k table found)

-- no table before
pub only_is : (file : List ℕ) (k : ℕ) → symbol_table_below file k ≡ None → second_table_fault file k ≡ None
only_is file k none =
    only (is_table_at file k) (any_below (is_table_at file) k) (WrongKind 15 k) (none_before file k none)

-- a number that names a section is below their count
pub named_below : (file : List ℕ) (test : SectionHeader → Bool) (k : ℕ) → IsTrue (names_section file test k) → k < section_count file
named_below file test k named =
    ltb-true k (section_count file) (both (nat_lt k (section_count file)) (test (section_header file k)) named).0

-- the entries of a symbol table lie inside the file
placed : (size : ℕ) (s : SectionHeader) → HasContent size s → s.sh_type ≡ 2 → (i : ℕ) → i < symbol_count_of s → s.sh_offset + 16 * i + 16 ≤ size
placed size s content is_table i below =
    let stands : stands_in_file s.sh_type ≡ true = rw is_table in
    let inside = content stands in
    omega (arith, inside)

pub symbols_placed : (file : List ℕ) (table : ℕ) → HasContents file → table < section_count file → is_table_at file table ≡ true → HasSymbols file table
symbols_placed file table contents below is_table i entry =
    placed (length file) (section_header file table) (contents table below) (eqb-true _ 2 is_table) i entry

-- a symbol table in which no check fails can be read
pub readable : (file : List ℕ) (table : ℕ) → HasContents file → table < section_count file → is_table_at file table ≡ true → symbol_table_fault file table ≡ None → IsReadable file table
readable file table contents below is_table none =
    let s = section_header file table in
    let after_size = both_none (symbol_size_fault s) _ none in
    let after_shared = both_none (shared_table_fault file table) _ after_size.1 in
    let strings = both_none (symbol_strings_fault file table) _ after_shared.1 in
    let after_limit = both_none (symbol_limit_fault s) _ strings.1 in
    record {
      below = below;
      places = symbols_placed file table contents below is_table;
      strings = holds _ _ strings.0;
      names = λ i entry.
          let r = symbol_record file table i in
          (both (has_name (symbol_names file table) r.st_name) (has_section (section_count file) r)
          (holds _ _ (none_at (symbol_fault file table) (symbol_count_of s) i entry after_limit.1))).0;
    }

readable_found : (file : List ℕ) (found : Option ℕ) → symbol_table file ≡ found → HasContents file → found_table_fault file found ≡ None → HasReadable file found
readable_found file None same contents none = tt
readable_found file (Some table) same contents none =
    let is = table_is file (section_count file) table same in
    readable file table contents is.0 is.1 none

-- where no check of the symbols fails, the symbol table can be read
pub symbols_readable : (file : List ℕ) → HasContents file → symbols_fault file ≡ None → HasReadable file (symbol_table file)
symbols_readable file contents none =
    readable_found file (symbol_table file) refl contents (both_none (one_table_fault file) _ none).1
