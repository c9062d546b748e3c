-- The symbol table of a written file fails no check.
use Rattle.std.proofs.Common.{◌≡◌, ◌∙◌, ℕ, ◌+◌, ◌*◌, ◌<◌, ◌==◌, nat_lt, nat_le, true, not, ◌&&◌, ◌||◌, List, [], ◌∷◌, Option, Some, None, refl, ap, arith, if◌then◌else◌}
use Rattle.std.specs.List.{All}
use Rattle.std.proofs.lemmas.Bool.{cond_both}
use Rattle.std.proofs.lemmas.Bool.Decides.{nat_tests}
use Rattle.list_checks.specs.First.{◌or_else◌, unless, first_below}
use Rattle.list_checks.specs.Tests.{any_below, ranges_overlap}
use Rattle.list_checks.proofs.FirstLemmas.{both_none, none_at, holds, none_below, none_or, unless_true}
use Rattle.list_checks.proofs.TestLemmas.{both, any_same}
use Rattle.elf_reader.specs.Layout.{section_count, section_header, symbol_record_in, symbol_record}
use Rattle.elf_reader.specs.Sections.{stands_in_file, is_symbol_table, is_string_table, is_table_at, names_section, has_name, symbol_table, symbol_count_of, symbol_names}
use Rattle.elf_reader.specs.File.{view_in}
use Rattle.elf_reader.specs.Faults.{first_fault}
use Rattle.elf_reader.specs.SymbolChecks.{second_table_fault, one_table_fault, symbol_size_fault, shares_bytes, shared_table_fault, symbol_strings_fault, symbol_limit_fault, has_section, symbol_fault, symbol_entries_fault, symbol_table_fault, found_table_fault, symbols_fault}
use Rattle.elf_reader.specs.SymbolTables.{IsReadable, HasReadable}
use Rattle.elf_reader.specs.declared.fault.ElfFault.TheVariants.{WrongKind, BadIndex}
use Rattle.elf_writer.specs.declared.parts.Patch.{Patch}
use Rattle.elf_writer.specs.declared.parts.SymbolMove.{SymbolMove}
use Rattle.elf_writer.specs.Parts.{NewSegment}
use Rattle.elf_writer.specs.Written.{written}
use Rattle.elf_writer.specs.Conditions.{IsWritable, HasWordValue}
use Rattle.elf_writer.specs.View.{moved_section}
use Rattle.elf_writer.proofs.FitLemmas.{none_of_symbols, readable_held}
use Rattle.elf_writer.proofs.HeaderRead.{keeps_header}
use Rattle.elf_writer.proofs.SectionsRead.{section_header_is, named_stays}
use Rattle.elf_writer.proofs.SymbolsRead.{table_stays, names_same, record_there}

-- ---- one table

table_same : (file : List ℕ) (ps : List Patch) (new : Option NewSegment) (ms : List SymbolMove) (k : ℕ) → first_fault file ≡ None → IsWritable (view_in file) ps new ms → k < section_count file → is_table_at (written (view_in file) ps new ms) k ≡ is_table_at file k
table_same file ps new ms k none is below = ap is_symbol_table (section_header_is file ps new ms k none is below)

second_same : (file : List ℕ) (ps : List Patch) (new : Option NewSegment) (ms : List SymbolMove) (k : ℕ) → first_fault file ≡ None → IsWritable (view_in file) ps new ms → k < section_count file → second_table_fault (written (view_in file) ps new ms) k ≡ second_table_fault file k
second_same file ps new ms k none is below =
    let out = written (view_in file) ps new ms in
    let here = table_same file ps new ms k none is below in
    let before = any_same (is_table_at out) (is_table_at file) k (λ j low. table_same file ps new ms j none is (omega (arith, low, below))) in
    λ i. unless (not (here i && before i)) (WrongKind 15 k)

one_kept : (file : List ℕ) (ps : List Patch) (new : Option NewSegment) (ms : List SymbolMove) → first_fault file ≡ None → IsWritable (view_in file) ps new ms → one_table_fault (written (view_in file) ps new ms) ≡ None
one_kept file ps new ms none is =
    let out = written (view_in file) ps new ms in
    let n = section_count file in
    let held = (both_none (one_table_fault file) _ (none_of_symbols file none)).0 in
    ap (first_below (second_table_fault out)) (keeps_header file ps new ms none is).sections
    ∙ none_below (second_table_fault out) n (λ k below. second_same file ps new ms k none is below ∙ none_at (second_table_fault file) n k below held)

-- ---- the bytes that it shares

shares_same : (file : List ℕ) (ps : List Patch) (new : Option NewSegment) (ms : List SymbolMove) (t k : ℕ) → first_fault file ≡ None → IsWritable (view_in file) ps new ms → t < section_count file → k < section_count file → shares_bytes (written (view_in file) ps new ms) t k ≡ shares_bytes file t k
shares_same file ps new ms t k none is table below =
    let one = section_header_is file ps new ms t none is table in
    let other = section_header_is file ps new ms k none is below in
    λ i. not (k == t) && stands_in_file (other i).sh_type && ranges_overlap (one i).sh_offset (one i).sh_size (other i).sh_offset (other i).sh_size

shared_same : (file : List ℕ) (ps : List Patch) (new : Option NewSegment) (ms : List SymbolMove) (t : ℕ) → first_fault file ≡ None → IsWritable (view_in file) ps new ms → t < section_count file → shared_table_fault (written (view_in file) ps new ms) t ≡ shared_table_fault file t
shared_same file ps new ms t none is table =
    let out = written (view_in file) ps new ms in
    let header = keeps_header file ps new ms none is in
    let at = header.sections_at in
    let count = header.sections in
    let one = section_header_is file ps new ms t none is table in
    let any : any_below (shares_bytes out t) (section_count out) ≡ any_below (shares_bytes file t) (section_count file) =
    ap (any_below (shares_bytes out t)) count
    ∙ any_same (shares_bytes out t) (shares_bytes file t) (section_count file) (λ k below. shares_same file ps new ms t k none is table below)
    in
    λ i. unless (not (ranges_overlap (one i).sh_offset (one i).sh_size (at i) (40 * count i) || any i)) (WrongKind 21 t)

-- ---- its strings

strings_same : (file : List ℕ) (ps : List Patch) (new : Option NewSegment) (ms : List SymbolMove) (t : ℕ) → first_fault file ≡ None → IsWritable (view_in file) ps new ms → t < section_count file → symbol_strings_fault (written (view_in file) ps new ms) t ≡ symbol_strings_fault file t
strings_same file ps new ms t none is table =
    let out = written (view_in file) ps new ms in
    let one = section_header_is file ps new ms t none is table in
    let link = (section_header file t).sh_link in
    let named = named_stays file ps new ms is_string_table link none is in
    (λ i. unless (names_section out is_string_table (one i).sh_link) (BadIndex 4 (one i).sh_link)) ∙ (λ i. unless (named i) (BadIndex 4 link))

-- ---- each symbol

-- the section of a moved symbol is a reserved one, and that of another one stays
moved_has : (ms : List SymbolMove) (i old count : ℕ) → (nat_lt old count || nat_le 65280 old) ≡ true → (nat_lt (moved_section ms i old) count || nat_le 65280 (moved_section ms i old)) ≡ true
moved_has [] i old count has = has
moved_has (m ∷ ms) i old count has =
    let reserved : (nat_lt 65521 count || nat_le 65280 65521) ≡ true = grind (arith, nat_tests) in
    let here : (nat_lt (if m.symbol == i then 65521 else old) count || nat_le 65280 (if m.symbol == i then 65521 else old)) ≡ true =
    cond_both (m.symbol == i) 65521 old (λ n. (nat_lt n count || nat_le 65280 n) ≡ true) (λ moved. reserved) (λ other. has)
    in
    moved_has ms i (if m.symbol == i then 65521 else old) count here

symbol_kept : (file : List ℕ) (ps : List Patch) (new : Option NewSegment) (ms : List SymbolMove) (t i : ℕ) → first_fault file ≡ None → IsWritable (view_in file) ps new ms → All HasWordValue ms → symbol_table file ≡ Some t → IsReadable file t → i < symbol_count_of (section_header file t) → symbol_fault file t i ≡ None → symbol_fault (written (view_in file) ps new ms) t i ≡ None
symbol_kept file ps new ms t i none is fit found readable below held =
    let out = written (view_in file) ps new ms in
    let s = section_header file t in
    let at = s.sh_offset + 16 * i in
    let same = section_header_is file ps new ms t none is readable.below in
    let count = (keeps_header file ps new ms none is).sections in
    let old = symbol_record_in file at in
    let names = names_same file ps new ms t none is readable in
    let there : symbol_record out t i ≡ symbol_record_in out at = λ k. symbol_record_in out ((same k).sh_offset + 16 * i) in
    let moved = record_there file ps new ms t i none is fit found below in
    let name = (λ k. (there k).st_name) ∙ moved.name_is in
    let section = (λ k. (there k).st_shndx) ∙ moved.section_is in
    let parts = both (has_name (symbol_names file t) old.st_name) (has_section (section_count file) old) (holds _ _ held) in
    let placed : has_section (section_count out) (symbol_record out t i) ≡ true =
    (λ k. nat_lt (section k) (count k) || nat_le 65280 (section k)) ∙ moved_has ms i old.st_shndx (section_count file) parts.1
    in
    let named : has_name (symbol_names out t) (symbol_record out t i).st_name ≡ true = (λ k. has_name (names k) (name k)) ∙ parts.0 in
    unless_true _ _ (λ k. named k && placed k)

-- ---- all of it

table_kept : (file : List ℕ) (ps : List Patch) (new : Option NewSegment) (ms : List SymbolMove) (t : ℕ) → first_fault file ≡ None → IsWritable (view_in file) ps new ms → All HasWordValue ms → symbol_table file ≡ Some t → IsReadable file t → symbol_table_fault file t ≡ None → symbol_table_fault (written (view_in file) ps new ms) t ≡ None
table_kept file ps new ms t none is fit found readable held =
    let out = written (view_in file) ps new ms in
    let s = section_header file t in
    let same = section_header_is file ps new ms t none is readable.below in
    let size = both_none (symbol_size_fault s) _ held in
    let shared = both_none (shared_table_fault file t) _ size.1 in
    let strings = both_none (symbol_strings_fault file t) _ shared.1 in
    let limit = both_none (symbol_limit_fault s) _ strings.1 in
    let first : symbol_size_fault (section_header out t) ≡ None = ap symbol_size_fault same ∙ size.0 in
    let second : shared_table_fault out t ≡ None = shared_same file ps new ms t none is readable.below ∙ shared.0 in
    let third : symbol_strings_fault out t ≡ None = strings_same file ps new ms t none is readable.below ∙ strings.0 in
    let fourth : symbol_limit_fault (section_header out t) ≡ None = ap symbol_limit_fault same ∙ limit.0 in
    let n = symbol_count_of s in
    let last : symbol_entries_fault out t ≡ None =
    ap (λ h. first_below (symbol_fault out t) (symbol_count_of h)) same
    ∙ none_below (symbol_fault out t) n (λ i below. symbol_kept file ps new ms t i none is fit found readable below (none_at (symbol_fault file t) n i below limit.1))
    in
    λ i. first i or_else second i or_else third i or_else fourth i or_else last i

found_kept : (file : List ℕ) (ps : List Patch) (new : Option NewSegment) (ms : List SymbolMove) (found : Option ℕ) → first_fault file ≡ None → IsWritable (view_in file) ps new ms → All HasWordValue ms → symbol_table file ≡ found → HasReadable file found → found_table_fault file found ≡ None → found_table_fault (written (view_in file) ps new ms) found ≡ None
found_kept file ps new ms None none is fit found readable held = refl
found_kept file ps new ms (Some t) none is fit found readable held = table_kept file ps new ms t none is fit found readable held

pub symbols_kept : (file : List ℕ) (ps : List Patch) (new : Option NewSegment) (ms : List SymbolMove) → first_fault file ≡ None → IsWritable (view_in file) ps new ms → All HasWordValue ms → symbols_fault (written (view_in file) ps new ms) ≡ None
symbols_kept file ps new ms none is fit =
    let out = written (view_in file) ps new ms in
    let held = (both_none (one_table_fault file) _ (none_of_symbols file none)).1 in
    let rest : found_table_fault out (symbol_table out) ≡ None =
    ap (found_table_fault out) (table_stays file ps new ms none is)
    ∙ found_kept file ps new ms (symbol_table file) none is fit refl (readable_held file none) held
    in
    none_or (one_table_fault out) (found_table_fault out (symbol_table out)) (one_kept file ps new ms none is) rest
