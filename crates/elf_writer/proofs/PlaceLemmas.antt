-- Where the words that are patched and the symbols that are moved stand in a file in which no check
-- fails, and what else stands there: nothing that is read of the file.
use Rattle.std.proofs.Common.{◌≡◌, ◌∙◌, ◌⊎◌, inl, inr, ℕ, ◌+◌, ◌*◌, ◌<◌, ◌≤◌, ◌==◌, Bool, true, false, not, ◌&&◌, List, length, Option, Some, None, refl, ap, subst, arith}
use Rattle.std.proofs.lemmas.Bool.{eqb-true}
use Rattle.list_checks.specs.Tests.{any_below, ranges_overlap}
use Rattle.list_checks.proofs.TestLemmas.{neither, not_true, none_at}
use Rattle.list_checks.proofs.FirstLemmas.{both_none, holds}
use Rattle.elf_reader.specs.Layout.{file_header, section_count, section_header}
use Rattle.elf_reader.specs.Sections.{stands_in_file, symbol_table, symbol_count_of}
use Rattle.elf_reader.specs.File.{PlainSection, PlainView, view_in, section_of, symbols_in}
use Rattle.elf_reader.specs.SectionChecks.{header_places_fault, table_start_fault, content_fault, section_place_fault, section_places_fault}
use Rattle.elf_reader.specs.SymbolChecks.{one_table_fault, symbol_size_fault, overlaps_section_headers, shares_bytes, shared_table_fault, symbol_table_fault, found_table_fault}
use Rattle.elf_reader.specs.Faults.{first_fault}
use Rattle.elf_reader.specs.Loaded.{section_at, segment_at}
use Rattle.elf_reader.proofs.SectionLemmas.{none_of_sections, none_of_section_headers}
use Rattle.elf_reader.proofs.SymbolLemmas.{table_is}
use Rattle.elf_reader.proofs.LoadedLemmas.{length_sections, section_is, loaded_found, loaded_below, IsFilled, IsZeroed, HasOwnBytes}
use Rattle.elf_writer.specs.declared.parts.SymbolMove.{SymbolMove}
use Rattle.elf_writer.specs.Parts.{nth_symbol}
use Rattle.elf_writer.specs.Conditions.{is_loaded_word, HasSymbol}
use Rattle.loaded_file.proofs.SymbolCount.{length_symbols}
use Rattle.elf_writer.proofs.FitLemmas.{none_of_symbols, loaded_word, symbol_below}
use Rattle.list_checks.proofs.FirstLemmas.{none_at as no_check_at}

-- ---- no content of a section meets the ELF header, and the section headers don't

header_off_content : (file : List ℕ) (k : ℕ) → stands_in_file (section_header file k).sh_type ≡ true → content_fault (length file) k (section_header file k) ≡ None → ranges_overlap (section_header file k).sh_offset (section_header file k).sh_size 0 52 ≡ false
header_off_content file k stands none =
    not_true (ranges_overlap (section_header file k).sh_offset (section_header file k).sh_size 0 52) (holds _ _ (both_none _ _ none).1)

pub content_off_header : (file : List ℕ) (k : ℕ) → first_fault file ≡ None → k < section_count file → stands_in_file (section_header file k).sh_type ≡ true → ranges_overlap (section_header file k).sh_offset (section_header file k).sh_size 0 52 ≡ false
content_off_header file k none below stands =
    let after_table = (both_none (header_places_fault file) _ (none_of_section_headers file (none_of_sections file none))).1 in
    let after_start = (both_none (table_start_fault file) _ after_table).1 in
    let places = (both_none (section_places_fault file) _ after_start).0 in
    let here = no_check_at (section_place_fault file) (section_count file) k below places in
    header_off_content file k stands (rw stands at here)

pub headers_off_header : (file : List ℕ) → first_fault file ≡ None → ranges_overlap (file_header file).e_shoff (40 * section_count file) 0 52 ≡ false
headers_off_header file none =
    let after_table = (both_none (header_places_fault file) _ (none_of_section_headers file (none_of_sections file none))).1 in
    not_true _ (holds _ _ (both_none (table_start_fault file) _ after_table).0)

-- ---- patched words

-- a section with content that shares its bytes with no table of headers and no other section
pub record OwnSection (file : List ℕ) (k : ℕ) : Type 0 where
  pub below : k < section_count file
  pub kind : (section_header file k).sh_type ≡ 1
  pub programs : ranges_overlap (section_header file k).sh_offset (section_header file k).sh_size (file_header file).e_phoff (32 * (file_header file).e_phnum) ≡ false
  pub headers : ranges_overlap (section_header file k).sh_offset (section_header file k).sh_size (file_header file).e_shoff (40 * section_count file) ≡ false
  pub others : (j : ℕ) → j < section_count file → (j == k) ≡ false → stands_in_file (section_header file j).sh_type ≡ true → ranges_overlap (section_header file k).sh_offset (section_header file k).sh_size (section_header file j).sh_offset (section_header file j).sh_size ≡ false

-- the word at a place lies in its bytes
pub record PatchedSection (file : List ℕ) (at k : ℕ) : Type 0 where
  pub own : OwnSection file k
  pub from : (section_header file k).sh_offset ≤ at
  pub to : at + 4 ≤ (section_header file k).sh_offset + (section_header file k).sh_size

filled_of : (v : PlainView) (k g : ℕ) (s : PlainSection) (filled : IsFilled v k g s (segment_at v g) ⊎ IsZeroed s (segment_at v g)) → s.kind ≡ 1 → HasOwnBytes v k g s
filled_of v k g s (inl filled) kind = filled.own
filled_of v k g s (inr zeroed) kind = absurd (omega (arith, kind, zeroed.kind))

no_other : (same stands overlap : Bool) → not same && stands && overlap ≡ false → same ≡ false → stands ≡ true → overlap ≡ false
no_other same stands overlap none differs is_standing = grind arith

own_section : (file : List ℕ) (k g : ℕ) (s : PlainSection) → k < section_count file → s ≡ section_of file k → s.kind ≡ 1 → HasOwnBytes (view_in file) k g s → OwnSection file k
own_section file k g s below is kind own =
    let moved : HasOwnBytes (view_in file) k g (section_of file k) = subst (λ (t : PlainSection). HasOwnBytes (view_in file) k g t) is own in
    let h = section_header file k in
    let v = view_in file in
    let count = length_sections file (section_count file) in
    let tables = neither (ranges_overlap h.sh_offset h.sh_size v.ph_at (32 * v.ph_count)) (ranges_overlap h.sh_offset h.sh_size (file_header file).e_shoff (40 * length v.sections)) moved.headers in
    record {
      below = below;
      kind = subst (λ (t : PlainSection). t.kind ≡ 1) is kind;
      programs = tables.0;
      headers = subst (λ (n : ℕ). ranges_overlap h.sh_offset h.sh_size (file_header file).e_shoff (40 * n) ≡ false) count tables.1;
      others = λ j below_j differs stands.
          let disjoint = moved.section j (omega (arith, count, below_j)) in
          let same = section_is file j below_j in
          let plain = subst (λ (t : PlainSection). not (j == k) && stands_in_file t.kind && ranges_overlap h.sh_offset h.sh_size t.offset t.size ≡ false) same disjoint in
          no_other (j == k) (stands_in_file (section_header file j).sh_type) (ranges_overlap h.sh_offset h.sh_size (section_header file j).sh_offset (section_header file j).sh_size) plain differs stands;
    }

pub patched_section : (file : List ℕ) (at : ℕ) → is_loaded_word (view_in file) at ≡ true → (k : ℕ) × PatchedSection file at k
patched_section file at is =
    let (k, word) = loaded_word (view_in file) at is in
    let below = loaded_below file k word.loaded in
    let same = section_is file k below in
    let (g, facts) = loaded_found (view_in file) k word.loaded in
    let own = filled_of (view_in file) k g (section_at (view_in file) k) facts.rest word.kind in (
      k,
      record {
        own = own_section file k g (section_at (view_in file) k) below same word.kind own;
        from = subst (λ (t : PlainSection). t.offset ≤ at) same word.from;
        to = subst (λ (t : PlainSection). at + 4 ≤ t.offset + t.size) same word.to;
      },
    )

-- ---- moved symbols

-- the symbol table shares its bytes with no header and no other section
pub record OwnTable (file : List ℕ) (t : ℕ) : Type 0 where
  pub below : t < section_count file
  pub kind : (section_header file t).sh_type ≡ 2
  pub headers : ranges_overlap (section_header file t).sh_offset (section_header file t).sh_size (file_header file).e_shoff (40 * section_count file) ≡ false
  pub others : (j : ℕ) → j < section_count file → (j == t) ≡ false → stands_in_file (section_header file j).sh_type ≡ true → ranges_overlap (section_header file t).sh_offset (section_header file t).sh_size (section_header file j).sh_offset (section_header file j).sh_size ≡ false

own_found : (file : List ℕ) (found : Option ℕ) (t : ℕ) → found ≡ Some t → found_table_fault file found ≡ None → symbol_table_fault file t ≡ None
own_found file found t is none = subst (λ (o : Option ℕ). found_table_fault file o ≡ None) is none

pub own_table : (file : List ℕ) (t : ℕ) → first_fault file ≡ None → symbol_table file ≡ Some t → OwnTable file t
own_table file t none found =
    let is = table_is file (section_count file) t found in
    let h = section_header file t in
    let checks = own_found file (symbol_table file) t found (both_none (one_table_fault file) _ (none_of_symbols file none)).1 in
    let after_size = (both_none (symbol_size_fault h) _ checks).1 in
    let shared = holds _ _ (both_none (shared_table_fault file t) _ after_size).0 in
    let parts = neither (overlaps_section_headers file h) (any_below (shares_bytes file t) (section_count file)) (not_true _ shared) in
    record {
      below = is.0;
      kind = eqb-true (section_header file t).sh_type 2 is.1;
      headers = parts.0;
      others = λ j below differs stands.
          no_other (j == t) (stands_in_file (section_header file j).sh_type) (ranges_overlap h.sh_offset h.sh_size (section_header file j).sh_offset (section_header file j).sh_size)
          (none_at (shares_bytes file t) (section_count file) j below parts.1) differs stands;
    }

-- the record of a moved symbol is that of its number in the symbol table
pub record MovedRecord (file : List ℕ) (t : ℕ) (m : SymbolMove) : Type 0 where
  pub found : symbol_table file ≡ Some t
  pub below : m.symbol < symbol_count_of (section_header file t)
  pub place : (nth_symbol (view_in file).symbols m.symbol).at ≡ (section_header file t).sh_offset + 16 * m.symbol

moved_in : (file : List ℕ) (found : Option ℕ) (m : SymbolMove) → symbol_table file ≡ found → m.symbol < length (symbols_in file found) → (nth_symbol (view_in file).symbols m.symbol) ≡ (nth_symbol (symbols_in file found) m.symbol) → (t : ℕ) × MovedRecord file t m
moved_in file None m found below same = absurd (omega (arith, below))
moved_in file (Some t) m found below same =
    let count = symbol_count_of (section_header file t) in
    let size = length_symbols file t count in
    let inside : m.symbol < count = omega (arith, size, below) in
    let is = symbol_below file t count m.symbol inside in (
      t,
      record {
        found = found;
        below = inside;
        place = ap (λ s. s.at) (same ∙ is);
      },
    )

pub moved_record : (file : List ℕ) (m : SymbolMove) → HasSymbol (view_in file) m → (t : ℕ) × MovedRecord file t m
moved_record file m below = moved_in file (symbol_table file) m refl below refl
