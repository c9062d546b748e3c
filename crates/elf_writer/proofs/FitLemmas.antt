-- Where the parts of a view stand in its file, and that what may be written fits.
use Rattle.std.proofs.Common.{◌≡◌, ◌∙◌, ℕ, zero, suc, ◌+◌, ◌-◌, ◌*◌, ◌<◌, ◌≤◌, ◌==◌, nat_lt, true, ◌&&◌, IsTrue, List, [], ◌∷◌, ◌++◌, map, length, get_or, slice_range, Option, Some, None, inl, inr, refl, sym, ap, subst, arith, length-append, length-take, length-drop, append-nil}
use Rattle.std.specs.List.{All}
use Rattle.std.proofs.Math.ListN.{get_or-append}
use Rattle.std.proofs.Math.Seq.{get_or-append_seam}
use Rattle.std.proofs.lemmas.Bool.{leb-true, eqb-true, cond_both, cases_lt}
use Rattle.std.proofs.lemmas.Bool.Decides.{nat_tests}
use Rattle.std.proofs.lemmas.List.{get_or-map, length-map}
use Rattle.std.proofs.lemmas.List.Elements.{All-nil, All-push, All-head, All-tail}
use Rattle.list_checks.specs.Tests.{lies_in}
use Rattle.list_checks.proofs.TestLemmas.{both, any_found}
use Rattle.list_checks.proofs.FirstLemmas.{both_none, none_at, holds}
use Rattle.elf_reader.specs.Layout.{program_header_count, program_header_at, program_header, section_count, section_header}
use Rattle.elf_reader.specs.Sections.{stands_in_file, symbol_table, symbol_count_of}
use Rattle.elf_reader.specs.File.{IsFile, PlainSegment, PlainSection, PlainView, plain_symbol, plain_view, view_in, is_load, segment_of, segments_below, load_segments, section_of, symbol_of, symbols_below, symbols_in, all_symbols}
use Rattle.elf_reader.specs.HeaderChecks.{size_fault, header_fault}
use Rattle.elf_reader.specs.ProgramHeaderChecks.{place_fault, table_fault, program_headers_fault}
use Rattle.elf_reader.specs.SectionChecks.{sections_fault}
use Rattle.elf_reader.specs.SymbolChecks.{symbols_fault}
use Rattle.elf_reader.specs.Faults.{first_fault}
use Rattle.elf_reader.specs.Loaded.{section_at, is_loaded}
use Rattle.elf_reader.specs.Placed.{HasContents}
use Rattle.elf_reader.specs.SymbolTables.{HasReadable}
use Rattle.elf_reader.specs.declared.view.ElfView.{ElfView}
use Rattle.elf_reader.specs.declared.view.Symbol.{Symbol}
use Rattle.elf_reader.proofs.SegmentLemmas.{none_of_headers}
use Rattle.elf_reader.proofs.SectionLemmas.{none_of_sections, section_contents_held}
use Rattle.elf_reader.proofs.SymbolLemmas.{symbols_readable}
use Rattle.elf_reader.proofs.LoadedLemmas.{section_is, loaded_below}
use Rattle.loaded_file.proofs.SymbolCount.{length_symbols}
use Rattle.elf_writer.specs.declared.parts.Patch.{Patch}
use Rattle.elf_writer.specs.declared.parts.SymbolMove.{SymbolMove}
use Rattle.elf_writer.specs.Parts.{NewSegment, no_symbol, nth_symbol, content_place}
use Rattle.elf_writer.specs.Written.{place_among, new_number, new_record, record_place, new_table, all_changes, appended, written}
use Rattle.elf_writer.specs.Pieces.{zero_bytes, padding}
use Rattle.elf_writer.proofs.ZeroLemmas.{length-zero_bytes}
use Rattle.elf_writer.specs.Changes.{changed}
use Rattle.elf_writer.proofs.ChangeLemmas.{length-changed}
use Rattle.elf_writer.specs.Fits.{PatchFits, MoveFits, SegmentFits, WriteFits}
use Rattle.elf_writer.specs.Conditions.{has_word, is_loaded_word, HasSymbol, IsAddable, IsWritable}
use Rattle.loaded_file.proofs.WordLemmas.{same_view}

-- a symbol of a view without its borrow
pub symbol_in : (symbols : List Symbol) (k : ℕ) (d : Symbol) → k < length (map plain_symbol symbols) → nth_symbol (map plain_symbol symbols) k ≡ plain_symbol (get_or symbols k d)
symbol_in symbols k d below = get_or-map plain_symbol symbols k d no_symbol (rw (length-map) at below)

-- in a file in which no check fails, sections, symbols and program headers lie inside it
pub contents_held : (file : List ℕ) → first_fault file ≡ None → HasContents file
contents_held file none = section_contents_held file (none_of_sections file none)

pub none_of_symbols : (file : List ℕ) → first_fault file ≡ None → symbols_fault file ≡ None
none_of_symbols file none =
    let after_header = (both_none (header_fault file) _ none).1 in
    let after_segments = (both_none (program_headers_fault file) _ after_header).1 in
    let after_sections = (both_none (sections_fault file) _ after_segments).1 in
    (both_none (symbols_fault file) _ after_sections).0

pub readable_held : (file : List ℕ) → first_fault file ≡ None → HasReadable file (symbol_table file)
readable_held file none = symbols_readable file (contents_held file none) (none_of_symbols file none)

pub header_inside : (file : List ℕ) → first_fault file ≡ None → 52 ≤ length file
header_inside file none =
    let header = (both_none (header_fault file) _ none).0 in
    let size = (both_none (size_fault file) _ header).0 in
    leb-true 52 (length file) (holds _ _ (both_none _ _ size).1)

pub program_inside : (file : List ℕ) → first_fault file ≡ None → (k : ℕ) → k < program_header_count file → program_header_at file k + 32 ≤ length file
program_inside file none k below =
    let places = (both_none (table_fault file) _ (none_of_headers file none)).0 in
    leb-true _ _ (holds _ _ (none_at (place_fault file) (program_header_count file) k below places))

pub table_inside : (file : List ℕ) → first_fault file ≡ None → 1 ≤ program_header_count file → program_header_at file 0 + 32 * program_header_count file ≤ length file
table_inside file none some =
    let last = program_inside file none (program_header_count file - 1) (omega (arith, some)) in
    omega (arith, some, last)

lies_from : (base total start size : ℕ) → lies_in base total start size ≡ true → base ≤ start
lies_from base total start size lies = grind (arith, nat_tests, lies)

lies_to : (base total start size : ℕ) → lies_in base total start size ≡ true → start + size ≤ base + total
lies_to base total start size lies = grind (arith, nat_tests, lies)

-- a loaded word: the section in whose file bytes it lies
pub record LoadedWord (v : PlainView) (at k : ℕ) : Type 0 where
  pub loaded : is_loaded v k ≡ true
  pub kind : (section_at v k).kind ≡ 1
  pub from : (section_at v k).offset ≤ at
  pub to : at + 4 ≤ (section_at v k).offset + (section_at v k).size

pub loaded_word : (v : PlainView) (at : ℕ) → is_loaded_word v at ≡ true → (k : ℕ) × LoadedWord v at k
loaded_word v at is =
    let (k, below, passes) = any_found (has_word v at) (length v.sections) is in
    let s = section_at v k in
    let last = both (is_loaded v k && (s.kind == 1)) (lies_in s.offset s.size at 4) passes in
    let first = both (is_loaded v k) (s.kind == 1) last.0 in (
      k,
      record {
        loaded = first.0;
        kind = eqb-true s.kind 1 first.1;
        from = lies_from s.offset s.size at 4 last.1;
        to = lies_to s.offset s.size at 4 last.1;
      },
    )

section_ends : (file : List ℕ) (k : ℕ) → HasContents file → k < section_count file → (section_of file k).kind ≡ 1 → (section_of file k).offset + (section_of file k).size ≤ length file
section_ends file k contents below kind =
    let stands : stands_in_file (section_header file k).sh_type ≡ true = rw kind in
    contents k below stands

pub word_inside : (file : List ℕ) (at : ℕ) → first_fault file ≡ None → is_loaded_word (view_in file) at ≡ true → at + 4 ≤ length file
word_inside file at none is =
    let (k, word) = loaded_word (view_in file) at is in
    let below = loaded_below file k word.loaded in
    let is_section = section_is file k below in
    let ends = subst (λ (s : PlainSection). s.kind ≡ 1 → s.offset + s.size ≤ length file) (sym is_section) (section_ends file k (contents_held file none) below) word.kind in
    omega (arith, ends, word.to)

pub patches_fit : (file : List ℕ) (ps : List Patch) → first_fault file ≡ None → All (λ p. IsTrue (is_loaded_word (view_in file) p.offset)) ps → All (PatchFits (length file)) ps
patches_fit file ps none patched i d below = word_inside file (get_or ps i d).offset none (patched i d below)

-- the symbols of a table
pub symbol_below : (file : List ℕ) (table n k : ℕ) → k < n → nth_symbol (symbols_below file table n) k ≡ symbol_of file table k
symbol_below file table zero k below = absurd (omega arith)
symbol_below file table (suc n) k below =
    let count = length_symbols file table n in
    elim (cases_lt k n) [
      | inl earlier ↦
          let inside : k < length (symbols_below file table n) = omega (arith, count, earlier) in
          rw (get_or-append (symbols_below file table n) (symbol_of file table n ∷ []) no_symbol k inside) (symbol_below file table n k earlier)
      | inr behind ↦
          let here : k ≡ length (symbols_below file table n) = omega (arith, count, behind, below) in
          let same : k ≡ n = omega (arith, behind, below) in
          ap (λ j. nth_symbol (symbols_below file table (suc n)) j) here
          ∙ get_or-append_seam (symbols_below file table n) (symbol_of file table n) [] no_symbol
          ∙ ap (symbol_of file table) (sym same)
    ]

symbols_inside : (file : List ℕ) (found : Option ℕ) → HasReadable file found → (k : ℕ) → k < length (symbols_in file found) → (nth_symbol (symbols_in file found) k).at + 16 ≤ length file
symbols_inside file None readable k below = absurd (omega (arith, below))
symbols_inside file (Some table) readable k below =
    let count = symbol_count_of (section_header file table) in
    let size = length_symbols file table count in
    let inside : k < count = omega (arith, size, below) in
    let is = symbol_below file table count k inside in
    rw (is) (readable.places k inside)

pub moves_fit : (file : List ℕ) (ms : List SymbolMove) → first_fault file ≡ None → All (HasSymbol (view_in file)) ms → All (MoveFits (length file) (all_symbols file)) ms
moves_fit file ms none has i d below =
    let inside = has i d below in
    record { below = inside; inside = symbols_inside file (symbol_table file) (readable_held file none) (get_or ms i d).symbol inside }

-- the segments' numbers are below the count
pub numbers_below : (file : List ℕ) (n bound : ℕ) → n ≤ bound → All (λ s. s.index < bound) (segments_below file n)
numbers_below file zero bound le = All-nil (λ s. s.index < bound)
numbers_below file (suc n) bound le =
    let p = program_header file n in
    let earlier = numbers_below file n bound (omega (arith, le)) in
    cond_both (is_load p) (segment_of file n p ∷ []) [] (λ more. All (λ s. s.index < bound) (segments_below file n ++ more))
    (λ load. All-push (λ s. s.index < bound) (segments_below file n) (segment_of file n p) earlier (omega (arith, le)))
    (λ other. rw append-nil earlier)

place_within : (ss : List PlainSegment) (count base : ℕ) → All (λ s. s.index < count) ss → place_among ss count base ≤ count
place_within [] count base all = omega arith
place_within (s ∷ ss) count base all =
    let here = All-head (λ s. s.index < count) s ss all in
    let later = place_within ss count base (All-tail (λ s. s.index < count) s ss all) in
    cond_both (nat_lt base s.vaddr) s.index (place_among ss count base) (λ k. k ≤ count) (λ higher. omega (arith, here)) (λ other. later)

pub number_within : (file : List ℕ) (base : ℕ) → place_among (load_segments file) (program_header_count file) base ≤ program_header_count file
number_within file base =
    place_within (load_segments file) (program_header_count file) base (numbers_below file (program_header_count file) (program_header_count file) (omega arith))

-- how many bytes are written
pub length_range : (bytes : List ℕ) (start end : ℕ) → end ≤ length bytes → length (slice_range bytes start end) ≡ end - start
length_range bytes start end within = simp (length-take, length-drop) (omega (arith, within))

pub length_table : (v : PlainView) (s : NewSegment) → new_number v s ≤ v.ph_count → v.ph_at + 32 * v.ph_count ≤ length v.bytes → length (new_table v s) ≡ 32 * (v.ph_count + 1)
length_table v s number inside =
    let n = new_number v s in
    let before = slice_range v.bytes v.ph_at (record_place v n) in
    let behind = slice_range v.bytes (record_place v n) (record_place v v.ph_count) in
    let first = length_range v.bytes v.ph_at (record_place v n) (omega (arith, number, inside)) in
    let last = length_range v.bytes (record_place v n) (record_place v v.ph_count) (omega (arith, inside)) in
    let whole = length-append before (new_record v s ++ behind) in
    let rest = length-append (new_record v s) behind in
    let record_size : length (new_record v s) ≡ 32 = refl in
    omega (arith, number, first, last, whole, rest, record_size)

pub length_written :
    (v : PlainView)
    (ps : List Patch)
    (s : NewSegment)
    (ms : List SymbolMove)
    → new_number v s ≤ v.ph_count
    → v.ph_at + 32 * v.ph_count ≤ length v.bytes
    → length (written v ps (Some s) ms) ≡ content_place v + length s.content
length_written v ps s ms number inside =
    let front = changed (all_changes v ps (Some s) ms) 0 v.bytes in
    let size = length-changed (all_changes v ps (Some s) ms) 0 v.bytes in
    let zeros = zero_bytes (padding (length v.bytes)) in
    let zeros_size = length-zero_bytes (padding (length v.bytes)) in
    let table_size = length_table v s number inside in
    let whole = length-append front (appended v (Some s)) in
    let rest = length-append zeros (new_table v s ++ s.content) in
    let last = length-append (new_table v s) s.content in
    omega (arith, size, zeros_size, table_size, whole, rest, last)

-- what may be written fits
segment_fits : (file : List ℕ) (ps : List Patch) (s : NewSegment) (ms : List SymbolMove) → first_fault file ≡ None → IsAddable (view_in file) s → length (written (view_in file) ps (Some s) ms) < 2147483648 → SegmentFits (view_in file) s
segment_fits file ps s ms none addable short =
    let v = view_in file in
    let number : new_number v s ≤ v.ph_count = number_within file s.base in
    let table = table_inside file none addable.from_one in
    let inside : v.ph_at + 32 * v.ph_count ≤ length file = omega (arith, table) in
    let size = length_written v ps s ms number inside in
    record {
      header = header_inside file none;
      number = number;
      inside = inside;
      count = addable.to_limit;
      short = omega (arith, size, short);
    }

pub fits : (file : List ℕ) (ps : List Patch) (new : Option NewSegment) (ms : List SymbolMove) → first_fault file ≡ None → IsWritable (view_in file) ps new ms → WriteFits (view_in file) ps new ms
fits file ps None ms none is =
    record { patches = patches_fit file ps none is.patched; moves = moves_fit file ms none is.symbols; segment = tt }
fits file ps (Some s) ms none is =
    record {
      patches = patches_fit file ps none is.patched;
      moves = moves_fit file ms none is.symbols;
      segment = segment_fits file ps s ms none is.allowed is.short;
    }

pub view_fits : (view : ElfView) (ps : List Patch) (new : Option NewSegment) (ms : List SymbolMove) → IsFile view.bytes.now view → first_fault view.bytes.now ≡ None → IsWritable (plain_view view) ps new ms → WriteFits (plain_view view) ps new ms
view_fits view ps new ms is none writable =
    subst (λ (v : PlainView). IsWritable v ps new ms → WriteFits v ps new ms) (sym (same_view view.bytes.now view is)) (fits view.bytes.now ps new ms none) writable
