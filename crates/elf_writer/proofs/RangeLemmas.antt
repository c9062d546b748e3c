-- Ranges of the file whose bytes stay.
use Rattle.std.proofs.Common.{◌≡◌, ◌∙◌, inl, inr, ℕ, ◌+◌, ◌*◌, ◌/◌, ◌<◌, ◌≤◌, ◌==◌, true, false, List, map, length, get_or, slice_index, slice_range, Option, Some, None, sym, ap, subst, arith, length-take, length-drop}
use Rattle.std.specs.List.{All}
use Rattle.std.proofs.lemmas.Bool.{eqb-true, cases_Bool}
use Rattle.std.proofs.lemmas.List.Elements.{All-append}
use Rattle.list_checks.specs.Tests.{ranges_overlap}
use Rattle.elf_reader.specs.Layout.{file_header, section_count, section_header}
use Rattle.elf_reader.specs.Sections.{stands_in_file}
use Rattle.elf_reader.specs.File.{PlainView, view_in}
use Rattle.elf_reader.specs.Faults.{first_fault}
use Rattle.elf_writer.specs.declared.parts.Patch.{Patch}
use Rattle.elf_writer.specs.declared.parts.SymbolMove.{SymbolMove}
use Rattle.elf_writer.specs.Changes.{changes_place, IsUntouched, within}
use Rattle.elf_writer.specs.Parts.{NewSegment, patch_change, moves_changes, content_changes, header_changes}
use Rattle.elf_writer.specs.Written.{all_changes, written}
use Rattle.elf_writer.specs.Conditions.{PatchesLoadedWord, HasSymbol, IsWritable}
use Rattle.elf_writer.proofs.WrittenLemmas.{bytes_written, ranges_written}
use Rattle.elf_writer.proofs.AlikeLemmas.{Alike}
use Rattle.elf_writer.proofs.FreeLemmas.{free_stays, free_range, patches_free, IsOffRecord, moves_free, header_free, disjoint_places, behind_header}
use Rattle.elf_writer.proofs.PlaceLemmas.{content_off_header, headers_off_header, OwnSection, patched_section, OwnTable, own_table, moved_record}

-- the range meets no section that may be patched
abbrev pub OffSections : List ℕ → ℕ → ℕ → Type 0
OffSections file c n =
    (k : ℕ) → OwnSection file k → ranges_overlap (section_header file k).sh_offset (section_header file k).sh_size c n ≡ false

-- nor the symbol table
abbrev pub OffTable : List ℕ → ℕ → ℕ → Type 0
OffTable file c n =
    (t : ℕ) → OwnTable file t → ranges_overlap (section_header file t).sh_offset (section_header file t).sh_size c n ≡ false

-- nor the ELF header
pub record StaysOff (file : List ℕ) (c n : ℕ) : Type 0 where
  pub header : ranges_overlap c n 0 52 ≡ false
  pub sections : OffSections file c n
  pub table : OffTable file c n

pub off_patches : (file : List ℕ) (ps : List Patch) (c n q : ℕ) → All (PatchesLoadedWord (view_in file)) ps → OffSections file c n → c ≤ q → q < c + n → IsUntouched (map patch_change ps) q
off_patches file ps c n q patched off from to =
    patches_free ps q (λ i d below.
    let at = (get_or ps i d).offset in
    let (k, place) = patched_section file at (patched i d below) in
    disjoint_places (section_header file k).sh_offset (section_header file k).sh_size c n q at 4 (off k place.own) from to place.from place.to)

off_record : (file : List ℕ) (m : SymbolMove) (c n q : ℕ) → first_fault file ≡ None → HasSymbol (view_in file) m → OffTable file c n → c ≤ q → q < c + n → IsOffRecord (view_in file).symbols q m
off_record file m c n q none has off from to =
    let (t, moved) = moved_record file m has in
    let s = section_header file t in
    let at = s.sh_offset + 16 * m.symbol in
    let below : m.symbol < s.sh_size / 16 = moved.below in
    let ends : at + 16 ≤ s.sh_offset + s.sh_size = omega (arith, below) in
    let disjoint = disjoint_places s.sh_offset s.sh_size c n q at 16 (off t (own_table file t none moved.found)) from to (omega arith) ends in
    subst (λ (place : ℕ). within place 16 q ≡ false) (sym moved.place) disjoint

pub off_moves : (file : List ℕ) (ms : List SymbolMove) (c n q : ℕ) → first_fault file ≡ None → All (HasSymbol (view_in file)) ms → OffTable file c n → c ≤ q → q < c + n → IsUntouched (moves_changes (view_in file).symbols ms) q
off_moves file ms c n q none has off from to =
    moves_free (view_in file).symbols ms q (λ i d below. off_record file (get_or ms i d) c n q none (has i d below) off from to)

pub off_contents : (file : List ℕ) (ps : List Patch) (ms : List SymbolMove) (c n q : ℕ) → first_fault file ≡ None → All (PatchesLoadedWord (view_in file)) ps → All (HasSymbol (view_in file)) ms → OffSections file c n → OffTable file c n → c ≤ q → q < c + n → IsUntouched (content_changes (view_in file) ps ms) q
off_contents file ps ms c n q none patched has off off_table from to =
    All-append (λ c. changes_place c q ≡ false) (map patch_change ps) (moves_changes (view_in file).symbols ms)
    (off_patches file ps c n q patched off from to)
    (off_moves file ms c n q none has off_table from to)

-- no change touches such a range
pub off_all : (file : List ℕ) (ps : List Patch) (new : Option NewSegment) (ms : List SymbolMove) (c n q : ℕ) → first_fault file ≡ None → IsWritable (view_in file) ps new ms → StaysOff file c n → c ≤ q → q < c + n → IsUntouched (all_changes (view_in file) ps new ms) q
off_all file ps None ms c n q none is off from to =
    off_contents file ps ms c n q none is.patched is.symbols off.sections off.table from to
off_all file ps (Some s) ms c n q none is off from to =
    All-append (λ c. changes_place c q ≡ false) (content_changes (view_in file) ps ms) (header_changes (view_in file) s)
    (off_contents file ps ms c n q none is.patched is.symbols off.sections off.table from to)
    (header_free (view_in file) s q (behind_header c n q off.header from to))

-- a byte at a place that no change touches
pub free_byte : (v : PlainView) (ps : List Patch) (new : Option NewSegment) (ms : List SymbolMove) (q : ℕ) → q < length v.bytes → IsUntouched (all_changes v ps new ms) q → slice_index (written v ps new ms) q ≡ slice_index v.bytes q
free_byte v ps new ms q inside free =
    bytes_written v ps new ms q inside ∙ free_stays (all_changes v ps new ms) q (slice_index v.bytes q) free

-- the bytes of such a range stay
pub range_alike : (file : List ℕ) (ps : List Patch) (new : Option NewSegment) (ms : List SymbolMove) (c n : ℕ) → first_fault file ≡ None → IsWritable (view_in file) ps new ms → StaysOff file c n → c + n ≤ length file → Alike (written (view_in file) ps new ms) c file c n
range_alike file ps new ms c n none is off inside i below =
    free_byte (view_in file) ps new ms (c + i) (omega (arith, inside, below))
    (off_all file ps new ms c n (c + i) none is off (omega arith) (omega (arith, below)))

pub range_stays : (file : List ℕ) (ps : List Patch) (new : Option NewSegment) (ms : List SymbolMove) (c n : ℕ) → first_fault file ≡ None → IsWritable (view_in file) ps new ms → StaysOff file c n → c + n ≤ length file → slice_range (written (view_in file) ps new ms) c (c + n) ≡ slice_range file c (c + n)
range_stays file ps new ms c n none is off inside =
    let size : length (slice_range file c (c + n)) ≤ n = simp (length-take, length-drop) (omega arith) in
    ranges_written (view_in file) ps new ms c (c + n) (omega arith) inside
    ∙ free_range (all_changes (view_in file) ps new ms) c (slice_range file c (c + n))
    (λ i below. off_all file ps new ms c n (c + i) none is off (omega arith) (omega (arith, below, size)))

-- ---- the ranges that are read

pub section_headers_off : (file : List ℕ) → first_fault file ≡ None → StaysOff file (file_header file).e_shoff (40 * section_count file)
section_headers_off file none =
    record { header = headers_off_header file none; sections = λ k own. own.headers; table = λ t own. own.headers }

-- sections of two kinds are two
pub kinds_differ : (file : List ℕ) (j k a b : ℕ) → (section_header file j).sh_type ≡ a → (section_header file k).sh_type ≡ b → (a ≡ b → ⊥) → (j == k) ≡ false
kinds_differ file j k a b is_a is_b differ =
    elim (cases_Bool (j == k)) [
      | inl same ↦
          let one : j ≡ k = eqb-true j k same in
          absurd (differ (sym is_a ∙ (ap (λ i. (section_header file i).sh_type) one ∙ is_b)))
      | inr other ↦ other
    ]

-- the content of a section of another kind than those of contents (1) and symbols (2)
pub content_off : (file : List ℕ) (j kind : ℕ) → first_fault file ≡ None → j < section_count file → (section_header file j).sh_type ≡ kind → stands_in_file kind ≡ true → (kind ≡ 1 → ⊥) → (kind ≡ 2 → ⊥) → StaysOff file (section_header file j).sh_offset (section_header file j).sh_size
content_off file j kind none below is stands no_content no_symbols =
    let standing : stands_in_file (section_header file j).sh_type ≡ true = ap stands_in_file is ∙ stands in
    record {
      header = content_off_header file j none below standing;
      sections = λ k own. own.others j below (kinds_differ file j k kind 1 is own.kind no_content) standing;
      table = λ t own. own.others j below (kinds_differ file j t kind 2 is own.kind no_symbols) standing;
    }

-- the ELF header is off the sections
pub header_off_sections : (file : List ℕ) → first_fault file ≡ None → OffSections file 0 52
header_off_sections file none k own =
    let stands : stands_in_file (section_header file k).sh_type ≡ true = ap stands_in_file own.kind in
    content_off_header file k none own.below stands

pub header_off_table : (file : List ℕ) → first_fault file ≡ None → OffTable file 0 52
header_off_table file none t own =
    let stands : stands_in_file (section_header file t).sh_type ≡ true = ap stands_in_file own.kind in
    content_off_header file t none own.below stands

-- what only the header's changes touch
pub header_contents_free : (file : List ℕ) (ps : List Patch) (new : Option NewSegment) (ms : List SymbolMove) (q : ℕ) → first_fault file ≡ None → IsWritable (view_in file) ps new ms → q < 52 → IsUntouched (content_changes (view_in file) ps ms) q
header_contents_free file ps new ms q none is below =
    off_contents file ps ms 0 52 q none is.patched is.symbols (header_off_sections file none) (header_off_table file none) (omega arith) (omega (arith, below))
