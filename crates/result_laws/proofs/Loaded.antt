-- The memory of loaded sections lies off the scratchpad and the patch range, and holds no byte of the file that a new
-- file changes.
use Rattle.std.proofs.Common.{◌≡◌, inl, inr, ℕ, ◌+◌, ◌<◌, ◌≤◌, ◌==◌, nat_lt, Bool, true, false, not, ◌&&◌, List, length, None, refl, sym, ap, subst, arith}
use Rattle.std.proofs.lemmas.Bool.{cases_Bool, both_ways, eqb-true}
use Rattle.std.proofs.lemmas.Bool.Decides.{nat_tests}
use Rattle.list_checks.specs.First.{first_below}
use Rattle.list_checks.proofs.FirstLemmas as order
use Rattle.list_checks.specs.Tests.{any_below, ranges_overlap}
use Rattle.list_checks.proofs.TestLemmas.{either, both, not_true, any_found}
use Rattle.elf_reader.specs.Layout.{section_count}
use Rattle.elf_reader.specs.Sections.{stands_in_file}
use Rattle.elf_reader.specs.File.{PlainSegment, PlainSection, PlainView, view_in, section_of}
use Rattle.elf_reader.specs.Faults.{first_fault}
use Rattle.elf_reader.specs.SectionChecks.{header_places_fault, table_start_fault, section_place_fault, section_places_fault}
use Rattle.elf_reader.specs.Image.{has_byte}
use Rattle.elf_reader.specs.Loaded.{section_at, segment_at, is_loaded, overlaps_section}
use Rattle.elf_reader.proofs.SegmentLemmas.{none_of_headers, load_segments_disjoint}
use Rattle.elf_reader.proofs.SectionLemmas.{none_of_sections, none_of_section_headers}
use Rattle.elf_reader.proofs.LoadedLemmas.{Loads, IsFilled, HasAddress, loaded_found, loaded_below, loads_address, only_segment, load_segments_placed, section_is}
use Rattle.board_config.specs.declared.board.Board.{Board}
use Rattle.board_config.specs.declared.board.Range.{Range}
use Rattle.loaded_file.specs.Ranges.{inside}
use Rattle.object_graph.specs.Sites.{in_range, file_place, in_symbol_table, holds_changed_byte}
use Rattle.object_graph.specs.LayoutFaults.{segment_overlaps, spm_overlap_fault, patch_overlap_fault, places_fault, too_many_fault, layout_fault}
use Rattle.object_graph.specs.declared.fault.GraphFault.TheVariants.{SpmOverlap, PatchOverlap}
use Rattle.code_blocks.proofs.LeaderLemmas.{both_pass}

-- an address off both ranges, whose byte stays in a new file
pub record IsKept (v : PlainView) (board : Board) (a : ℕ) : Type 0 where
  pub spm : in_range board.spm a ≡ false
  pub patch : in_range board.patch a ≡ false
  pub unchanged : any_below (holds_changed_byte v a) (length v.segments) ≡ false

-- what would be true isn't
pub refuted : (b : Bool) → (b ≡ true → ⊥) → b ≡ false
refuted b never =
    elim (cases_Bool b) [
      | inl found ↦ absurd (never found)
      | inr none ↦ none
    ]

-- ---- the ELF header and the symbol table

off_file_header : (file : List ℕ) (k : ℕ) → first_fault file ≡ None → k < section_count file → stands_in_file (section_of file k).kind ≡ true → ranges_overlap (section_of file k).offset (section_of file k).size 0 52 ≡ false
off_file_header file k none below stands =
    let headers = none_of_section_headers file (none_of_sections file none) in
    let after_table = (order.both_none (header_places_fault file) _ headers).1 in
    let after_start = (order.both_none (table_start_fault file) _ after_table).1 in
    let places = (order.both_none (section_places_fault file) _ after_start).0 in
    let here = order.none_at (section_place_fault file) (section_count file) k below places in
    let passed = order.both_none _ _ (rw stands at here) in
    not_true _ (order.holds _ _ passed.1)

in_header : (offset size i place : ℕ) → i < size → place ≡ offset + i → nat_lt place 52 ≡ true → ranges_overlap offset size 0 52 ≡ true
in_header offset size i place below is small = grind (arith, nat_tests, below, is, small)

in_table : (offset size other more i place : ℕ) → i < size → place ≡ offset + i → inside other more place ≡ true → ranges_overlap offset size other more ≡ true
in_table offset size other more i place below is has = grind (arith, nat_tests, below, is, has)

other_kind : (v : PlainView) (k j : ℕ) → (section_at v k).kind ≡ 1 → (section_at v j).kind ≡ 2 → not (j == k) ≡ true
other_kind v k j first second =
    let differ : (j ≡ k → ⊥) =
    λ same. let moved = ap (λ (x : ℕ). (section_at v x).kind) same in omega (arith, first, second, moved) in
    ap not (refuted (j == k) (λ is. differ (eqb-true j k is)))

no_byte_behind : (t : PlainSegment) (a : ℕ) → t.vaddr + length t.content ≤ a → has_byte t a ≡ true → ⊥
no_byte_behind t a behind has = absurd (grind (arith, nat_tests, behind, has))

from_byte : (t : PlainSegment) (a : ℕ) → has_byte t a ≡ true → t.vaddr ≤ a
from_byte t a has = grind (arith, nat_tests, has)

module _ (file : List ℕ) (none : first_fault file ≡ None) (k : ℕ) (loaded : is_loaded (view_in file) k ≡ true) (i : ℕ) (below : i < (section_at (view_in file) k).size) where
  abbrev v : PlainView
  v = view_in file

  abbrev a : ℕ
  a = (section_at v k).addr + i

  not_in_header : (section_at v k).kind ≡ 1 → (place : ℕ) → place ≡ (section_at v k).offset + i → nat_lt place 52 ≡ true → ⊥
  not_in_header kind place is small =
      let count = loaded_below file k loaded in
      let same : section_at v k ≡ section_of file k = section_is file k count in
      let own : stands_in_file (section_at v k).kind ≡ true = rw kind refl in
      let stands : stands_in_file (section_of file k).kind ≡ true =
      subst (λ (s : PlainSection). stands_in_file s.kind ≡ true) same own in
      let off : ranges_overlap (section_at v k).offset (section_at v k).size 0 52 ≡ false =
      subst (λ (s : PlainSection). ranges_overlap s.offset s.size 0 52 ≡ false) (sym same) (off_file_header file k none count stands) in
      both_ways _ off (in_header (section_at v k).offset (section_at v k).size i place below is small)

  not_in_table : (g : ℕ) → IsFilled v k g (section_at v k) (segment_at v g) → (place : ℕ) → place ≡ (section_at v k).offset + i → any_below (in_symbol_table v place) (length v.sections) ≡ true → ⊥
  not_in_table g filled place is found =
      let there = any_found (in_symbol_table v place) (length v.sections) found in
      let j = there.0 in
      let s = section_at v k in
      let u = section_at v j in
      let parts = both (u.kind == 2) (inside u.offset u.size place) there.2 in
      let kind = eqb-true u.kind 2 parts.0 in
      let stands : stands_in_file u.kind ≡ true = rw kind refl in
      let both_overlap : overlaps_section v k s.offset s.size j ≡ true =
      both_pass (not (j == k) && stands_in_file u.kind) (ranges_overlap s.offset s.size u.offset u.size)
      (both_pass (not (j == k)) (stands_in_file u.kind) (other_kind v k j filled.kind kind) stands)
      (in_table s.offset s.size u.offset u.size i place below is parts.1) in
      both_ways _ (filled.own.section j there.1) both_overlap

  not_changed : (g h : ℕ) → h ≡ g → Loads v k g → holds_changed_byte v a h ≡ true → ⊥
  not_changed g h same facts changed =
      let here : holds_changed_byte v a g ≡ true = subst (λ (x : ℕ). holds_changed_byte v a x ≡ true) same changed in
      let t = segment_at v g in
      let parts = both (has_byte t a) _ here in
      elim facts.rest [
        | inr zeroed ↦ let behind = zeroed.behind in no_byte_behind t a (omega (arith, behind)) parts.0
        | inl filled ↦
            let aligned = filled.aligned in
            let from = from_byte t a parts.0 in
            let place : file_place v a g ≡ (section_at v k).offset + i = omega (arith, aligned, from) in
            elim (either (nat_lt (file_place v a g) 52) (any_below (in_symbol_table v (file_place v a g)) (length v.sections)) parts.1) [
              | inl header ↦ not_in_header filled.kind (file_place v a g) place header
              | inr table ↦ not_in_table g filled (file_place v a g) place table
            ]
      ]

  unchanged : any_below (holds_changed_byte v a) (length v.segments) ≡ false
  unchanged =
      let found = loaded_found v k loaded in
      let held = none_of_headers file none in
      refuted (any_below (holds_changed_byte v a) (length v.segments))
      (λ changed.
      let there = any_found (holds_changed_byte v a) (length v.segments) changed in
      let has = (both (has_byte (segment_at v there.0) a) _ there.2).0 in
      let same =
      only_segment file v.segments (load_segments_disjoint file held) (load_segments_placed file held) found.0 a found.1.below
      (loads_address v k found.0 i found.1 below) there.0 there.1 has in
      not_changed found.0 there.0 same found.1 there.2)

  -- ---- the scratchpad and the patch range

  off_range : (t : PlainSegment) (r : Range) → HasAddress t a → segment_overlaps t r ≡ false → in_range r a ≡ false
  off_range t r has disjoint =
      let from = has.from in
      let to = has.to in
      refuted (in_range r a) (λ is. both_ways _ disjoint (grind (arith, nat_tests, from, to, is)))

  pub loaded_kept : (board : Board) → layout_fault v board ≡ None → IsKept v board a
  loaded_kept board layout =
      let found = loaded_found v k loaded in
      let t = segment_at v found.0 in
      let has = loads_address v k found.0 i found.1 below in
      let places = (order.both_none (places_fault v board) (too_many_fault v board) layout).0 in
      let first = order.both_none (first_below (spm_overlap_fault v board) (length v.segments)) _ places in
      let second = order.both_none (first_below (patch_overlap_fault v board) (length v.segments)) _ first.1 in
      let spm = order.none_at (spm_overlap_fault v board) (length v.segments) found.0 found.1.below first.0 in
      let patch = order.none_at (patch_overlap_fault v board) (length v.segments) found.0 found.1.below second.0 in
      record {
        spm = off_range t board.spm has (not_true _ (order.holds (not (segment_overlaps t board.spm)) (SpmOverlap t.index) spm));
        patch = off_range t board.patch has (not_true _ (order.holds (not (segment_overlaps t board.patch)) (PatchOverlap t.index) patch));
        unchanged = unchanged;
      }
