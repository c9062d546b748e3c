-- Which memory is mapped: that of segments, of loaded sections, and fixed memory.
use Rattle.std.proofs.Common.{◌≡◌, inl, inr, ℕ, suc, ◌+◌, ◌<◌, ◌≤◌, ◌==◌, true, false, not, ◌&&◌, ◌||◌, length, slice_index_or, None, arith}
use Rattle.std.proofs.lemmas.Bool.{eqb-true, cases_Bool, both_ways}
use Rattle.std.proofs.lemmas.Bool.Decides.{nat_tests}
use Rattle.std.proofs.lemmas.List.Folds.{list_any_at}
use Rattle.list_checks.specs.First.{first_below}
use Rattle.list_checks.proofs.FirstLemmas.{both_none, none_at, holds}
use Rattle.list_checks.specs.Tests.{any_below, lies_in}
use Rattle.list_checks.proofs.TestLemmas.{either, both, not_true, any_found, any_at}
use Rattle.elf_reader.specs.File.{PlainSymbol, PlainView}
use Rattle.elf_reader.specs.Loadable.{IsLoadable, AreLoadable}
use Rattle.elf_reader.specs.Loaded.{section_at, no_segment, segment_at, is_loaded}
use Rattle.elf_reader.proofs.LoadedLemmas.{loaded_found}
use Rattle.board_config.specs.Board.{mapped_ranges, IsLawfulRange, IsLawful}
use Rattle.board_config.specs.declared.board.Board.{Board}
use Rattle.board_config.specs.declared.board.Range.{Range}
use Rattle.flat_machine.specs.Mapping as mapping
use Rattle.loaded_file.specs.Code.{is_code_range}
use Rattle.loaded_file.specs.Records.{symbol_at}
use Rattle.loaded_file.specs.Ranges.{has_range, inside}
use Rattle.loaded_file.proofs.RangeLemmas.{IsOf}
use Rattle.object_graph.specs.Fixed.{is_movable}
use Rattle.object_graph.specs.Sites.{in_range, no_area, in_area, in_code_range, in_object, holds_changed_byte, is_fixed_memory}
use Rattle.object_graph.specs.LayoutFaults.{segment_lies_in, lies_in_area, spm_overlap_fault, patch_overlap_fault, patch_far_fault, spm_overlaps_patch_fault, spm_at_zero_fault, no_area_fault, places_fault, too_many_fault, layout_fault}
use Rattle.object_graph.specs.declared.fault.GraphFault.TheVariants.{NoArea}
use Rattle.object_graph.proofs.MovableLemmas.{movable_parts}
use Rattle.code_blocks.proofs.LeaderLemmas.{left_passes, right_passes, both_pass}

-- ---- ranges

lies_byte : (base total start size a : ℕ) → lies_in base total start size ≡ true → start ≤ a → a < start + size → inside base total a ≡ true
lies_byte base total start size a lies from to = grind (arith, nat_tests, lies, from, to)

pub inside_to : (base size a : ℕ) → inside base size a ≡ true → a < base + size
inside_to base size a is = grind (arith, nat_tests, is)

module _ (board : Board) (a : ℕ) where
  main_mapped : in_range board.main a ≡ true → mapping.is_mapped (mapped_ranges board) a ≡ true
  main_mapped is = left_passes (mapping.in_range board.main a) _ is

  area_mapped : (j : ℕ) → j < length board.areas.items → in_area board a j ≡ true → mapping.is_mapped (mapped_ranges board) a ≡ true
  area_mapped j below is =
      right_passes (mapping.in_range board.main a) _ (right_passes (mapping.in_range board.spm a) _ (right_passes (mapping.in_range board.patch a) _
      (list_any_at (λ range. mapping.in_range range a) board.areas.items j no_area below is)))

  -- the memory of main and the areas is mapped, and lies below 2 ^ 32
  pub memory_mapped : in_range board.main a || any_below (in_area board a) (length board.areas.items) ≡ true → mapping.is_mapped (mapped_ranges board) a ≡ true
  memory_mapped is =
      elim (either (in_range board.main a) (any_below (in_area board a) (length board.areas.items)) is) [
        | inl main ↦ main_mapped main
        | inr area ↦
            let found = any_found (in_area board a) (length board.areas.items) area in
            area_mapped found.0 found.1 found.2
      ]

  range_below : (r : Range) → IsLawfulRange r → in_range r a ≡ true → a < 4294967296
  range_below r lawful is =
      let to = inside_to r.base r.size a is in
      let within = lawful.within in
      omega (arith, to, within)

  pub memory_below : IsLawful board → in_range board.main a || any_below (in_area board a) (length board.areas.items) ≡ true → a < 4294967296
  memory_below lawful is =
      elim (either (in_range board.main a) (any_below (in_area board a) (length board.areas.items)) is) [
        | inl main ↦ range_below board.main (lawful.ranges 0 no_area (omega arith)) main
        | inr area ↦
            let found = any_found (in_area board a) (length board.areas.items) area in
            let below = found.1 in
            range_below (slice_index_or board.areas.items found.0 no_area)
            (lawful.ranges (suc (suc (suc found.0))) no_area (omega (arith, below))) found.2
      ]

-- ---- segments and sections

module _ (v : PlainView) (board : Board) (layout : layout_fault v board ≡ None) where
  areas_hold : first_below (no_area_fault v board) (length v.segments) ≡ None
  areas_hold =
      let places = (both_none (places_fault v board) (too_many_fault v board) layout).0 in
      let second = (both_none (first_below (spm_overlap_fault v board) (length v.segments)) _ places).1 in
      let third = (both_none (first_below (patch_overlap_fault v board) (length v.segments)) _ second).1 in
      let fourth = (both_none (patch_far_fault v board) _ third).1 in
      let fifth = (both_none (spm_overlaps_patch_fault board) _ fourth).1 in
      (both_none (spm_at_zero_fault board) _ fifth).1

  segment_mapped : (g a : ℕ) → g < length v.segments → (segment_at v g).vaddr ≤ a → a < (segment_at v g).vaddr + (segment_at v g).memsz → mapping.is_mapped (mapped_ranges board) a ≡ true
  segment_mapped g a below from to =
      let s = segment_at v g in
      let empty = s.memsz == 0 in
      let main = segment_lies_in s board.main in
      let area = any_below (lies_in_area board s) (length board.areas.items) in
      let held =
      holds (empty || main || area) (NoArea s.index) (none_at (no_area_fault v board) (length v.segments) g below areas_hold) in
      elim (either (empty || main) area held) [
        | inl first ↦ elim (either empty main first) [
          | inl none ↦ let is = eqb-true s.memsz 0 none in absurd (omega (arith, is, from, to))
          | inr lies ↦
              main_mapped board a (lies_byte board.main.base board.main.size s.vaddr s.memsz a lies from to)
        ]
        | inr some ↦
            let found = any_found (lies_in_area board s) (length board.areas.items) some in
            let r : Range = slice_index_or board.areas.items found.0 no_area in
            area_mapped board a found.0 found.1 (lies_byte r.base r.size s.vaddr s.memsz a found.2 from to)
      ]

  -- each byte of a loaded section is mapped
  pub section_mapped : (k a : ℕ) → is_loaded v k ≡ true → (section_at v k).addr ≤ a → a < (section_at v k).addr + (section_at v k).size → mapping.is_mapped (mapped_ranges board) a ≡ true
  section_mapped k a loaded from to =
      let found = loaded_found v k loaded in
      let facts = found.1 in
      let starts = facts.starts in
      let ends = facts.ends in
      segment_mapped found.0 a facts.below (omega (arith, starts, from)) (omega (arith, ends, to))

-- a loaded section ends below 2 ^ 32
pub section_ends : (v : PlainView) (k : ℕ) → AreLoadable v.segments → is_loaded v k ≡ true → (section_at v k).addr + (section_at v k).size < 4294967296
section_ends v k loadable loaded =
    let found = loaded_found v k loaded in
    let facts = found.1 in
    let segment : IsLoadable (segment_at v found.0) = loadable found.0 no_segment facts.below in
    let ends = facts.ends in
    let last = segment.ends in
    omega (arith, ends, last)

-- ---- fixed memory

pub record IsFixedMemory (v : PlainView) (board : Board) (a : ℕ) : Type 0 where
  pub memory : in_range board.main a || any_below (in_area board a) (length board.areas.items) ≡ true
  pub spm : in_range board.spm a ≡ false
  pub patch : in_range board.patch a ≡ false
  pub no_code : any_below (in_code_range v a) (length v.sections) ≡ false
  pub no_object : any_below (in_object v board a) (length v.symbols) ≡ false
  pub unchanged : any_below (holds_changed_byte v a) (length v.segments) ≡ false

pub fixed_parts : (v : PlainView) (board : Board) (a : ℕ) → is_fixed_memory v board a ≡ true → IsFixedMemory v board a
fixed_parts v board a fixed =
    let memory = in_range board.main a || any_below (in_area board a) (length board.areas.items) in
    let spm = in_range board.spm a in
    let patch = in_range board.patch a in
    let code = any_below (in_code_range v a) (length v.sections) in
    let object = any_below (in_object v board a) (length v.symbols) in
    let changed = any_below (holds_changed_byte v a) (length v.segments) in
    let five = both (memory && not spm && not patch && not code && not object) (not changed) fixed in
    let four = both (memory && not spm && not patch && not code) (not object) five.0 in
    let three = both (memory && not spm && not patch) (not code) four.0 in
    let two = both (memory && not spm) (not patch) three.0 in
    let one = both memory (not spm) two.0 in
    record {
      memory = one.0;
      spm = not_true spm one.1;
      patch = not_true patch two.1;
      no_code = not_true code three.1;
      no_object = not_true object four.1;
      unchanged = not_true changed five.1;
    }

in_by_symbol : (v : PlainView) (board : Board) (a home n : ℕ) (s : PlainSymbol) → IsOf v home n s → is_movable v board home n && inside home n a ≡ true → has_range v s && is_movable v board s.value s.size && inside s.value s.size a ≡ true
in_by_symbol v board a home n s of passes = rw (of.test, of.value, of.size) passes

-- no byte of an object that may move is of it
pub object_not_fixed : (v : PlainView) (board : Board) (a home n : ℕ) → is_movable v board home n ≡ true → inside home n a ≡ true → is_fixed_memory v board a ≡ false
object_not_fixed v board a home n movable is =
    elim (cases_Bool (is_fixed_memory v board a)) [
      | inr other ↦ other
      | inl fixed ↦
          let parts = fixed_parts v board a fixed in
          let moves = movable_parts v board home n movable in
          let found =
          any_at (in_object v board a) (length v.symbols) moves.symbol moves.below
          (in_by_symbol v board a home n (symbol_at v moves.symbol) moves.of (both_pass (is_movable v board home n) (inside home n a) movable is)) in
          absurd (both_ways _ parts.no_object found)
    ]

-- no byte of a code range is
pub code_not_fixed : (v : PlainView) (board : Board) (a k : ℕ) → k < length v.sections → is_code_range v k ≡ true → inside (section_at v k).addr (section_at v k).size a ≡ true → is_fixed_memory v board a ≡ false
code_not_fixed v board a k below range is =
    elim (cases_Bool (is_fixed_memory v board a)) [
      | inr other ↦ other
      | inl fixed ↦
          let parts = fixed_parts v board a fixed in
          absurd (both_ways _ parts.no_code
          (any_at (in_code_range v a) (length v.sections) k below
          (both_pass (is_code_range v k) (inside (section_at v k).addr (section_at v k).size a) range is)))
    ]
