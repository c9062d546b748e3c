-- The homes of the objects of a graph.
use Rattle.std.proofs.Common.{◌≡◌, ◌∙◌, ℕ, ◌+◌, ◌-◌, ◌<◌, ◌≤◌, true, false, not, Bool, length, None, refl, arith}
use Rattle.std.proofs.lemmas.Bool.Decides.{nat_tests}
use Rattle.list_checks.specs.First.{unless, first_below}
use Rattle.list_checks.proofs.FirstLemmas.{both_none, none_at}
use Rattle.list_checks.specs.Tests.{lies_in, ranges_overlap}
use Rattle.elf_reader.specs.File.{PlainView}
use Rattle.elf_reader.specs.Loaded.{segment_at}
use Rattle.elf_reader.proofs.LoadedLemmas.{loaded_found}
use Rattle.board_config.specs.declared.board.Board.{Board}
use Rattle.loaded_file.specs.Records.{symbol_at}
use Rattle.loaded_file.specs.Ranges.{owner_of}
use Rattle.object_graph.specs.LayoutFaults.{segment_overlaps, spm_overlap_fault, patch_overlap_fault, patch_far_fault, spm_overlaps_patch_fault, spm_at_zero_fault, no_area_fault, places_fault, too_many_fault, layout_fault}
use Rattle.object_graph.specs.declared.fault.GraphFault.{GraphFault}
use Rattle.object_graph.specs.declared.fault.GraphFault.TheVariants.{SpmOverlap, SpmAtZero}
use Rattle.object_graph.specs.Graphs.{IsObjects}
use Rattle.object_graph.specs.declared.parts.Graph.{Graph}
use Rattle.object_graph.proofs.MovableLemmas.{movable_parts}
use Rattle.cell_values.specs.Objects.{object_of}
use Rattle.cell_values.proofs.GraphObjects.{object_below, object_moves}

-- ---- off the scratchpad

holds : (b : Bool) (fault : GraphFault) → unless b fault ≡ None → b ≡ true
holds true fault none = refl
holds false fault none = absurd (cc)

-- no segment meets the scratchpad
no_overlap : (v : PlainView) (board : Board) (g : ℕ) → layout_fault v board ≡ None → g < length v.segments → not (segment_overlaps (segment_at v g) board.spm) ≡ true
no_overlap v board g layout below =
    let places = (both_none (places_fault v board) (too_many_fault v board) layout).0 in
    let first = (both_none (first_below (spm_overlap_fault v board) (length v.segments)) _ places).0 in
    holds (not (segment_overlaps (segment_at v g) board.spm)) (SpmOverlap (segment_at v g).index) (none_at (spm_overlap_fault v board) (length v.segments) g below first)

-- and the scratchpad begins behind address 0
pub scratchpad_placed : (v : PlainView) (board : Board) → layout_fault v board ≡ None → 16 ≤ board.spm.base
scratchpad_placed v board layout =
    let places = (both_none (places_fault v board) (too_many_fault v board) layout).0 in
    let second = (both_none (first_below (spm_overlap_fault v board) (length v.segments)) _ places).1 in
    let third = (both_none (first_below (patch_overlap_fault v board) (length v.segments)) _ second).1 in
    let fourth = (both_none (patch_far_fault v board) _ third).1 in
    let fifth = (both_none (spm_overlaps_patch_fault board) _ fourth).1 in
    let none = (both_none (spm_at_zero_fault board) (first_below (no_area_fault v board) (length v.segments)) fifth).0 in
    let tested = holds _ SpmAtZero none in
    grind (arith, nat_tests, tested)

lies_from : (base total start size : ℕ) → lies_in base total start size ≡ true → base ≤ start
lies_from base total start size lies = grind (arith, nat_tests, lies)

lies_to : (base total start size : ℕ) → lies_in base total start size ≡ true → start + size ≤ base + total
lies_to base total start size lies = grind (arith, nat_tests, lies)

no_shared : (a n b m i j : ℕ) → not (ranges_overlap a n b m) ≡ true → i < n → j < m → a + i ≡ b + j → ⊥
no_shared a n b m i j none first second same = grind (arith, nat_tests, none, first, second, same)

within_segment : (a n home i : ℕ) → a ≤ home + i → home + i < a + n → (k : ℕ) × ((k < n) × (a + k ≡ home + i))
within_segment a n home i from to = (home + i - a, (omega (arith, from, to), omega (arith, from)))

pub home_off_scratchpad : (v : PlainView) (board : Board) (g : Graph) (o i j : ℕ) → layout_fault v board ≡ None → IsObjects v board g.objects.items → i < (object_of g o).size → j < board.spm.size → (object_of g o).home + i ≡ board.spm.base + j → ⊥
home_off_scratchpad v board g o i j layout is inside inside_spm same =
    let home : ℕ = (object_of g o).home in
    let n : ℕ = (object_of g o).size in
    let moves = movable_parts v board home n (object_moves v board g o is (object_below g o i inside)) in
    let s = symbol_at v moves.symbol in
    let range = moves.of.range in
    let from = lies_from (owner_of v s).addr (owner_of v s).size s.value s.size range.lies in
    let to = lies_to (owner_of v s).addr (owner_of v s).size s.value s.size range.lies in
    let value = moves.of.value in
    let size = moves.of.size in
    let found = loaded_found v s.section range.loaded in
    let starts = found.1.starts in
    let ends = found.1.ends in
    let t = segment_at v found.0 in
    let there = within_segment t.vaddr t.memsz home i (omega (arith, starts, from, value)) (omega (arith, ends, to, value, size, inside)) in
    no_shared t.vaddr t.memsz board.spm.base board.spm.size there.0 j (no_overlap v board found.0 layout found.1.below) there.1.0 inside_spm (there.1.1 ∙ same)
