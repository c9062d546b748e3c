-- Images that lie in the patch range meet neither the scratchpad nor an object at home.
use Rattle.std.proofs.Common.{◌≡◌, ℕ, ◌+◌, ◌-◌, ◌<◌, ◌≤◌, true, not, List, length, None, arith}
use Rattle.std.proofs.lemmas.Bool.Decides.{nat_tests}
use Rattle.list_checks.specs.First.{first_below}
use Rattle.list_checks.proofs.FirstLemmas.{both_none, none_at, holds}
use Rattle.list_checks.specs.Tests.{lies_in, ranges_overlap}
use Rattle.elf_reader.specs.File.{PlainView}
use Rattle.elf_reader.specs.Loaded.{segment_at}
use Rattle.elf_reader.proofs.LoadedLemmas.{loaded_found}
use Rattle.board_config.specs.declared.board.Board.{Board}
use Rattle.loaded_file.specs.Records.{symbol_at}
use Rattle.loaded_file.specs.Ranges.{owner_of}
use Rattle.object_graph.specs.LayoutFaults.{segment_overlaps, spm_overlap_fault, patch_overlap_fault, patch_far_fault, spm_overlaps_patch_fault, places_fault, too_many_fault}
use Rattle.object_graph.specs.declared.fault.GraphFault.TheVariants.{PatchOverlap, SpmOverlapsPatch}
use Rattle.object_graph.specs.Sites.{no_area}
use Rattle.object_graph.specs.declared.parts.Graph.{Graph}
use Rattle.object_graph.proofs.MovableLemmas.{movable_parts}
use Rattle.cell_values.specs.Objects.{object_of}
use Rattle.cell_values.proofs.GraphObjects.{object_below, object_moves}
use Rattle.relocator.specs.declared.slots.Slot.{Slot}
use Rattle.relocator.specs.Laws.{IsLaidOut}
use Rattle.result_laws.specs.ChosenJobs.{Images, code_number}
use Rattle.result_laws.specs.Memories.{AreImages}
use Rattle.result_laws.specs.JobLaws.{HaveBytes}
use Rattle.result_laws.specs.PatchLaws.{IsOffPatch, LieInPatch, ImagesLie}

-- ---- the layout

lies_from : (base total start size : ℕ) → lies_in base total start size ≡ true → base ≤ start
lies_from base total start size lies = grind (arith, nat_tests, lies)

lies_to : (base total start size : ℕ) → lies_in base total start size ≡ true → start + size ≤ base + total
lies_to base total start size lies = grind (arith, nat_tests, lies)

no_shared : (a n b m i j : ℕ) → not (ranges_overlap a n b m) ≡ true → i < n → j < m → a + i ≡ b + j → ⊥
no_shared a n b m i j none first second same = grind (arith, nat_tests, none, first, second, same)

module _ (v : PlainView) (board : Board) (g : Graph) (laid : IsLaidOut v board g) where
  -- what is checked of the patch range
  record IsChecked : Type 0 where
    pub segments : first_below (patch_overlap_fault v board) (length v.segments) ≡ None
    pub apart : not (ranges_overlap board.spm.base board.spm.size board.patch.base board.patch.size) ≡ true

  checked : IsChecked
  checked =
      let places = (both_none (places_fault v board) (too_many_fault v board) laid.layout).0 in
      let first = both_none (first_below (spm_overlap_fault v board) (length v.segments)) _ places in
      let second = both_none (first_below (patch_overlap_fault v board) (length v.segments)) _ first.1 in
      let third = both_none (patch_far_fault v board) _ second.1 in
      let fourth = both_none (spm_overlaps_patch_fault board) _ third.1 in
      record {
        segments = second.0;
        apart = holds (not (ranges_overlap board.spm.base board.spm.size board.patch.base board.patch.size)) SpmOverlapsPatch fourth.0;
      }

  off_scratchpad : (i j : ℕ) → i < board.spm.size → j < board.patch.size → board.spm.base + i ≡ board.patch.base + j → ⊥
  off_scratchpad i j first second same =
      no_shared board.spm.base board.spm.size board.patch.base board.patch.size i j checked.apart first second same

  -- no object at home meets it, since no segment does
  off_homes : (o i j : ℕ) → i < (object_of g o).size → j < board.patch.size → (object_of g o).home + i ≡ board.patch.base + j → ⊥
  off_homes o i j inside inside_patch same =
      let home : ℕ = (object_of g o).home in
      let n : ℕ = (object_of g o).size in
      let moves = movable_parts v board home n (object_moves v board g o laid.graph.objects (object_below g o i inside)) in
      let s = symbol_at v moves.symbol in
      let range = moves.of.range in
      let from = lies_from (owner_of v s).addr (owner_of v s).size s.value s.size range.lies in
      let to = lies_to (owner_of v s).addr (owner_of v s).size s.value s.size range.lies in
      let value = moves.of.value in
      let size = moves.of.size in
      let found = loaded_found v s.section range.loaded in
      let starts = found.1.starts in
      let ends = found.1.ends in
      let t = segment_at v found.0 in
      let none = none_at (patch_overlap_fault v board) (length v.segments) found.0 found.1.below checked.segments in
      no_shared t.vaddr t.memsz board.patch.base board.patch.size (home + i - t.vaddr) j
      (holds (not (segment_overlaps t board.patch)) (PatchOverlap t.index) none)
      (omega (arith, ends, to, value, size, inside, starts, from)) inside_patch
      (omega (arith, starts, from, value, same))

  -- ---- images

  module _ (slots : List Slot) (images : Images) (lie : LieInPatch board.patch slots images) where
    patch_ends : board.patch.base + board.patch.size ≤ 4294967295
    patch_ends = (laid.lawful.ranges 2 no_area (omega arith)).within

    images_are : AreImages board.spm g slots images
    images_are = record {
      fit = lie.fit;
      off_scratchpad = λ k i j of inside inside_spm same.
          let from = lie.from k of in
          let to = lie.to k of in
          off_scratchpad j (images.at (code_number slots k) + i - board.patch.base) inside_spm (omega (arith, from, to, inside)) (omega (arith, from, same));
      off_homes = λ k i o j of inside inside_home same.
          let from = lie.from k of in
          let to = lie.to k of in
          off_homes o j (images.at (code_number slots k) + i - board.patch.base) inside_home (omega (arith, from, to, inside)) (omega (arith, from, same));
    }

    bytes_are : HaveBytes slots images
    bytes_are = record {
      some = lie.some;
      ends = λ k of. let to = lie.to k of in let ends = patch_ends in omega (arith, to, ends);
    }

    off_patch : IsOffPatch board.spm board.patch g slots images
    off_patch = record { scratchpad = off_scratchpad; homes = off_homes; images_behind = lie.from }

    pub images_lie : AreImages board.spm g slots images × HaveBytes slots images × IsOffPatch board.spm board.patch g slots images
    images_lie = (images_are, bytes_are, off_patch)

pub images_lie_so : ImagesLie
images_lie_so v board g slots images laid lie = images_lie v board g laid slots images lie
