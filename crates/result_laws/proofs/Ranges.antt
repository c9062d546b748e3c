-- The scratchpad and the patch range: they are mapped, and share no byte.
use Rattle.std.proofs.Common.{◌≡◌, ℕ, ◌+◌, ◌<◌, ◌≤◌, true, false, arith, not, length, None}
use Rattle.std.proofs.lemmas.Bool.{both_ways}
use Rattle.std.proofs.lemmas.Bool.Decides.{nat_tests}
use Rattle.list_checks.proofs.TestLemmas.{not_true}
use Rattle.elf_reader.specs.File.{PlainView}
use Rattle.board_config.specs.Board.{mapped_ranges, IsLawfulRange, IsLawful}
use Rattle.board_config.specs.declared.board.Board.{Board}
use Rattle.board_config.specs.declared.board.Range.{Range}
use Rattle.flat_machine.specs.Mapping as mapping
use Rattle.object_graph.specs.Sites.{in_range, no_area}
use Rattle.code_blocks.proofs.LeaderLemmas.{left_passes, right_passes}
use Rattle.result_laws.proofs.Loaded.{refuted}
use Rattle.list_checks.specs.Tests.{ranges_overlap}
use Rattle.list_checks.specs.First.{first_below}
use Rattle.list_checks.proofs.FirstLemmas.{both_none, holds}
use Rattle.object_graph.specs.LayoutFaults.{spm_overlap_fault, patch_overlap_fault, patch_far_fault, spm_overlaps_patch_fault, places_fault, too_many_fault, layout_fault}
use Rattle.object_graph.specs.declared.fault.GraphFault.TheVariants.{SpmOverlapsPatch}

pub lies_in_range : (r : Range) (base size at i : ℕ) → r.base ≤ at → at + size ≤ r.base + r.size → i < size → in_range r (at + i) ≡ true
lies_in_range r base size at i from to below = grind (arith, nat_tests, from, to, below)

-- the scratchpad is mapped
pub spm_mapped : (board : Board) (a : ℕ) → in_range board.spm a ≡ true → mapping.is_mapped (mapped_ranges board) a ≡ true
spm_mapped board a is =
    right_passes (mapping.in_range board.main a) _ (left_passes (mapping.in_range board.spm a) _ is)

-- so is the patch range
pub patch_mapped : (board : Board) (a : ℕ) → in_range board.patch a ≡ true → mapping.is_mapped (mapped_ranges board) a ≡ true
patch_mapped board a is =
    right_passes (mapping.in_range board.main a) _ (right_passes (mapping.in_range board.spm a) _ (left_passes (mapping.in_range board.patch a) _ is))

pub patch_lawful : (board : Board) → IsLawful board → IsLawfulRange board.patch
patch_lawful board lawful = lawful.ranges 2 no_area (omega arith)

pub spm_lawful : (board : Board) → IsLawful board → IsLawfulRange board.spm
spm_lawful board lawful = lawful.ranges 1 no_area (omega arith)

in_two : (r q : Range) (a : ℕ) → in_range r a ≡ true → in_range q a ≡ true → ranges_overlap r.base r.size q.base q.size ≡ true
in_two r q a first second = grind (arith, nat_tests, first, second)

-- no byte of the patch range is one of the scratchpad
pub patch_off_spm : (v : PlainView) (board : Board) (a : ℕ) → layout_fault v board ≡ None → in_range board.patch a ≡ true → in_range board.spm a ≡ false
patch_off_spm v board a layout is =
    let places = (both_none (places_fault v board) (too_many_fault v board) layout).0 in
    let second = (both_none (first_below (spm_overlap_fault v board) (length v.segments)) _ places).1 in
    let third = (both_none (first_below (patch_overlap_fault v board) (length v.segments)) _ second).1 in
    let fourth = (both_none (patch_far_fault v board) _ third).1 in
    let fifth = (both_none (spm_overlaps_patch_fault board) _ fourth).0 in
    let apart = not_true (ranges_overlap board.spm.base board.spm.size board.patch.base board.patch.size) (holds (not (ranges_overlap board.spm.base board.spm.size board.patch.base board.patch.size)) SpmOverlapsPatch fifth) in
    refuted (in_range board.spm a) (λ there. both_ways _ apart (in_two board.spm board.patch a there is))
