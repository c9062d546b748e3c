-- Ranges that share no address, and the segments of a file and the patch range.
use Rattle.std.proofs.Common.{◌≡◌, ◌⊎◌, inl, inr, ℕ, ◌+◌, ◌<◌, ◌≤◌, true, false, length, None, arith}
use Rattle.std.proofs.lemmas.Bool.{cases_lt}
use Rattle.std.proofs.lemmas.Bool.Decides.{nat_tests}
use Rattle.list_checks.specs.First.{first_below}
use Rattle.list_checks.specs.Tests.{ranges_overlap}
use Rattle.list_checks.proofs.FirstLemmas.{both_none}
use Rattle.elf_reader.specs.File.{PlainView}
use Rattle.board_config.specs.declared.board.Board.{Board}
use Rattle.object_graph.specs.LayoutFaults.{places_fault, layout_fault, spm_overlap_fault, patch_overlap_fault}

pub ranges_disjoint : (b m c n : ℕ) → ranges_overlap b m c n ≡ false → 0 < m → 0 < n → (b + m ≤ c) ⊎ (c + n ≤ b)
ranges_disjoint b m c n off some some_other =
    elim (cases_lt c (b + m)) [
      | inr before ↦ inl before
      | inl reaches ↦ elim (cases_lt b (c + n)) [
        | inr behind ↦ inr behind
        | inl begins ↦
            let overlapping : ranges_overlap b m c n ≡ true = grind (arith, nat_tests, some, some_other, reaches, begins) in
            absurd (cc (off, overlapping))
      ]
    ]

-- no segment overlaps the patch range
pub segments_off : (v : PlainView) (board : Board) → layout_fault v board ≡ None → first_below (patch_overlap_fault v board) (length v.segments) ≡ None
segments_off v board none =
    let places = (both_none (places_fault v board) _ none).0 in
    let first = both_none (first_below (spm_overlap_fault v board) (length v.segments)) _ places in
    (both_none (first_below (patch_overlap_fault v board) (length v.segments)) _ first.1).0
