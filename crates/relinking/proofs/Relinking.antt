-- A file that is analysed, relinked: what its steps ask of the analysis, and what is told of it.
use Rattle.std.proofs.Common.{◌≡◌, ℕ, List, length, sym, subst}
use Rattle.elf_reader.specs.File.{PlainView}
use Rattle.board_config.specs.declared.board.Board.{Board}
use Rattle.object_graph.specs.declared.parts.Graph.{Graph}
use Rattle.code_blocks.specs.declared.parts.Code.{Code}
use Rattle.block_splitter.specs.declared.piece.Piece.{Piece}
use Rattle.placement_candidates.specs.Stated.{AreSomePieces}
use Rattle.region_former.specs.declared.table.RegionTable.{RegionTable}
use Rattle.placement_programme.specs.Plain.{PlainProgramme}
use Rattle.relinking.proofs.StatedLemmas.{stated_choice, mixed_choice}
use Rattle.relinking.specs.ProgrammeOfRun.{StatesProgramme}
use Rattle.relinking.specs.MixOfRuns.{WeightedInput, StatesTogether}
use Rattle.relinking.specs.Relink.{AreChoicesFor}

-- ---- choices

-- a feasible choice of the programme that a run states is one that can be realised
pub states_choices : (v : PlainView) (board : Board) (g : Graph) (c : Code) (t : RegionTable) (pieces : List Piece) (input : List ℕ) (p : PlainProgramme)
    → AreSomePieces c g pieces → length t.of_block.items ≡ length c.blocks.items → StatesProgramme v board g c t pieces input p → AreChoicesFor board g c t pieces p
states_choices v board g c t pieces input p are one_each states =
    subst (AreChoicesFor board g c t pieces) (sym states.programme_is) (stated_choice board g c t pieces states.overlaid are one_each states.are_overlaid states.transitions)

-- and so is one of what several runs state together
pub together_choices : (v : PlainView) (board : Board) (g : Graph) (c : Code) (t : RegionTable) (pieces : List Piece) (inputs : List WeightedInput) (p : PlainProgramme)
    → AreSomePieces c g pieces → length t.of_block.items ≡ length c.blocks.items → StatesTogether v board g c t pieces inputs p → AreChoicesFor board g c t pieces p
together_choices v board g c t pieces inputs p are one_each states =
    subst (AreChoicesFor board g c t pieces) (sym states.programme_is) (mixed_choice board g c t pieces states.overlaid are one_each states.are_overlaid states.runs)
