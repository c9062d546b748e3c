-- What is asked of an analysis, a programme and a choice that are realised.
use Rattle.std.specs.Prelude.{◌≡◌, ℕ, Bool, true, false, List, [], ◌∷◌, None}
use Rattle.elf_reader.specs.File.{IsFile, view_in}
use Rattle.elf_reader.specs.Loadable.{AreBytes}
use Rattle.board_config.specs.Board.{IsLawful}
use Rattle.board_config.specs.declared.board.Board.{Board}
use Rattle.object_graph.specs.Graphs.{IsGraph}
use Rattle.code_blocks.specs.Blocks.{IsCode}
use Rattle.dataflow.specs.Tables.{IsTableOf}
use Rattle.block_splitter.specs.Pieces.{ArePieces}
use Rattle.result_laws.specs.Absolute.{IsAbsolute}
use Rattle.result_laws.specs.ResultLaws.{KeepsRuns}
use Rattle.relink_core.specs.declared.analysis.Analysis.{Analysis}
use Rattle.relink_core.specs.Faults.{analyse_fault}
use Rattle.relink_core.specs.Keeps.{KeepsPaired}
use Rattle.relink_core.specs.Placed.{Taken}
use Rattle.relink_core.specs.Regions.{AreRegions}
use Rattle.relocator.specs.declared.items.Item.{Item}

-- ---- the analysis

-- the analysis is of the file for the board, and no check failed: its graph, its code, the registers that are live
-- where blocks begin, its regions, and the pieces of code that may be copied
pub record IsAnalysisOf (file : List ℕ) (board : Board) (a : Analysis) : Type 0 where
  pub bytes : AreBytes file
  pub is_file : IsFile file a.view
  pub passes : analyse_fault file board ≡ None
  pub lawful : IsLawful board
  pub graph : IsGraph (view_in file) board a.graph
  pub code : IsCode (view_in file) a.code
  pub live : IsTableOf a.code a.live
  pub regions : AreRegions (view_in file) a.code board a.regions
  pub pieces : ArePieces a.code a.graph a.pieces.items

-- ---- the meaning

-- a result keeps the meaning of its file. Where nothing is taken and nothing is overlaid, the words of code that add to
-- their own address stay, and only paired runs are spoken of: every run, if the code makes addresses by absolute
-- relocations alone
abbrev pub KeepsFor : Bool → List Item → List ℕ → List ℕ → Board → Type 0
KeepsFor false [] file out board =
    KeepsPaired file out board × (IsAbsolute (view_in file) → KeepsRuns file out board)
KeepsFor false (i ∷ is) file out board = KeepsRuns file out board
KeepsFor true items file out board = KeepsRuns file out board

abbrev pub KeepsMeaning : Taken → List ℕ → List ℕ → Board → Type 0
KeepsMeaning taken file out board = KeepsFor taken.on taken.items file out board
