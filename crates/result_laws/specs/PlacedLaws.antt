-- What holds of a result for a choice of what stands in the scratchpad.
use Rattle.std.specs.Prelude.{ℕ, List}
use Rattle.elf_reader.specs.File.{view_in}
use Rattle.elf_reader.specs.Image.{image_of}
use Rattle.board_config.specs.declared.board.Board.{Board}
use Rattle.object_graph.specs.declared.parts.Graph.{Graph}
use Rattle.code_blocks.specs.Blocks.{IsCode}
use Rattle.code_blocks.specs.declared.parts.Code.{Code}
use Rattle.simulation.specs.Setups.{Setup}
use Rattle.result_laws.specs.HomeLaws.{IsAccepted}
use Rattle.result_laws.specs.ResultLaws.{KeepsRuns}
use Rattle.result_laws.specs.OverlaySetup.{overlay_setup}
use Rattle.result_laws.specs.ChosenPlacement.{ChosenPlacement, slots_in, images_in, IsChosenPlacement}
use Rattle.result_laws.specs.PlacedView.{IsPlacedView}

-- an accepted file with its code, a choice that can be laid out, and a result for it
pub record IsPlacedResult (file out : List ℕ) (board : Board) (g : Graph) (c : Code) (pl : ChosenPlacement) : Type 0 where
  pub accepted : IsAccepted file board g
  pub code : IsCode (view_in file) c
  pub placement : IsChosenPlacement board (view_in file) g c pl
  pub view : IsPlacedView (view_in file) (view_in out) board g c pl

-- where objects and code stand in each region of the result
abbrev pub setup_of : List ℕ → List ℕ → Board → Graph → ChosenPlacement → Setup
setup_of file out board g pl =
    overlay_setup (view_in file) board g (slots_in board pl) (images_in pl) (image_of (view_in out).segments)

-- the result keeps the meaning of its program
abbrev pub PlacedResultKeeps : Type 0
PlacedResultKeeps =
    (file out : List ℕ) (board : Board) (g : Graph) (c : Code) (pl : ChosenPlacement) → IsPlacedResult file out board g c pl
    → KeepsRuns file out board
