-- What is asked of a plan of the patch range for a choice, and that it fits there.
use Rattle.std.specs.Prelude.{◌≡◌, ℕ, ◌+◌, ◌≤◌, Bool, true, false, List, [], map}
use Rattle.std.specs.List.{sum_by}
use Rattle.elf_reader.specs.File.{PlainView, view_in}
use Rattle.board_config.specs.declared.board.Board.{Board}
use Rattle.object_graph.specs.declared.parts.Graph.{Graph}
use Rattle.placement_programme.specs.Rows.{start_bytes}
use Rattle.code_blocks.specs.Blocks.{IsCode}
use Rattle.code_blocks.specs.declared.parts.Code.{Code}
use Rattle.region_former.specs.declared.table.RegionTable.{RegionTable}
use Rattle.block_splitter.specs.declared.piece.Piece.{Piece}
use Rattle.block_splitter.specs.Pieces.{ArePieces}
use Rattle.patch_code.specs.Start.{start_at, start_bytes as stub_bytes}
use Rattle.patch_code.specs.Homes.{HaveHomes}
use Rattle.patch_code.specs.Layout.{image_places}
use Rattle.patch_code.specs.Serving.{serving_home}
use Rattle.patch_code.specs.Overlay.{OverlayPlan, switching, overlay_images_at}
use Rattle.result_laws.specs.ChosenJobs.{IsPlanOf}
use Rattle.result_laws.specs.HomeLaws.{IsAccepted}
use Rattle.result_laws.specs.Choices.{side_layout, IsChoiceFor}
use Rattle.result_laws.specs.ChosenPlacement.{ChosenPlacement, slots_in, images_in, IsChosenPlacement}
use Rattle.result_laws.specs.PlacementLaws.{regions_on}
use Rattle.result_laws.specs.PlacedView.{AreStubsOf, IsPlanFor, start_plan, image_in, words_in}
use Rattle.relink_core.specs.Serving.{served_blocks}
use Rattle.relink_core.specs.Counting.{served_size}

-- by which blocks control enters the regions of a side. Without overlay there is no region
abbrev pub borders_on : Bool → RegionTable → List Bool
borders_on false t = []
borders_on true t = t.border.items

-- a placement of a feasible choice of a program's side, in an accepted file
pub record IsPlacementOf (file : List ℕ) (board : Board) (g : Graph) (c : Code) (t : RegionTable) (pieces : List Piece) (pl : ChosenPlacement) : Type 0 where
  pub accepted : IsAccepted file board g
  pub code : IsCode (view_in file) c
  pub pieces_are : ArePieces c g pieces
  pub choice_is : IsChoiceFor board g c t pieces pl.programme pl.choice
  pub placement : IsChosenPlacement board (view_in file) g c pl
  pub count_is : pl.count ≡ regions_on pl.choice.on t
  pub borders_are : pl.borders ≡ borders_on pl.choice.on t
  pub few : t.count ≤ 8
  pub least : start_bytes (side_layout false board g c t) ≤ board.patch.size

-- a plan has the jobs and the images of a placement, and stubs for its entries, no two for one home
pub record IsPlanned (v : PlainView) (board : Board) (g : Graph) (c : Code) (pl : ChosenPlacement) (plan : OverlayPlan) : Type 0 where
  pub start : plan.start ≡ start_plan v board g pl
  pub jobs : IsPlanOf g (images_in pl) (slots_in board pl) pl.count (switching plan)
  pub twins : plan.twins ≡ board.twins
  pub stubs : AreStubsOf c g pl plan
  pub apart : HaveHomes serving_home plan.stubs
  pub images : plan.images ≡ map words_in pl.pieces
  pub places : map image_in pl.pieces ≡ image_places (overlay_images_at plan) plan.images

-- such a plan lies in the patch range and can stand there: it is the plan of the placement
abbrev pub PlansFit : Type 0
PlansFit =
    (file : List ℕ) (board : Board) (g : Graph) (c : Code) (t : RegionTable) (pieces : List Piece) (pl : ChosenPlacement) (plan : OverlayPlan)
    → IsPlacementOf file board g c t pieces pl → IsPlanned (view_in file) board g c pl plan
    → IsPlanFor (view_in file) board g c pl plan

-- the stubs of all blocks that are served have room behind the start stub, one behind the other
abbrev pub StubsHaveRoom : Type 0
StubsHaveRoom =
    (file : List ℕ) (board : Board) (g : Graph) (c : Code) (t : RegionTable) (pieces : List Piece) (pl : ChosenPlacement)
    → IsPlacementOf file board g c t pieces pl
    → start_at (start_plan (view_in file) board g pl) + stub_bytes (start_plan (view_in file) board g pl) + sum_by (served_size c g pl) (served_blocks c pl)
    ≤ board.patch.base + board.patch.size
