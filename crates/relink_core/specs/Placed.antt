-- A result realises what is taken of a programme: which file it is, and where objects and code stand.
use Rattle.std.specs.Prelude.{◌≡◌, ◌⊎◌, ℕ, ◌<◌, Bool, true, false, List, [], length}
use Rattle.elf_reader.specs.File.{view_in}
use Rattle.board_config.specs.declared.board.Board.{Board}
use Rattle.object_graph.specs.declared.parts.Graph.{Graph}
use Rattle.code_blocks.specs.declared.parts.Code.{Code}
use Rattle.region_former.specs.declared.table.RegionTable.{RegionTable}
use Rattle.placement_programme.specs.Plain.{PlainProgramme, PlainChoice}
use Rattle.relocator.specs.declared.items.Item.{Item}
use Rattle.relocator.specs.Slots.{items_of}
use Rattle.patch_code.specs.Overlay.{OverlayPlan}
use Rattle.result_laws.specs.PlacementLaws.{regions_on}
use Rattle.result_laws.specs.ChosenPlacement.{ChosenPlacement, IsChosenPlacement}
use Rattle.result_laws.specs.PlacedView.{IsPlacedView}
use Rattle.relink_core.specs.PlanLaws.{borders_on}
use Rattle.relink_core.specs.Sides.{blocks_on}
use Rattle.relink_core.specs.Written.{IsWrittenFor}

-- ---- what is taken

-- the side of a choice, and what it takes: names and spans, in order
pub record Taken : Type 0 where
  pub on : Bool
  pub items : List Item

abbrev pub taken_of : PlainProgramme → PlainChoice → Taken
taken_of p choice = record { on = choice.on; items = items_of p choice }

-- ---- which file it is

-- a placement is of a choice that takes this, with the regions of its side
pub record IsPlacementFor (t : RegionTable) (taken : Taken) (pl : ChosenPlacement) : Type 0 where
  pub items : items_of pl.programme pl.choice ≡ taken.items
  pub side : pl.choice.on ≡ taken.on
  pub count : pl.count ≡ regions_on taken.on t
  pub regions : pl.regions ≡ blocks_on taken.on t
  pub borders : pl.borders ≡ borders_on taken.on t

-- the result of a file in which items stand in the scratchpad
pub record MovesItems (file : List ℕ) (board : Board) (g : Graph) (c : Code) (t : RegionTable) (taken : Taken) (out : List ℕ) : Type 0 where
  pub pl : ChosenPlacement
  pub placed : IsPlacementFor t taken pl
  pub placement : IsChosenPlacement board (view_in file) g c pl
  pub shows : IsPlacedView (view_in file) (view_in out) board g c pl
  pub written : IsWrittenFor (view_in file) board g pl shows.words out

-- one for this placement, and this plan of the patch range
pub record MovesBy (file : List ℕ) (board : Board) (g : Graph) (c : Code) (t : RegionTable) (taken : Taken) (pl : ChosenPlacement) (plan : OverlayPlan) (out : List ℕ) : Type 0 where
  pub moved : MovesItems file board g c t taken out
  pub pl_is : moved.pl ≡ pl
  pub plan_is : moved.shows.plan ≡ plan

-- the result of a file for what is taken. Where nothing is, and nothing is overlaid, it is the file
pub data Realises (file : List ℕ) (board : Board) (g : Graph) (c : Code) (t : RegionTable) (taken : Taken) (out : List ℕ) : Type 0 where
  hands_on : taken.on ≡ false → taken.items ≡ [] → out ≡ file → Realises file board g c t taken out
  moves : (taken.on ≡ true) ⊎ (0 < length taken.items) → MovesItems file board g c t taken out → Realises file board g c t taken out
