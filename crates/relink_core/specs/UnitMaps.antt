-- Where the units of a program stand in a result: at home, in the copies of their blocks, and displaced into stubs.
use Rattle.std.specs.Prelude.{◌≡◌, ◌⊎◌, ◌↔◌, ℕ, ◌<◌, true, false, List, [], length, slice_index_or, Option, Some, None, Contains}
use Rattle.std.specs.List.{AllPairs, filter_map}
use Rattle.board_config.specs.declared.board.Board.{Board}
use Rattle.object_graph.specs.declared.parts.Graph.{Graph}
use Rattle.code_blocks.specs.declared.parts.Code.{Code}
use Rattle.region_former.specs.declared.table.RegionTable.{RegionTable}
use Rattle.block_splitter.specs.Forms.{holds_block}
use Rattle.block_splitter.specs.Copies.{address_of, place_of}
use Rattle.placement_programme.specs.declared.variables.VarName.{VarName}
use Rattle.placement_programme.specs.declared.variables.VarName.TheVariants.{StaticData, StaticCode, OverlayData, OverlayCode, KeptData}
use Rattle.patch_code.specs.Serving.{ServingStub}
use Rattle.patch_code.specs.Overlay.{OverlayPlan}
use Rattle.patch_code.specs.Served.{body_at}
use Rattle.result_laws.specs.LiveUnits.{StandsThere}
use Rattle.result_laws.specs.ChosenPlacement.{ChosenPlacement, piece_of, copy_in}
use Rattle.result_laws.specs.PlacedView.{is_padded, IsUncopied, Serves}
use Rattle.relink_core.specs.Chosen.{names_of}
use Rattle.relink_core.specs.Placed.{Taken, MovesItems}
use Rattle.relink_core.specs.declared.unit_forms.UnitAt.{UnitAt}

-- ---- the regions of pieces

-- the region in which the copy of a range of blocks stands; 0 where it stands throughout
abbrev pub region_named : VarName → Option ℕ
region_named (StaticData object) = None
region_named (StaticCode first last) = Some 0
region_named (OverlayData region object) = None
region_named (OverlayCode region first last) = Some region
region_named (KeptData pair object) = None

-- those of the ranges that are named, in order
abbrev pub regions_named : List VarName → List ℕ
regions_named names = filter_map region_named names

abbrev pub piece_region : Board → ChosenPlacement → ℕ → ℕ
piece_region board pl n = slice_index_or (regions_named (names_of board pl.programme pl.choice)) n 0

-- ---- forms

-- a unit stands at home in every region
pub record IsAtHome (c : Code) (x : UnitAt) : Type 0 where
  pub block : ℕ
  pub unit : ℕ
  pub there : StandsThere c x.home block unit
  pub at : x.at ≡ x.home
  pub region : x.region ≡ 0

-- A unit of the code stands somewhere, in one region or in every one: at home, where no pad is; at its place in the copy of
-- its block; and displaced into the body of its block's stub, where the block has no copy
pub data IsUnitAt (board : Board) (c : Code) (g : Graph) (pl : ChosenPlacement) (plan : OverlayPlan) (x : UnitAt) : Type 0 where
  AtHome : IsAtHome c x → is_padded c pl x.home ≡ false → IsUnitAt board c g pl plan x
  InCopy : (n b k : ℕ) → n < length pl.pieces → holds_block b (piece_of pl n).range ≡ true → StandsThere c x.home b k
      → x.at ≡ address_of (copy_in c g pl n) (place_of (copy_in c g pl n) b k) → x.region ≡ piece_region board pl n
      → IsUnitAt board c g pl plan x
  InStub : (b : ℕ) (stub : ServingStub) → StandsThere c x.home b 0 → Contains plan.stubs stub → Serves c g pl (body_at plan stub) b stub
      → IsUncopied pl b → x.at ≡ body_at plan stub → x.region ≡ 0 → IsUnitAt board c g pl plan x

-- ---- lists of them

-- one form comes before another: by where it stands, then by region, then by the unit's own address
abbrev pub StandsBefore : UnitAt → UnitAt → Type 0
StandsBefore x y =
    (x.at < y.at) ⊎ ((x.at ≡ y.at) × ((x.region < y.region) ⊎ ((x.region ≡ y.region) × (x.home < y.home))))

-- a list has each of some forms once, in order
pub record AreUnitsAt (is : UnitAt → Type 0) (units : List UnitAt) : Type 0 where
  pub each : (x : UnitAt) → Contains units x ↔ is x
  pub ordered : AllPairs StandsBefore units

-- ---- a result with the forms of its units

-- items stand in the scratchpad in a result, and these are the forms of units in just this one: both are for one placement and
-- one plan of the patch range
pub record MovesWithUnits (file : List ℕ) (board : Board) (g : Graph) (c : Code) (t : RegionTable) (taken : Taken) (out : List ℕ) (units : List UnitAt) : Type 0 where
  pub moved : MovesItems file board g c t taken out
  pub forms : AreUnitsAt (IsUnitAt board c g moved.pl moved.shows.plan) units

-- where nothing is taken and nothing is overlaid, the result is the file, and units stand at home alone
pub data MakesWithUnits (file : List ℕ) (board : Board) (g : Graph) (c : Code) (t : RegionTable) (taken : Taken) (out : List ℕ) (units : List UnitAt) : Type 0 where
  hands_on : taken.on ≡ false → taken.items ≡ [] → out ≡ file → AreUnitsAt (IsAtHome c) units
      → MakesWithUnits file board g c t taken out units
  moves : (taken.on ≡ true) ⊎ (0 < length taken.items) → MovesWithUnits file board g c t taken out units
      → MakesWithUnits file board g c t taken out units
