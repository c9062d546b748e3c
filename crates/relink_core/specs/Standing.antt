-- What a choice takes, and where it stands in its result.
use Rattle.std.specs.Prelude.{◌≡◌, ℕ, ◌*◌, ◌<◌, ◌≤◌, List, map, length}
use Rattle.std.specs.List.{All}
use Rattle.board_config.specs.declared.board.Board.{Board}
use Rattle.object_graph.specs.declared.parts.Graph.{Graph}
use Rattle.code_blocks.specs.declared.parts.Code.{Code}
use Rattle.region_former.specs.declared.table.RegionTable.{RegionTable}
use Rattle.block_splitter.specs.Pieces.{IsCopied}
use Rattle.placement_programme.specs.Plain.{PlainProgramme, PlainChoice}
use Rattle.placement_programme.specs.Rows.{second_twin}
use Rattle.placement_programme.specs.declared.variables.VarName.{VarName}
use Rattle.placement_programme.specs.declared.variables.VarName.TheVariants.{StaticData, StaticCode, OverlayData, OverlayCode, KeptData}
use Rattle.relocator.specs.declared.places.Places.{Places}
use Rattle.relocator.specs.Placing.{chosen_slots, ArePlaces}
use Rattle.relink_core.specs.declared.placed_copy.PlacedCopy.{PlacedCopy}
use Rattle.relink_core.specs.Copies.{range_in, place_in}
use Rattle.result_laws.specs.PlacementLaws.{regions_on}
use Rattle.relink_core.specs.Chosen.{names_of}
use Rattle.relink_core.specs.Names.{range_bytes, ranges_named}

-- a copy has the words that its range takes, and its range may be copied
abbrev pub HasBytes : Graph → Code → PlacedCopy → Type 0
HasBytes g c x = 4 * length x.code.words.items ≡ range_bytes g c x.range

abbrev pub IsCopiedRange : Graph → Code → PlacedCopy → Type 0
IsCopiedRange g c x = IsCopied c g x.range

-- a name is of an object of the graph, in one of the regions or pairs, or of blocks of the code
abbrev pub IsKnownName : Graph → Code → ℕ → VarName → Type 0
IsKnownName g c count (StaticData object) = object < length g.objects.items
IsKnownName g c count (StaticCode first last) = last < length c.blocks.items
IsKnownName g c count (OverlayData region object) = (1 ≤ region) × ((region ≤ count) × (object < length g.objects.items))
IsKnownName g c count (OverlayCode region first last) = (1 ≤ region) × ((region ≤ count) × (last < length c.blocks.items))
IsKnownName g c count (KeptData pair object) = (1 ≤ pair) × ((second_twin pair ≤ count) × (object < length g.objects.items))

-- The names of what a choice takes, the copies of its ranges, in order, and the table of places: objects that are taken stand
-- in the scratchpad in their regions, any other one at home, and each copy begins at its slot.
pub record AreStanding (board : Board) (g : Graph) (c : Code) (t : RegionTable) (p : PlainProgramme) (choice : PlainChoice) (names : List VarName) (copies : List PlacedCopy) (places : Places) : Type 0 where
  pub taken : names ≡ names_of board p choice
  pub copied : map range_in copies ≡ ranges_named names
  pub at : ArePlaces g (regions_on choice.on t) (chosen_slots board p choice) places
  pub begins : map place_in copies ≡ places.code.items
  pub whole : All (HasBytes g c) copies
  pub pieces : All (IsCopiedRange g c) copies
  pub known : All (IsKnownName g c (regions_on choice.on t)) names
