-- What a choice takes, as the lines of a report tell it.
use Rattle.std.specs.Prelude.{ℕ, ◌+◌, ◌*◌, ◌%◌, ◌<◌, List, map, length}
use Rattle.object_graph.specs.declared.parts.Graph.{Graph}
use Rattle.code_blocks.specs.Numbers.{start_at}
use Rattle.code_blocks.specs.declared.parts.Code.{Code}
use Rattle.block_splitter.specs.declared.block_range.BlockRange.{BlockRange}
use Rattle.cell_values.specs.Objects.{object_of}
use Rattle.placement_programme.specs.declared.variables.VarName.{VarName}
use Rattle.placement_programme.specs.declared.variables.VarName.TheVariants.{StaticData, StaticCode, OverlayData, OverlayCode, KeptData}
use Rattle.relocator.specs.declared.slots.Slot.{Slot}
use Rattle.relink_core.specs.Names.{range_bytes}
use Rattle.relink_core.specs.declared.placed_copy.PlacedCopy.{PlacedCopy}
use Rattle.printed_lines.specs.declared.taken.TakenItem.{TakenItem}
use Rattle.std.specs.List.{All}
use Rattle.board_config.specs.declared.board.Board.{Board}
use Rattle.placement_programme.specs.Views.{plain_programme, plain_choice}
use Rattle.relocator.specs.Laws.{CanLayOut}
use Rattle.result_laws.specs.PlacementLaws.{regions_on}
use Rattle.relink_core.specs.Standing.{AreStanding}
use Rattle.relink_core.specs.declared.analysis.Analysis.{Analysis}
use Rattle.relinking.specs.declared.making.Relinked.{Relinked}

-- an object in a slot stands as many bytes behind a multiple of the grain as at home
abbrev pub data_item : Graph → Slot → ℕ → TakenItem
data_item g s o =
    record { name = s.name; place = s.at + (object_of g o).home % g.grain; bytes = (object_of g o).size; home = (object_of g o).home }

-- the copy of a piece stands where its slot begins
abbrev pub code_item : Graph → Code → Slot → BlockRange → TakenItem
code_item g c s range = record { name = s.name; place = s.at; bytes = range_bytes g c range; home = start_at c range.first }

-- what is in a slot, by the slot's name
abbrev pub item_by : Graph → Code → Slot → VarName → TakenItem
item_by g c s (StaticData o) = data_item g s o
item_by g c s (StaticCode first last) = code_item g c s (record { first = first; last = last })
item_by g c s (OverlayData region o) = data_item g s o
item_by g c s (OverlayCode region first last) = code_item g c s (record { first = first; last = last })
item_by g c s (KeptData pair o) = data_item g s o

abbrev pub item_of : Graph → Code → Slot → TakenItem
item_of g c s = item_by g c s s.name

abbrev pub items_told : Graph → Code → List Slot → List TakenItem
items_told g c slots = map (item_of g c) slots

-- ---- as it is told of a copy

-- its first block is one of the code, and its bytes are counted
pub record CanTell (c : Code) (x : PlacedCopy) : Type 0 where
  pub first : x.range.first < length c.blocks.items
  pub small : 4 * length x.code.words.items < 4294967296

abbrev pub copy_item : Code → VarName → PlacedCopy → TakenItem
copy_item c name x = record { name = name; place = x.at; bytes = 4 * length x.code.words.items; home = start_at c x.range.first }

-- ---- of a result

-- a file was relinked for a choice that can be laid out, and what it takes stands at its places
pub record IsToldOf (board : Board) (a : Analysis) (r : Relinked) : Type 0 where
  pub stands : AreStanding board a.graph a.code a.regions (plain_programme r.programme) (plain_choice r.found.choice) r.result.names.items r.result.copies.items r.result.places
  pub can : CanLayOut a.graph (regions_on (plain_choice r.found.choice).on a.regions) board (plain_programme r.programme) (plain_choice r.found.choice)
  pub copied : All (CanTell a.code) r.result.copies.items
