-- What the names of a choice stand for: objects that stand in the scratchpad throughout, and ranges of blocks that are copied.
use Rattle.std.specs.Prelude.{ℕ, ◌*◌, List, map, Option, Some, None}
use Rattle.std.specs.List.{filter_map}
use Rattle.object_graph.specs.declared.parts.Graph.{Graph}
use Rattle.code_blocks.specs.declared.parts.Code.{Code}
use Rattle.block_splitter.specs.declared.block_range.BlockRange.{BlockRange}
use Rattle.block_splitter.specs.Forms.{is_site, copy_words}
use Rattle.placement_programme.specs.declared.variables.VarName.{VarName}
use Rattle.placement_programme.specs.declared.variables.VarName.TheVariants.{StaticData, StaticCode, OverlayData, OverlayCode, KeptData}
use Rattle.placement_programme.specs.Plain.{PlainVar}
use Rattle.relocator.specs.declared.slots.Slot.{Slot}
use Rattle.relocator.specs.Slots.{name_at}

-- ---- names

abbrev pub name_of_slot : Slot → VarName
name_of_slot s = s.name

-- those of the variables that are taken
abbrev pub names_taken : List PlainVar → List ℕ → List VarName
names_taken vars take = map (name_at vars) take

abbrev pub object_named : VarName → Option ℕ
object_named (StaticData object) = Some object
object_named (StaticCode first last) = None
object_named (OverlayData region object) = None
object_named (OverlayCode region first last) = None
object_named (KeptData pair object) = None

abbrev pub range_named : VarName → Option BlockRange
range_named (StaticData object) = None
range_named (StaticCode first last) = Some (record { first = first; last = last })
range_named (OverlayData region object) = None
range_named (OverlayCode region first last) = Some (record { first = first; last = last })
range_named (KeptData pair object) = None

-- the objects and the ranges of blocks that are named, in order
abbrev pub objects_named : List VarName → List ℕ
objects_named names = filter_map object_named names

abbrev pub ranges_named : List VarName → List BlockRange
ranges_named names = filter_map range_named names

-- ---- sizes

-- the bytes of the copy of a piece
abbrev pub range_bytes : Graph → Code → BlockRange → ℕ
range_bytes g c range = 4 * copy_words (is_site g) c.blocks.items range
