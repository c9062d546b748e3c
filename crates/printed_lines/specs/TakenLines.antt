-- The lines of a report that tell what is taken, and where it stands.
use Rattle.std.specs.Prelude.{ℕ, ◌<◌, ◌≤◌, List, [], ◌∷◌, ◌++◌, codes, length, slice_index_or, Option, Some, None}
use Rattle.std.specs.Fmt.{decimal}
use Rattle.elf_reader.specs.File.{PlainView}
use Rattle.loaded_file.specs.Records.{symbol_at}
use Rattle.object_graph.specs.Graphs.{object_at}
use Rattle.object_graph.specs.declared.parts.Object.{Object}
use Rattle.placement_programme.specs.Rows.{first_twin, second_twin}
use Rattle.placement_programme.specs.declared.variables.VarName.{VarName}
use Rattle.placement_programme.specs.declared.variables.VarName.TheVariants.{StaticData, StaticCode, OverlayData, OverlayCode, KeptData}
use Rattle.printed_lines.specs.ProfileLines.{lines_below, address_text, named_line}
use Rattle.printed_lines.specs.declared.taken.TakenItem.{TakenItem}

-- in which regions it stands in the scratchpad, and whether it is data or code
unfoldable pub standing_text : VarName → List ℕ
standing_text (StaticData object) = codes "static data "
standing_text (StaticCode first last) = codes "static code "
standing_text (OverlayData region object) = codes "overlay " ++ (decimal region ++ codes " data ")
standing_text (OverlayCode region first last) = codes "overlay " ++ (decimal region ++ codes " code ")
standing_text (KeptData pair object) =
    codes "kept " ++ (decimal (first_twin pair) ++ (codes " " ++ (decimal (second_twin pair) ++ codes " data ")))

-- `static data 0xPLACE SIZE ` and the like, with a name or an address behind it
unfoldable pub taken_head : List ℕ → ℕ → ℕ → List ℕ
taken_head standing place bytes = standing ++ (address_text place ++ (codes " " ++ (decimal bytes ++ codes " ")))

-- the object that a name is of
abbrev pub object_named : VarName → Option ℕ
object_named (StaticData object) = Some object
object_named (StaticCode first last) = None
object_named (OverlayData region object) = Some object
object_named (OverlayCode region first last) = None
object_named (KeptData pair object) = Some object

-- the name of the object's first symbol; of code the address of its first block
abbrev pub label_text : PlainView → List Object → ℕ → Option ℕ → List ℕ
label_text v objects home None = address_text home
label_text v objects home (Some o) = (symbol_at v (object_at objects o).name).name

-- the line of an item
abbrev pub taken_line : PlainView → List Object → TakenItem → List ℕ
taken_line v objects item =
    named_line (taken_head (standing_text item.name) item.place item.bytes) (label_text v objects item.home (object_named item.name))

-- a line for each item, in order
abbrev pub no_item : TakenItem
no_item = record { name = StaticData 0; place = 0; bytes = 0; home = 0 }

abbrev pub taken_at : PlainView → List Object → List TakenItem → ℕ → List ℕ
taken_at v objects items k = taken_line v objects (slice_index_or items k no_item)

abbrev pub taken_lines : PlainView → List Object → List TakenItem → List ℕ
taken_lines v objects items = lines_below (taken_at v objects items) (length items)

-- its object is one of these, and pairs are numbered from 1
abbrev pub IsListedObject : List Object → Option ℕ → Type 0
IsListedObject objects None = Unit {0}
IsListedObject objects (Some o) = o < length objects

abbrev pub IsPairName : VarName → Type 0
IsPairName (KeptData pair object) = 1 ≤ pair
IsPairName other = Unit {0}

pub record IsListed (objects : List Object) (item : TakenItem) : Type 0 where
  pub object : IsListedObject objects (object_named item.name)
  pub pair : IsPairName item.name
