-- Where each object stands while a region is current.
use Rattle.std.specs.Prelude.{◌≡◌, ℕ, ◌+◌, ◌%◌, ◌<◌, ◌≤◌, ◌==◌, Bool, false, ◌&&◌, if◌then◌else◌, List, [], ◌∷◌, map, length, slice_index_or}
use Rattle.std.specs.List.{All}
use Rattle.std.specs.Prelude.{Vec}
use Rattle.std.specs.declared.alloc.Global.{Global}
use Rattle.board_config.specs.declared.board.Board.{Board}
use Rattle.object_graph.specs.declared.parts.Graph.{Graph}
use Rattle.cell_values.specs.Objects.{object_of}
use Rattle.placement_programme.specs.declared.variables.VarName.{VarName}
use Rattle.placement_programme.specs.declared.variables.VarName.TheVariants.{StaticData, StaticCode, OverlayData, OverlayCode, KeptData}
use Rattle.placement_programme.specs.Plain.{PlainProgramme, PlainChoice}
use Rattle.relocator.specs.declared.slots.Slot.{Slot}
use Rattle.relocator.specs.declared.places.Places.{Places}
use Rattle.relocator.specs.Slots.{pair_of, items_of, slots_of, code_slots}

-- the variable puts the object into the scratchpad while the region is current
abbrev pub puts : VarName → ℕ → ℕ → Bool
puts (StaticData object) region o = object == o
puts (StaticCode first last) region o = false
puts (OverlayData own object) region o = (object == o) && (own == region)
puts (OverlayCode own first last) region o = false
puts (KeptData pair object) region o = (object == o) && (pair_of region == pair)

-- an object stands in its slot as many bytes behind a multiple of the grain as at home; without a slot it is at home
abbrev pub place_in : ℕ → ℕ → List Slot → ℕ → ℕ → ℕ
place_in grain home [] region o = home
place_in grain home (s ∷ ss) region o =
    if puts s.name region o then s.at + home % grain else place_in grain home ss region o

-- the place of object `o` while a region is current
abbrev pub placed : Graph → List Slot → ℕ → ℕ → ℕ
placed g slots region o = place_in g.grain (object_of g o).home slots region o

-- the slots and the places of a choice
abbrev pub chosen_slots : Board → PlainProgramme → PlainChoice → List Slot
chosen_slots board p c = slots_of board.spm.base (items_of p c)

abbrev pub place_of : Graph → Board → PlainProgramme → PlainChoice → ℕ → ℕ → ℕ
place_of g board p c region o = placed g (chosen_slots board p c) region o

-- ---- as a table

-- the place that a table has for object `o` in a region, 0 where it has none
abbrev pub rows_of : List (Vec ℕ Global) → List (List ℕ)
rows_of table = map (λ row. row.items) table

abbrev pub entry_at : List (List ℕ) → ℕ → ℕ → ℕ
entry_at rows o region = slice_index_or (slice_index_or rows o []) region 0

abbrev pub place_at : Places → ℕ → ℕ → ℕ
place_at places o region = entry_at (rows_of places.of.items) o region

-- the table of so many objects and of regions 0 to `regions` with these slots
pub record IsTable (g : Graph) (regions : ℕ) (slots : List Slot) (rows : List (List ℕ)) : Type 0 where
  pub objects : length rows ≡ length g.objects.items
  pub widths : All (λ row. length row ≡ regions + 1) rows
  pub exact : (o region : ℕ) → o < length g.objects.items → region ≤ regions → entry_at rows o region ≡ placed g slots region o

pub record ArePlaces (g : Graph) (regions : ℕ) (slots : List Slot) (places : Places) : Type 0 where
  pub table : IsTable g regions slots (rows_of places.of.items)
  pub code : places.code.items ≡ code_slots slots
