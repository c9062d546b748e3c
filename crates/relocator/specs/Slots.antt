-- Which bytes of the scratchpad the taken variables get.
use Rattle.std.specs.Prelude.{ℕ, ◌+◌, ◌*◌, ◌/◌, ◌%◌, ◌==◌, Bool, true, false, if◌then◌else◌, List, [], ◌∷◌, map, slice_index_or, Option, Some, None}
use Rattle.placement_programme.specs.declared.variables.VarName.{VarName}
use Rattle.placement_programme.specs.declared.variables.VarName.TheVariants.{StaticData, StaticCode, OverlayData, OverlayCode, KeptData}
use Rattle.placement_programme.specs.Plain.{PlainVar, PlainSide, PlainProgramme, PlainChoice}
use Rattle.placement_programme.specs.Programme.{weight_at, side_for}
use Rattle.placement_programme.specs.Rows.{space_row, first_twin}
use Rattle.relocator.specs.declared.items.Item.{Item}
use Rattle.relocator.specs.declared.slots.Slot.{Slot}

-- ---- what is taken

-- the region in which a variable stands in the scratchpad, the first of two where it is kept for a pair; 0 where it
-- stands there throughout
abbrev pub region_of : VarName → ℕ
region_of (StaticData object) = 0
region_of (StaticCode first last) = 0
region_of (OverlayData region object) = region
region_of (OverlayCode region first last) = region
region_of (KeptData pair object) = first_twin pair

-- variable `k`; one without weights behind the last
abbrev pub no_var : PlainVar
no_var = record { name = StaticData 0; gain = 0; weights = [] }

abbrev pub name_at : List PlainVar → ℕ → VarName
name_at vars k = (slice_index_or vars k no_var).name

-- what variable `k` takes: as many bytes as it weighs in the scratchpad's row of its region. Both sides have
-- the scratchpad in row 0, and what is kept for a pair weighs the same in both its rows
abbrev pub item_at : List PlainVar → ℕ → Item
item_at vars k =
    record { name = name_at vars k; span = weight_at vars (space_row (region_of (name_at vars k))) k }

abbrev pub items_in : List PlainVar → List ℕ → List Item
items_in vars take = map (item_at vars) take

-- the items of a choice, in the order in which it takes them; none where the programme hasn't its side
abbrev pub vars_for : Option PlainSide → List PlainVar
vars_for None = []
vars_for (Some side) = side.vars

abbrev pub items_of : PlainProgramme → PlainChoice → List Item
items_of p c = items_in (vars_for (side_for p c.on)) c.take

-- ---- lanes

-- slots stand in lanes, one behind the other in each: lane 0 is of what stands throughout, 2r of what is overlaid in
-- region r, and 2k + 1 of what is kept for pair k
abbrev pub region_lane : ℕ → ℕ
region_lane region = 2 * region

abbrev pub pair_lane : ℕ → ℕ
pair_lane pair = 2 * pair + 1

abbrev pub lane_of : VarName → ℕ
lane_of (StaticData object) = 0
lane_of (StaticCode first last) = 0
lane_of (OverlayData region object) = region_lane region
lane_of (OverlayCode region first last) = region_lane region
lane_of (KeptData pair object) = pair_lane pair

-- how many lanes there are where the last region is `regions`
abbrev pub lane_count : ℕ → ℕ
lane_count regions = 2 * regions + 2

-- the pair of a region: regions 2k - 1 and 2k are of pair k
abbrev pub pair_of : ℕ → ℕ
pair_of region = (region + 1) / 2

-- ---- slots

-- the bytes that the items of a lane take
abbrev pub bytes_in : ℕ → List Item → ℕ
bytes_in lane [] = 0
bytes_in lane (i ∷ is) = (if lane_of i.name == lane then i.span else 0) + bytes_in lane is

-- where the next slot of each lane begins: an item moves that of its own lane on by its span
unfoldable pub moved_on : (ℕ → ℕ) → Item → ℕ → ℕ
moved_on next i lane = if lane_of i.name == lane then next lane + i.span else next lane

-- each item gets the next slot of its lane
abbrev pub slots_from : (ℕ → ℕ) → List Item → List Slot
slots_from next [] = []
slots_from next (i ∷ is) =
    record { name = i.name; at = next (lane_of i.name); span = i.span } ∷ slots_from (moved_on next i) is

-- the first slots: what stands throughout is put from the scratchpad's base on, what is kept for a pair behind all of
-- that, and what is overlaid in a region, whose lane is even, behind what is kept for the region's pair
unfoldable pub first_slots : ℕ → List Item → ℕ → ℕ
first_slots base items lane =
    if lane == 0 then base
    else base + bytes_in 0 items + (if lane % 2 == 0 then bytes_in (pair_lane (pair_of (lane / 2))) items else 0)

abbrev pub slots_of : ℕ → List Item → List Slot
slots_of base items = slots_from (first_slots base items) items

-- the slots of code, in order
abbrev pub is_code : VarName → Bool
is_code (StaticData object) = false
is_code (StaticCode first last) = true
is_code (OverlayData region object) = false
is_code (OverlayCode region first last) = true
is_code (KeptData pair object) = false

abbrev pub code_slots : List Slot → List ℕ
code_slots [] = []
code_slots (s ∷ ss) = if is_code s.name then s.at ∷ code_slots ss else code_slots ss
