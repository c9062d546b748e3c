-- What the steps by which slots and tables are made rely on.
use Rattle.std.specs.Prelude.{◌≡◌, ℕ, ◌+◌, ◌*◌, ◌%◌, ◌<◌, ◌≤◌, List, length, set, slice_index_or}
use Rattle.std.specs.List.{All}
use Rattle.object_graph.specs.declared.parts.Graph.{Graph}
use Rattle.cell_values.specs.Objects.{object_of}
use Rattle.placement_programme.specs.declared.variables.VarName.{VarName}
use Rattle.placement_programme.specs.declared.variables.VarName.TheVariants.{StaticData, StaticCode, OverlayData, OverlayCode, KeptData}
use Rattle.placement_programme.specs.Plain.{PlainVar}
use Rattle.placement_programme.specs.Rows.{first_twin, second_twin}
use Rattle.relocator.specs.declared.items.Item.{Item}
use Rattle.relocator.specs.declared.slots.Slot.{Slot}
use Rattle.relocator.specs.Slots.{region_of, lane_of, lane_count, first_slots, slots_of}

-- the first slot of each lane begins below 2 ^ 32, and each slot of the items ends there
pub record AreRoomy (base regions : ℕ) (items : List Item) : Type 0 where
  pub first : (lane : ℕ) → lane < lane_count regions → first_slots base items lane < 4294967296
  pub slots : All (λ s. s.at + s.span < 4294967296) (slots_of base items)

-- the region of each variable is a word
abbrev pub HaveRegions : List PlainVar → Type 0
HaveRegions vars = All (λ v. region_of v.name < 4294967296) vars

-- the items are of so many lanes
abbrev pub AreInLanes : ℕ → List Item → Type 0
AreInLanes count items = All (λ i. lane_of i.name < count) items

-- a list as a function of the place, and functions that agree below a place
abbrev pub next_in : List ℕ → ℕ → ℕ
next_in next lane = slice_index_or next lane 0

abbrev pub AgreeBelow : ℕ → (ℕ → ℕ) → (ℕ → ℕ) → Type 0
AgreeBelow count f h = (lane : ℕ) → lane < count → f lane ≡ h lane

-- a row with one number in both regions of a pair
abbrev pub with_pair : List ℕ → ℕ → ℕ → List ℕ
with_pair row pair place = set (set row (first_twin pair) place) (second_twin pair) place

-- an object of the graph can stand in a slot that begins at `at`: its place is a word
abbrev pub CanStandAt : Graph → ℕ → ℕ → Type 0
CanStandAt g at o = (o < length g.objects.items) × (at + (object_of g o).home % g.grain < 4294967296)

-- what a variable puts into a slot at `at` can stand there
abbrev pub CanPut : Graph → ℕ → ℕ → VarName → Type 0
CanPut g regions at (StaticData object) = CanStandAt g at object
CanPut g regions at (StaticCode first last) = Unit {0}
CanPut g regions at (OverlayData region object) = (region ≤ regions) × CanStandAt g at object
CanPut g regions at (OverlayCode region first last) = Unit {0}
CanPut g regions at (KeptData pair object) = (1 ≤ pair) × (2 * pair ≤ regions) × CanStandAt g at object

abbrev pub CanPutAll : Graph → ℕ → List Slot → Type 0
CanPutAll g regions slots = All (λ s. CanPut g regions s.at s.name) slots
