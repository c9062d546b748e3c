-- What holds of slots and places.
use Rattle.std.specs.Prelude.{◌≡◌, ◌≢◌, ◌⊎◌, ◌↔◌, ℕ, ◌+◌, ◌%◌, ◌<◌, ◌≤◌, Bool, true, false, IsSomeAnd, List, length, slice_index_or, None}
use Rattle.std.specs.List.{All, AllPairs}
use Rattle.elf_reader.specs.File.{PlainView}
use Rattle.board_config.specs.Board.{IsLawful}
use Rattle.board_config.specs.declared.board.Board.{Board}
use Rattle.board_config.specs.declared.board.Range.{Range}
use Rattle.object_graph.specs.LayoutFaults.{layout_fault}
use Rattle.object_graph.specs.Graphs.{IsGraph}
use Rattle.object_graph.specs.declared.parts.Graph.{Graph}
use Rattle.cell_values.specs.Objects.{IsGrain, object_of, objects_of}
use Rattle.cell_values.specs.Stands.{Fit}
use Rattle.placement_programme.specs.declared.variables.VarName.{VarName}
use Rattle.placement_programme.specs.declared.variables.VarName.TheVariants.{StaticData, StaticCode, OverlayData, OverlayCode, KeptData}
use Rattle.placement_programme.specs.Plain.{PlainVar, PlainSide, PlainProgramme, PlainChoice}
use Rattle.placement_programme.specs.Programme.{side_for, IsFeasible}
use Rattle.relocator.specs.declared.slots.Slot.{Slot}
use Rattle.relocator.specs.Slots.{pair_of, is_code}
use Rattle.relocator.specs.Placing.{puts, chosen_slots, place_of}
use Rattle.placement_programme.specs.Rows.{Layout, Candidate, name_of, first_twin, second_twin, capacities, weights, IsOfSide}
use Rattle.relocator.specs.Space.{IsOfGraph, IsLayoutOf, IsSpaceOf}

-- a feasible choice of a programme that is made for a graph, a board and a number of regions
pub record CanLayOut (g : Graph) (regions : ℕ) (board : Board) (p : PlainProgramme) (c : PlainChoice) : Type 0 where
  pub feasible : IsFeasible p c
  pub space : IsSomeAnd (side_for p c.on) (λ side. IsSpaceOf g regions board c.on side)

-- the graph is that of a program and a board in whose layout no check fails
pub record IsLaidOut (v : PlainView) (board : Board) (g : Graph) : Type 0 where
  pub lawful : IsLawful board
  pub layout : layout_fault v board ≡ None
  pub graph : IsGraph v board g

-- ---- pairs

-- the regions of a pair are its twins
abbrev pub TwinsOfPairs : Type 0
TwinsOfPairs =
    (region pair : ℕ) → 1 ≤ pair → (pair_of region ≡ pair) ↔ ((region ≡ first_twin pair) ⊎ (region ≡ second_twin pair))

-- ---- slots

-- a slot lies in a range
pub record LiesWithin (r : Range) (s : Slot) : Type 0 where
  pub from : r.base ≤ s.at
  pub to : s.at + s.span ≤ r.base + r.size

-- all slots do in the scratchpad
abbrev pub SlotsInside : Type 0
SlotsInside =
    (g : Graph) (regions : ℕ) (board : Board) (p : PlainProgramme) (c : PlainChoice) → IsGrain g.grain → CanLayOut g regions board p c
    → All (LiesWithin board.spm) (chosen_slots board p c)

-- a variable is in the scratchpad while the region is current
abbrev pub IsPresent : ℕ → VarName → Type 0
IsPresent region (StaticData object) = Unit {0}
IsPresent region (StaticCode first last) = Unit {0}
IsPresent region (OverlayData own object) = own ≡ region
IsPresent region (OverlayCode own first last) = own ≡ region
IsPresent region (KeptData pair object) = pair_of region ≡ pair

-- two slots share no byte
abbrev pub AreDisjoint : Slot → Slot → Type 0
AreDisjoint s t = (s.at + s.span ≤ t.at) ⊎ (t.at + t.span ≤ s.at)

abbrev pub AreDisjointIn : ℕ → Slot → Slot → Type 0
AreDisjointIn region s t = IsPresent region s.name → IsPresent region t.name → AreDisjoint s t

-- those of what is present together don't
abbrev pub SlotsDisjoint : Type 0
SlotsDisjoint =
    (board : Board) (p : PlainProgramme) (c : PlainChoice) (region : ℕ) → AllPairs (AreDisjointIn region) (chosen_slots board p c)

-- ---- places

abbrev pub no_slot : Slot
no_slot = record { name = StaticData 0; at = 0; span = 0 }

abbrev pub slot_at : List Slot → ℕ → Slot
slot_at slots k = slice_index_or slots k no_slot

-- an object stands in slot `k`, wholly, and as many bytes behind a multiple of the grain as at home
pub record StandsIn (g : Graph) (slots : List Slot) (region o place k : ℕ) : Type 0 where
  pub below : k < length slots
  pub puts : puts (slot_at slots k).name region o ≡ true
  pub there : place ≡ (slot_at slots k).at + (object_of g o).home % g.grain
  pub room : (object_of g o).home % g.grain + (object_of g o).size ≤ (slot_at slots k).span

-- or no slot is the object's, and it is at home
pub record StandsAtHome (g : Graph) (slots : List Slot) (region o place : ℕ) : Type 0 where
  pub none : All (λ s. puts s.name region o ≡ false) slots
  pub there : place ≡ (object_of g o).home

-- no two slots are one object's while a region is current
abbrev pub ArePutApart : ℕ → VarName → VarName → Type 0
ArePutApart region one other = (o : ℕ) → puts one region o ≡ true → puts other region o ≡ true → ⊥

abbrev pub SlotsApart : Type 0
SlotsApart =
    (g : Graph) (regions : ℕ) (board : Board) (p : PlainProgramme) (c : PlainChoice) (region : ℕ) → region ≤ regions → CanLayOut g regions board p c
    → AllPairs (λ s t. ArePutApart region s.name t.name) (chosen_slots board p c)

-- so each slot that is an object's tells where it stands
abbrev pub ObjectsInSlots : Type 0
ObjectsInSlots =
    (g : Graph) (regions : ℕ) (board : Board) (p : PlainProgramme) (c : PlainChoice) (region o : ℕ) → region ≤ regions → CanLayOut g regions board p c
    → All (λ s. puts s.name region o ≡ true → place_of g board p c region o ≡ s.at + (object_of g o).home % g.grain) (chosen_slots board p c)

abbrev pub ObjectsStand : Type 0
ObjectsStand =
    (v : PlainView) (g : Graph) (regions : ℕ) (board : Board) (p : PlainProgramme) (c : PlainChoice) (region o : ℕ)
    → IsLaidOut v board g → CanLayOut g regions board p c
    → ((k : ℕ) × StandsIn g (chosen_slots board p c) region o (place_of g board p c region o) k)
    ⊎ StandsAtHome g (chosen_slots board p c) region o (place_of g board p c region o)

-- in each region the places are such at which objects may stand: congruent to their homes modulo the grain, behind
-- address 0 and below 2 ^ 32, and disjoint, those of the objects that stay among them
abbrev pub PlacesFit : Type 0
PlacesFit =
    (v : PlainView) (g : Graph) (regions : ℕ) (board : Board) (p : PlainProgramme) (c : PlainChoice) (region : ℕ)
    → IsLaidOut v board g → CanLayOut g regions board p c
    → Fit (objects_of g) (place_of g board p c region)

-- the objects and a range share no byte
abbrev pub AreObjectsOff : Graph → (ℕ → ℕ) → ℕ → ℕ → Type 0
AreObjectsOff g place at span =
    (o i j : ℕ) → i < (object_of g o).size → j < span → place o + i ≡ at + j → ⊥

-- no home lies in the scratchpad
abbrev pub HomesOffScratchpad : Type 0
HomesOffScratchpad =
    (v : PlainView) (g : Graph) (board : Board) → IsLaidOut v board g
    → AreObjectsOff g (λ o. (object_of g o).home) board.spm.base board.spm.size

-- so no object shares a byte with code that is present with it
abbrev pub ObjectsOffCodeSlots : Type 0
ObjectsOffCodeSlots =
    (v : PlainView) (g : Graph) (regions : ℕ) (board : Board) (p : PlainProgramme) (c : PlainChoice) (region : ℕ)
    → IsLaidOut v board g → CanLayOut g regions board p c
    → All (λ s. is_code s.name ≡ true → IsPresent region s.name → AreObjectsOff g (place_of g board p c region) s.at s.span) (chosen_slots board p c)

-- ---- whole layouts

-- a variable is that of a candidate of the side, with all its weights
pub record IsWholeVariable (g : Graph) (on : Bool) (l : Layout) (candidate : Candidate) (v : PlainVar) : Type 0 where
  pub name : v.name ≡ name_of candidate
  pub side : IsOfSide on candidate
  pub item : IsOfGraph g l candidate
  pub weights : v.weights ≡ weights on l candidate

-- a side whose rows are those of a layout, and whose variables are those of candidates, is made for the graph
abbrev pub WholeSideHasSpace : Type 0
WholeSideHasSpace =
    (g : Graph) (regions : ℕ) (board : Board) (on : Bool) (l : Layout) (side : PlainSide) → IsLayoutOf g regions board l
    → side.rows ≡ capacities on l
    → All (λ v. (candidate : Candidate) × IsWholeVariable g on l candidate v) side.vars
    → AllPairs (λ v w. v.name ≢ w.name) side.vars
    → IsSpaceOf g regions board on side
