-- The slots and the places of a choice: what lies in the scratchpad, what at home, and what shares no byte.
use Rattle.std.proofs.Common.{◌≡◌, ◌⊎◌, inl, inr, ℕ, ◌+◌, ◌-◌, ◌%◌, ◌<◌, ◌≤◌, true, List, length, sym, ◌∙◌, subst, arith}
use Rattle.std.specs.List.{AllPairs}
use Rattle.std.proofs.lemmas.Bool.{cases_eq, cases_lt}
use Rattle.elf_reader.specs.File.{PlainView}
use Rattle.board_config.specs.declared.board.Board.{Board}
use Rattle.object_graph.specs.declared.parts.Graph.{Graph}
use Rattle.object_graph.proofs.LookupLemmas.{laid_out}
use Rattle.cell_values.specs.Objects.{IsGrain, absent_object, object_of}
use Rattle.cell_values.proofs.GraphObjects.{objects_differ}
use Rattle.placement_programme.specs.Plain.{PlainProgramme, PlainChoice}
use Rattle.relocator.specs.declared.slots.Slot.{Slot}
use Rattle.relocator.specs.Slots.{region_lane, pair_lane, pair_of, is_code, bytes_in, items_of}
use Rattle.relocator.specs.Placing.{puts, placed, chosen_slots}
use Rattle.relocator.specs.Laws.{CanLayOut, IsLaidOut, LiesWithin, IsPresent, AreDisjoint, AreDisjointIn, no_slot, slot_at, StandsIn, StandsAtHome}
use Rattle.relocator.proofs.WeightLemmas.{HasRoomFor, IsAmong}
use Rattle.relocator.proofs.StandLemmas.{puts_room, stands}
use Rattle.relocator.proofs.GrainLemmas.{IsTimes}
use Rattle.relocator.proofs.PlaceLemmas.{choice_fits}
use Rattle.relocator.proofs.OwnLemmas.{objects_in_slots}
use Rattle.relocator.proofs.FitLemmas.{are_laid, places_fit, objects_off_code_slots}
use Rattle.relocator.proofs.ObjectLemmas.{home_off_scratchpad}

-- an address in the scratchpad; one of an object at home
abbrev pub InScratchpad : Board → ℕ → Type 0
InScratchpad board a = (n : ℕ) × ((n < board.spm.size) × (a ≡ board.spm.base + n))

abbrev pub AtHome : Graph → ℕ → Type 0
AtHome g a = (o : ℕ) × ((i : ℕ) × ((i < (object_of g o).size) × (a ≡ (object_of g o).home + i)))

pub grain_is : (v : PlainView) (g : Graph) (board : Board) → IsLaidOut v board g → IsGrain g.grain
grain_is v g board laid = subst IsGrain (sym laid.graph.grain) laid.lawful.grain

module _ (v : PlainView) (g : Graph) (regions : ℕ) (board : Board) (p : PlainProgramme) (c : PlainChoice) (laid : IsLaidOut v board g) (can : CanLayOut g regions board p c) where
  abbrev slots : List Slot
  slots = chosen_slots board p c

  -- an object stands in a slot that is its own, wholly
  pub own : (region o k : ℕ) → region ≤ regions → k < length slots → puts (slot_at slots k).name region o ≡ true → StandsIn g slots region o (placed g slots region o) k
  own region o k within below is =
      let sized = (are_laid v g regions board p c region laid can).sized k no_slot below in
      record {
        below = below;
        puts = is;
        there = objects_in_slots g regions board p c region o within can k no_slot below is;
        room = (puts_room g (slot_at slots k).span (slot_at slots k).name region o is sized.room).room;
      }

  pub where_is : (region o : ℕ) → ((k : ℕ) × StandsIn g slots region o (placed g slots region o) k) ⊎ StandsAtHome g slots region o (placed g slots region o)
  where_is region o = stands g regions slots region o (are_laid v g regions board p c region laid can).sized

  pub among : (k : ℕ) → k < length slots → IsAmong regions (slot_at slots k).name
  among k below = ((are_laid v g regions board p c 0 laid can).sized k no_slot below).among

  pub room_for : (k region o : ℕ) → k < length slots → puts (slot_at slots k).name region o ≡ true → HasRoomFor g (slot_at slots k).span o
  room_for k region o below is =
      puts_room g (slot_at slots k).span (slot_at slots k).name region o is ((are_laid v g regions board p c region laid can).sized k no_slot below).room

  -- its object is one of the graph, and has bytes
  pub known : (k region o : ℕ) → k < length slots → puts (slot_at slots k).name region o ≡ true → o < length g.objects.items
  known k region o below is = (room_for k region o below is).below

  pub filled : (k region o : ℕ) → k < length slots → puts (slot_at slots k).name region o ≡ true → 1 ≤ (object_of g o).size
  filled k region o below is = (laid_out v board g.objects.items laid.graph.objects).filled o absent_object (known k region o below is)

  -- ---- room

  pub whole_slot : (k : ℕ) → k < length slots → IsTimes g.grain (slot_at slots k).span
  whole_slot k below = let sized = (are_laid v g regions board p c 0 laid can).sized k no_slot below in (sized.times, sized.whole)

  pub region_room : (region : ℕ) → 1 ≤ region → region ≤ regions → bytes_in 0 (items_of p c) + bytes_in (pair_lane (pair_of region)) (items_of p c) + bytes_in (region_lane region) (items_of p c) ≤ board.spm.size
  region_room region some within = (choice_fits g regions board p c (grain_is v g board laid) can).in_regions region some within

  pub static_room : bytes_in 0 (items_of p c) ≤ board.spm.size
  static_room = (choice_fits g regions board p c (grain_is v g board laid) can).static

  -- ---- the scratchpad and homes

  pub slot_ends : (k : ℕ) → k < length slots → LiesWithin board.spm (slot_at slots k)
  slot_ends k below = (are_laid v g regions board p c 0 laid can).within k no_slot below

  pub slot_inside : (k i : ℕ) → k < length slots → i < (slot_at slots k).span → InScratchpad board ((slot_at slots k).at + i)
  slot_inside k i below inside =
      let within = slot_ends k below in
      let from = within.from in
      let to = within.to in
      ((slot_at slots k).at - board.spm.base + i, (omega (arith, from, to, inside), omega (arith, from)))

  pub object_inside : (region o k i : ℕ) → StandsIn g slots region o (placed g slots region o) k → i < (object_of g o).size → InScratchpad board (placed g slots region o + i)
  object_inside region o k i st inside =
      let there = st.there in
      let room = st.room in
      let low : ℕ = (object_of g o).home % g.grain in
      let here : (slot_at slots k).at + (low + i) ≡ placed g slots region o + i = omega (arith, there) in
      subst (InScratchpad board) here (slot_inside k (low + i) st.below (omega (arith, room, inside)))

  pub home_outside : (a : ℕ) → AtHome g a → InScratchpad board a → ⊥
  home_outside a home inside =
      home_off_scratchpad v board g home.0 home.1.0 inside.0 laid.layout laid.graph.objects home.1.1.0 inside.1.0
      (sym home.1.1.1 ∙ inside.1.1)

  -- ---- what shares a byte is the same

  pub same_home : (o q i j : ℕ) → i < (object_of g o).size → j < (object_of g q).size → (object_of g o).home + i ≡ (object_of g q).home + j → o ≡ q
  same_home o q i j inside inside_too same = elim (cases_eq o q) [
    | inl is ↦ is
    | inr other ↦ absurd (objects_differ v board g o q i j laid.graph.objects other inside inside_too same)
  ]

  pub same_place : (region o q i j : ℕ) → i < (object_of g o).size → j < (object_of g q).size → placed g slots region o + i ≡ placed g slots region q + j → o ≡ q
  same_place region o q i j inside inside_too same = elim (cases_eq o q) [
    | inl is ↦ is
    | inr other ↦ absurd ((places_fit v g regions board p c region laid can).disjoint o q i j other inside inside_too same)
  ]

  pub off_code : (region o k i j : ℕ) → k < length slots → is_code (slot_at slots k).name ≡ true → IsPresent region (slot_at slots k).name → i < (object_of g o).size → j < (slot_at slots k).span → placed g slots region o + i ≡ (slot_at slots k).at + j → ⊥
  off_code region o k i j below code present inside inside_too same =
      objects_off_code_slots v g regions board p c region laid can k no_slot below code present o i j inside inside_too same

  pub same_slot : (region k m i j : ℕ) → k < length slots → m < length slots → IsPresent region (slot_at slots k).name → IsPresent region (slot_at slots m).name → i < (slot_at slots k).span → j < (slot_at slots m).span → (slot_at slots k).at + i ≡ (slot_at slots m).at + j → k ≡ m
  same_slot region k m i j below below_too here there inside inside_too same = elim (cases_eq k m) [
    | inl is ↦ is
    | inr other ↦ elim (cases_lt k m) [
      | inl before ↦ absurd (apart (slot_at slots k) (slot_at slots m) i j (disjoint k m no_slot before below_too here there) inside inside_too same)
      | inr behind ↦ absurd (apart (slot_at slots m) (slot_at slots k) j i (disjoint m k no_slot (omega (arith, behind, other)) below there here) inside_too inside (sym same))
    ]
  ]
    where
      disjoint : AllPairs (AreDisjointIn region) slots
      disjoint = (are_laid v g regions board p c region laid can).disjoint

      apart : (s t : Slot) (i j : ℕ) → AreDisjoint s t → i < s.span → j < t.span → s.at + i ≡ t.at + j → ⊥
      apart s t i j (inl before) inside inside_too same = omega (arith, before, inside, same)
      apart s t i j (inr behind) inside inside_too same = omega (arith, behind, inside_too, same)
