-- The places of a choice are such at which objects may stand.
use Rattle.std.proofs.Common.{◌≡◌, ◌≢◌, ◌∙◌, ◌⊎◌, inl, inr, ℕ, ◌+◌, ◌-◌, ◌%◌, ◌<◌, ◌≤◌, true, List, length, sym, ap, subst, arith}
use Rattle.std.specs.List.{All, AllPairs}
use Rattle.std.proofs.lemmas.Bool.{cases_lt}
use Rattle.std.proofs.lemmas.List.{get_or_default}
use Rattle.std.proofs.lemmas.List.Elements.{All-weaker}
use Rattle.elf_reader.specs.File.{PlainView}
use Rattle.board_config.specs.declared.board.Board.{Board}
use Rattle.object_graph.specs.declared.parts.Graph.{Graph}
use Rattle.object_graph.specs.Sites.{no_area}
use Rattle.cell_values.specs.Objects.{IsGrain, object_of, objects_of}
use Rattle.cell_values.specs.Stands.{Fit}
use Rattle.placement_programme.specs.Plain.{PlainProgramme, PlainChoice}
use Rattle.relocator.specs.declared.items.Item.{Item}
use Rattle.relocator.specs.declared.slots.Slot.{Slot}
use Rattle.relocator.specs.Slots.{is_code, items_of, first_slots}
use Rattle.relocator.specs.Placing.{puts, placed, chosen_slots, place_of}
use Rattle.relocator.specs.Laws.{CanLayOut, IsLaidOut, LiesWithin, IsPresent, AreDisjoint, AreDisjointIn, no_slot, slot_at, StandsIn, StandsAtHome, AreObjectsOff, PlacesFit, ObjectsOffCodeSlots}
use Rattle.relocator.proofs.SlotLemmas.{slot_keeps, slots_disjoint}
use Rattle.relocator.proofs.WeightLemmas.{IsSized}
use Rattle.relocator.proofs.PlaceLemmas.{choice_fits, slots_within}
use Rattle.relocator.proofs.StandLemmas.{puts_one, puts_present, puts_data, stands}
use Rattle.cell_values.proofs.GraphObjects.{object_extends, objects_differ}
use Rattle.relocator.proofs.ObjectLemmas.{scratchpad_placed, home_off_scratchpad}
use Rattle.relocator.proofs.GrainLemmas.{IsTimes, base_times, same_low, slots_times}

-- what holds of the slots of a choice
pub record AreLaid (g : Graph) (regions : ℕ) (board : Board) (region : ℕ) (slots : List Slot) : Type 0 where
  pub grain : IsGrain g.grain
  pub sized : All (λ s. IsSized g regions s.name s.span) slots
  pub within : All (LiesWithin board.spm) slots
  pub disjoint : AllPairs (AreDisjointIn region) slots
  pub times : All (λ s. IsTimes g.grain s.at) slots

pub are_laid : (v : PlainView) (g : Graph) (regions : ℕ) (board : Board) (p : PlainProgramme) (c : PlainChoice) (region : ℕ) → IsLaidOut v board g → CanLayOut g regions board p c → AreLaid g regions board region (chosen_slots board p c)
are_laid v g regions board p c region laid can =
    let grain = subst IsGrain (sym laid.graph.grain) laid.lawful.grain in
    let items = items_of p c in
    let fit = choice_fits g regions board p c grain can in
    let base = laid.lawful.spm.base in
    let spans : All (λ i. IsTimes g.grain i.span) items =
    All-weaker (λ (i : Item). IsSized g regions i.name i.span) (λ (i : Item). IsTimes g.grain i.span) (λ i s. (s.times, s.whole)) items fit.sized in
    record {
      grain = grain;
      sized = slot_keeps (λ name span. IsSized g regions name span) (first_slots board.spm.base items) items fit.sized;
      within = slots_within g regions board.spm items fit;
      disjoint = slots_disjoint board.spm.base items region;
      times = slots_times g.grain board.spm.base items (base_times g.grain board.spm.base (subst (λ (n : ℕ). board.spm.base % n ≡ 0) (sym laid.graph.grain) base)) spans;
    }

-- two slots of what is present
two_disjoint : (region : ℕ) (slots : List Slot) (k l : ℕ) → AllPairs (AreDisjointIn region) slots → k ≢ l → k < length slots → l < length slots → IsPresent region (slot_at slots k).name → IsPresent region (slot_at slots l).name → AreDisjoint (slot_at slots k) (slot_at slots l)
two_disjoint region slots k l disjoint other below below_too here there =
    elim (cases_lt k l) [
      | inl before ↦ disjoint k l no_slot before below_too here there
      | inr behind ↦ turned (slot_at slots l) (slot_at slots k) (disjoint l k no_slot (omega (arith, behind, other)) below there here)
    ]
  where
    turned : (s t : Slot) → AreDisjoint s t → AreDisjoint t s
    turned s t (inl before) = inr before
    turned s t (inr behind) = inl behind

-- places within two ranges that are disjoint differ
differ : (s t : Slot) (a n b m i j : ℕ) → AreDisjoint s t → s.at ≤ a → a + n ≤ s.at + s.span → t.at ≤ b → b + m ≤ t.at + t.span → i < n → j < m → a + i ≡ b + j → ⊥
differ s t a n b m i j (inl before) from to other_from other_to inside inside_other same = omega (arith, before, from, to, other_from, other_to, inside, inside_other, same)
differ s t a n b m i j (inr behind) from to other_from other_to inside inside_other same = omega (arith, behind, from, to, other_from, other_to, inside, inside_other, same)

-- an object that stands in a slot lies in it
record LiesIn (s : Slot) (place size : ℕ) : Type 0 where
  pub from : s.at ≤ place
  pub to : place + size ≤ s.at + s.span

lies : (g : Graph) (slots : List Slot) (region o place k : ℕ) → StandsIn g slots region o place k → LiesIn (slot_at slots k) place (object_of g o).size
lies g slots region o place k st =
    let there = st.there in
    let room = st.room in
    record { from = omega (arith, there); to = omega (arith, there, room) }

module _ (v : PlainView) (g : Graph) (regions : ℕ) (board : Board) (region : ℕ) (slots : List Slot) (laid : IsLaidOut v board g) (are : AreLaid g regions board region slots) where
  abbrev pub place : ℕ → ℕ
  place o = placed g slots region o

  where_is : (o : ℕ) → ((k : ℕ) × StandsIn g slots region o (place o) k) ⊎ StandsAtHome g slots region o (place o)
  where_is o = stands g regions slots region o are.sized

  congruent : (o : ℕ) → place o % g.grain ≡ (object_of g o).home % g.grain
  congruent o = elim (where_is o) [
    | inl moved ↦
        let st = moved.1 in
        ap (λ (n : ℕ). n % g.grain) st.there ∙ same_low g.grain (slot_at slots moved.0).at (object_of g o).home (are.times moved.0 no_slot st.below)
    | inr home ↦ ap (λ (n : ℕ). n % g.grain) home.there
  ]

  positive : (o : ℕ) → 0 < place o
  positive o = elim (where_is o) [
    | inl moved ↦
        let st = moved.1 in
        let there = st.there in
        let from = (are.within moved.0 no_slot st.below).from in
        let base = scratchpad_placed v board laid.layout in
        omega (arith, there, from, base)
    | inr home ↦
        let there = home.there in
        let placed_home = (object_extends v board g o laid.graph.objects).placed in
        omega (arith, there, placed_home)
  ]

  below : (o : ℕ) → place o + (object_of g o).size < 4294967296
  below o = elim (where_is o) [
    | inl moved ↦
        let st = moved.1 in
        let there = st.there in
        let room = st.room in
        let to = (are.within moved.0 no_slot st.below).to in
        let ends = (laid.lawful.ranges 1 no_area (omega arith)).within in
        omega (arith, there, room, to, ends)
    | inr home ↦
        let there = home.there in
        let ends = (object_extends v board g o laid.graph.objects).ends in
        omega (arith, there, ends)
  ]

  -- a place in a slot lies in the scratchpad
  off_home : (o p i j k : ℕ) → StandsIn g slots region o (place o) k → StandsAtHome g slots region p (place p) → i < (object_of g o).size → j < (object_of g p).size → place o + i ≡ place p + j → ⊥
  off_home o p i j k st home inside inside_other same =
      let there = st.there in
      let room = st.room in
      let lies_in_spm = are.within k no_slot st.below in
      let from = lies_in_spm.from in
      let to = lies_in_spm.to in
      let at_home = home.there in
      let at : ℕ = (slot_at slots k).at in
      let low : ℕ = (object_of g o).home % g.grain in
      let base : ℕ = board.spm.base in
      let offset = spot at low i base board.spm.size (slot_at slots k).span (object_of g o).size from to room inside in
      home_off_scratchpad v board g p j offset.0 laid.layout laid.graph.objects inside_other offset.1.0
      (omega (arith, offset.1.1, there, at_home, same))
    where
      spot : (at low i base total span size : ℕ) → base ≤ at → at + span ≤ base + total → low + size ≤ span → i < size → (n : ℕ) × ((n < total) × (at + low + i ≡ base + n))
      spot at low i base total span size from to room inside = (at - base + low + i, (omega (arith, from, to, room, inside), omega (arith, from)))

  disjoint : (o p i j : ℕ) → (o ≡ p → ⊥) → i < (object_of g o).size → j < (object_of g p).size → place o + i ≡ place p + j → ⊥
  disjoint o p i j other inside inside_other same = elim (where_is o) [
    | inl here ↦ elim (where_is p) [
      | inl there ↦ both_moved o p i j other inside inside_other same here.0 here.1 there.0 there.1
      | inr home ↦ off_home o p i j here.0 here.1 home inside inside_other same
    ]
    | inr home ↦ elim (where_is p) [
      | inl there ↦ off_home p o j i there.0 there.1 home inside_other inside (sym same)
      | inr home_too ↦
          let first = home.there in
          let second = home_too.there in
          objects_differ v board g o p i j laid.graph.objects other inside inside_other (omega (arith, first, second, same))
    ]
  ]
    where
      both_moved : (o p i j : ℕ) → (o ≡ p → ⊥) → i < (object_of g o).size → j < (object_of g p).size → place o + i ≡ place p + j → (k : ℕ) → StandsIn g slots region o (place o) k → (l : ℕ) → StandsIn g slots region p (place p) l → ⊥
      both_moved o p i j other inside inside_other same k here l there =
          let s = slot_at slots k in
          let t = slot_at slots l in
          let two : k ≢ l = λ e. other (puts_one s.name region o p here.puts (subst (λ (n : ℕ). puts (slot_at slots n).name region p ≡ true) (sym e) there.puts)) in
          let separate = two_disjoint region slots k l are.disjoint two here.below there.below (puts_present s.name region o here.puts) (puts_present t.name region p there.puts) in
          let first = lies g slots region o (place o) k here in
          let second = lies g slots region p (place p) l there in
          differ s t (place o) (object_of g o).size (place p) (object_of g p).size i j separate first.from first.to second.from second.to inside inside_other same

  pub fits : Fit (objects_of g) place
  fits = record { grain = are.grain; congruent = congruent; positive = positive; below = below; disjoint = disjoint }

  pub off_code : (k o i j : ℕ) → k < length slots → is_code (slot_at slots k).name ≡ true → IsPresent region (slot_at slots k).name → i < (object_of g o).size → j < (slot_at slots k).span → place o + i ≡ (slot_at slots k).at + j → ⊥
  off_code k o i j inside_list code present inside inside_span same = elim (where_is o) [
    | inl moved ↦
        let m : ℕ = moved.0 in
        let st = moved.1 in
        let s = slot_at slots m in
        let t = slot_at slots k in
        let two : m ≢ k = λ e. absurd (cc (puts_data s.name region o st.puts, ap (λ (n : ℕ). is_code (slot_at slots n).name) e, code)) in
        let separate = two_disjoint region slots m k are.disjoint two st.below inside_list (puts_present s.name region o st.puts) present in
        let first = lies g slots region o (place o) m st in
        differ s t (place o) (object_of g o).size t.at t.span i j separate first.from first.to (omega arith) (omega arith) inside inside_span same
    | inr home ↦
        let at_home = home.there in
        let lies_in_spm = are.within k no_slot inside_list in
        let from = lies_in_spm.from in
        let to = lies_in_spm.to in
        let t = slot_at slots k in
        home_off_scratchpad v board g o i (t.at - board.spm.base + j) laid.layout laid.graph.objects inside (omega (arith, from, to, inside_span)) (omega (arith, at_home, same, from))
  ]

pub places_fit : PlacesFit
places_fit v g regions board p c region laid can =
    fits v g regions board region (chosen_slots board p c) laid (are_laid v g regions board p c region laid can)

pub objects_off_code_slots : ObjectsOffCodeSlots
objects_off_code_slots v g regions board p c region laid can k d below code present =
    let slots = chosen_slots board p c in
    let same = get_or_default slots k no_slot d below in
    let off = off_code v g regions board region slots laid (are_laid v g regions board p c region laid can) k in
    subst (λ (s : Slot). AreObjectsOff g (place_of g board p c region) s.at s.span) same
    (λ o i j inside inside_span equal.
    off o i j below (subst (λ (s : Slot). is_code s.name ≡ true) (sym same) code) (subst (λ (s : Slot). IsPresent region s.name) (sym same) present) inside inside_span equal)
