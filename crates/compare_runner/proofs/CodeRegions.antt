-- The regions of the copies of code, and where objects stand: without regions none has one, and each object is at one place.
use Rattle.std.proofs.Common.{◌≡◌, ◌∙◌, ◌⊎◌, inl, inr, ℕ, zero, suc, ◌<◌, ◌+◌, ◌%◌, true, if◌then◌else◌, List, [], ◌∷◌, length, map, slice_index_or, Option, Some, refl, sym, ap, subst, arith}
use Rattle.std.specs.List.{cons_option}
use Rattle.elf_reader.specs.File.{view_in}
use Rattle.board_config.specs.declared.board.Board.{Board}
use Rattle.object_graph.specs.declared.parts.Graph.{Graph}
use Rattle.code_blocks.specs.declared.parts.Code.{Code}
use Rattle.dataflow.specs.Overlaid.{region_in}
use Rattle.block_splitter.specs.Forms.{holds_block}
use Rattle.cell_values.specs.Objects.{object_of}
use Rattle.placement_programme.specs.declared.variables.VarName.{VarName}
use Rattle.placement_programme.specs.declared.variables.VarName.TheVariants.{StaticData, StaticCode, OverlayData, OverlayCode, KeptData}
use Rattle.relocator.specs.declared.slots.Slot.{Slot}
use Rattle.relocator.specs.Placing.{puts, place_in}
use Rattle.relocator.specs.Slots.{is_code}
use Rattle.relocator.specs.Laws.{IsPresent, slot_at}
use Rattle.relocator.proofs.WeightLemmas.{IsAmong}
use Rattle.result_laws.specs.ChosenJobs.{next_code, code_number}
use Rattle.result_laws.proofs.JobChosen.{among}
use Rattle.result_laws.specs.Entries.{RunsIn}
use Rattle.result_laws.specs.ChosenPlacement.{ChosenPlacement, slots_in, places_in, piece_of, NamesRange}
use Rattle.result_laws.specs.PlacedLaws.{IsPlacedResult}
use Rattle.result_laws.proofs.Standing.{HasSlot, laid}
use Rattle.result_laws.proofs.Standing as standing
use Rattle.relink_core.specs.Names.{name_of_slot}
use Rattle.relink_core.specs.UnitMaps.{region_named, regions_named, piece_region}

-- ---- copies

-- the region of a slot of code stands at its number among those of code
number_next : (name : VarName) (rest : List ℕ) (n q : ℕ) → slice_index_or rest n 0 ≡ q → slice_index_or (cons_option (region_named name) rest) (next_code name n) 0 ≡ q
number_next (StaticData object) rest n q is = is
number_next (StaticCode first last) rest n q is = is
number_next (OverlayData region object) rest n q is = is
number_next (OverlayCode region first last) rest n q is = is
number_next (KeptData pair object) rest n q is = is

numbered_region : (slots : List Slot) (k q : ℕ) → k < length slots → region_named (slot_at slots k).name ≡ Some q → slice_index_or (regions_named (map name_of_slot slots)) (code_number slots k) 0 ≡ q
numbered_region [] k q below is = absurd (omega (arith, below))
numbered_region (s ∷ ss) zero q below is = ap (λ (o : Option ℕ). slice_index_or (cons_option o (regions_named (map name_of_slot ss))) 0 0) is
numbered_region (s ∷ ss) (suc k) q below is =
    number_next s.name (regions_named (map name_of_slot ss)) (code_number ss k) q (numbered_region ss k q (omega (arith, below)) is)

module _ (file out : List ℕ) (board : Board) (g : Graph) (c : Code) (pl : ChosenPlacement) (result : IsPlacedResult file out board g c pl) where
  abbrev slots : List Slot
  slots = slots_in board pl

  among_there : (k : ℕ) → k < length slots → IsAmong pl.count (slot_at slots k).name
  among_there k below =
      among (view_in file) g pl.count board pl.programme pl.choice (laid file out board g c pl result) result.placement.can k below

  module _ (n : ℕ) (inside : n < length pl.pieces) where
    abbrev slot : HasSlot board pl n
    slot = standing.slot file out board g c pl result n inside

    named_region : (q : ℕ) → region_named (slot_at slots slot.k).name ≡ Some q → piece_region board pl n ≡ q
    named_region q is =
        subst (λ (m : ℕ). slice_index_or (regions_named (map name_of_slot slots)) m 0 ≡ q) slot.number (numbered_region slots slot.k q slot.of.0 is)

    -- the copy of a piece stands throughout, or in the region of each of its blocks
    pub piece_there : (b r : ℕ) → holds_block b (piece_of pl n).range ≡ true → RunsIn pl.regions b r → (piece_region board pl n ≡ 0) ⊎ (piece_region board pl n ≡ r)
    piece_there b r held runs = by_name (slot_at slots slot.k).name refl slot.stands.named
      where
        by_name : (name : VarName) → (slot_at slots slot.k).name ≡ name → NamesRange pl.regions name (piece_of pl n).range → (piece_region board pl n ≡ 0) ⊎ (piece_region board pl n ≡ r)
        by_name (StaticData object) same named = absurd named
        by_name (StaticCode first last) same named = inl (named_region 0 (ap region_named same))
        by_name (OverlayData own object) same named = absurd named
        by_name (OverlayCode own first last) same named =
            let region : piece_region board pl n ≡ own = named_region own (ap region_named same) in
            let here : region_in pl.regions b ≡ own = named.1 b held in
            elim runs [
              | inl none ↦ inl (region ∙ (sym here ∙ none))
              | inr current ↦ inr (region ∙ (sym here ∙ current))
            ]
        by_name (KeptData pair object) same named = absurd named

    -- and is in the scratchpad while this region is current
    pub here_by_region : (r : ℕ) → (piece_region board pl n ≡ 0) ⊎ (piece_region board pl n ≡ r) → IsPresent r (slot_at slots slot.k).name
    here_by_region r stands = by_name (slot_at slots slot.k).name refl slot.of.1
      where
        by_name : (name : VarName) → (slot_at slots slot.k).name ≡ name → is_code name ≡ true → IsPresent r name
        by_name (StaticData object) same code = absurd (cc (code))
        by_name (StaticCode first last) same code = tt
        by_name (OverlayData own object) same code = absurd (cc (code))
        by_name (OverlayCode own first last) same code =
            let region : piece_region board pl n ≡ own = named_region own (ap region_named same) in
            let among_own : IsAmong pl.count (OverlayCode own first last) = subst (IsAmong pl.count) same (among_there slot.k slot.of.0) in
            let some = among_own.0 in
            elim stands [
              | inl none ↦ absurd (omega (arith, region, some, none))
              | inr current ↦ sym region ∙ current
            ]
        by_name (KeptData pair object) same code = absurd (cc (code))

    -- without regions it stands throughout
    pub piece_always : pl.count ≡ 0 → piece_region board pl n ≡ 0
    piece_always none = by_name (slot_at slots slot.k).name refl slot.stands.named
      where
        by_name : (name : VarName) → (slot_at slots slot.k).name ≡ name → NamesRange pl.regions name (piece_of pl n).range → piece_region board pl n ≡ 0
        by_name (StaticData object) same named = absurd named
        by_name (StaticCode first last) same named = named_region 0 (ap region_named same)
        by_name (OverlayData own object) same named = absurd named
        by_name (OverlayCode own first last) same named =
            let among_own : IsAmong pl.count (OverlayCode own first last) = subst (IsAmong pl.count) same (among_there slot.k slot.of.0) in
            let some = among_own.0 in
            let few = among_own.1 in
            absurd (omega (arith, some, few, none))
        by_name (KeptData pair object) same named = absurd named

  -- ---- objects

  puts_same : (name : VarName) (r q o : ℕ) → pl.count ≡ 0 → IsAmong pl.count name → puts name r o ≡ puts name q o
  puts_same (StaticData object) r q o none is = refl
  puts_same (StaticCode first last) r q o none is = refl
  puts_same (OverlayData own object) r q o none is = let some = is.0 in let few = is.1 in absurd (omega (arith, some, few, none))
  puts_same (OverlayCode own first last) r q o none is = refl
  puts_same (KeptData pair object) r q o none is = let some = is.0 in let few = is.1 in absurd (omega (arith, some, few, none))

  place_same : (ss : List Slot) (grain home r q o : ℕ) → pl.count ≡ 0 → ((k : ℕ) → k < length ss → IsAmong pl.count (slot_at ss k).name) → place_in grain home ss r o ≡ place_in grain home ss q o
  place_same [] grain home r q o none each = refl
  place_same (s ∷ ss) grain home r q o none each =
      let first : puts s.name r o ≡ puts s.name q o = puts_same s.name r q o none (each 0 (omega arith)) in
      let rest : place_in grain home ss r o ≡ place_in grain home ss q o = place_same ss grain home r q o none (λ k below. each (suc k) (omega (arith, below))) in
      λ i. if first i then s.at + home % grain else rest i

  -- without regions each object is at one place
  pub places_same : (r q o : ℕ) → pl.count ≡ 0 → places_in board g pl r o ≡ places_in board g pl q o
  places_same r q o none = place_same slots g.grain (object_of g o).home r q o none among_there
