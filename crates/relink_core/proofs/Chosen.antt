-- Slots of a choice are such for which a plan may be made.
use Rattle.std.proofs.Common.{◌≡◌, ◌∙◌, ℕ, suc, ◌+◌, ◌*◌, ◌<◌, ◌≤◌, Bool, true, false, List, [], ◌∷◌, length, map, get_or, refl, sym, ap, subst, arith, if◌then◌else◌}
use Rattle.std.specs.Prelude.{Option, Some, None, IsSomeAnd}
use Rattle.std.specs.List.{All}
use Rattle.std.proofs.lemmas.List.{length-map}
use Rattle.std.proofs.lemmas.List.Elements.{All-nil, All-cons, All-head, All-tail, All-map}
use Rattle.board_config.specs.declared.board.Board.{Board}
use Rattle.object_graph.specs.declared.parts.Graph.{Graph}
use Rattle.code_blocks.specs.declared.parts.Code.{Code}
use Rattle.region_former.specs.declared.table.RegionTable.{RegionTable}
use Rattle.block_splitter.specs.declared.piece.Piece.{Piece}
use Rattle.placement_programme.specs.declared.variables.VarName.{VarName}
use Rattle.placement_programme.specs.Plain.{PlainSide}
use Rattle.placement_programme.specs.Programme.{side_for, Fits}
use Rattle.placement_programme.specs.Rows.{Candidate, static_data, static_code, overlay_data, overlay_code, kept_data, name_of, pairs_of}
use Rattle.placement_programme.proofs.AscendLemmas.{number_below}
use Rattle.relocator.specs.declared.items.Item.{Item}
use Rattle.relocator.specs.declared.slots.Slot.{Slot}
use Rattle.relocator.specs.Slots.{is_code, code_slots, no_var, item_at, items_in, items_of, vars_for, first_slots}
use Rattle.relocator.specs.Placing.{ArePlaces}
use Rattle.relocator.proofs.SlotLemmas.{slot_keeps}
use Rattle.relocator.proofs.OwnLemmas.{objects_in_slots}
use Rattle.result_laws.specs.ChosenJobs.{HasTwins}
use Rattle.result_laws.specs.Choices.{IsCandidateFor, IsSideFor}
use Rattle.result_laws.specs.ChosenPlacement.{ChosenPlacement, slots_in}
use Rattle.result_laws.specs.PlacedPieces.{PlacedPiece, piece_bytes}
use Rattle.relink_core.specs.declared.placed_copy.PlacedCopy.{PlacedCopy}
use Rattle.relink_core.specs.declared.items.PlannedItems.{PlannedItems}
use Rattle.relink_core.specs.Naming.{IsKnown, name_in, code_count, placed_piece, placed_pieces, copied_bytes, CanPlan}
use Rattle.relink_core.specs.Planning.{IsChosen}
use Rattle.relink_core.specs.PlanLaws.{IsPlacementOf}

-- a name is of the program: its object is one of the graph, and objects are kept only where regions have twins
pub record IsOfProgram (board : Board) (g : Graph) (name : VarName) : Type 0 where
  pub known : IsKnown g name
  pub twins : HasTwins board.twins name

some_pair : (b : Bool) (regions pair : ℕ) → 1 ≤ pair → pair ≤ pairs_of b regions → b ≡ true
some_pair true regions pair some within = refl
some_pair false regions pair some within = absurd (omega (arith, some, within))

module _ (board : Board) (g : Graph) (c : Code) (t : RegionTable) (pieces : List Piece) where
  candidate_is : (d : Candidate) → IsCandidateFor board g c t pieces d → IsOfProgram board g (name_of d)
  candidate_is (static_data d) is = record { known = is.0; twins = tt }
  candidate_is (static_code part) is = record { known = tt; twins = tt }
  candidate_is (overlay_data r d) is = record { known = is.1.0.0; twins = tt }
  candidate_is (overlay_code r part) is = record { known = tt; twins = tt }
  candidate_is (kept_data pair d) is = record { known = is.1.1.0.0; twins = some_pair board.twins t.count pair is.0 is.1.0 }

  items_are : (on : Bool) (take : List ℕ) (s : Option PlainSide) → IsSomeAnd s (IsSideFor on board g c t pieces) → IsSomeAnd s (λ side. Fits side take) → All (λ (i : Item). IsOfProgram board g i.name) (items_in (vars_for s) take)
  items_are on take None is fits = absurd is
  items_are on take (Some side) is fits =
      All-map (λ (i : Item). IsOfProgram board g i.name) (item_at side.vars) take
      (λ k d below.
      let number = get_or take k d in
      let var = is.vars number no_var (number_below 0 (length side.vars) take k d fits.numbers below) in
      subst (λ (n : VarName). IsOfProgram board g n) (sym var.name) (candidate_is var.candidate var.is))

pub slots_are : (file : List ℕ) (board : Board) (g : Graph) (c : Code) (t : RegionTable) (pieces : List Piece) (pl : ChosenPlacement) → IsPlacementOf file board g c t pieces pl → All (λ s. IsOfProgram board g s.name) (slots_in board pl)
slots_are file board g c t pieces pl is =
    slot_keeps (λ name span. IsOfProgram board g name) (first_slots board.spm.base (items_of pl.programme pl.choice)) (items_of pl.programme pl.choice)
    (items_are board g c t pieces pl.choice.on pl.choice.take (side_for pl.programme pl.choice.on) is.choice_is.side is.choice_is.feasible)

-- so objects are kept only where regions have twins
pub kept_twins : (file : List ℕ) (board : Board) (g : Graph) (c : Code) (t : RegionTable) (pieces : List Piece) (pl : ChosenPlacement) → IsPlacementOf file board g c t pieces pl → All (λ s. HasTwins board.twins s.name) (slots_in board pl)
kept_twins file board g c t pieces pl is k d below = (slots_are file board g c t pieces pl is k d below).twins

-- ---- items of a placement

code_counted : (ss : List Slot) → code_count (map name_in ss) ≡ length (code_slots ss)
code_counted [] = refl
code_counted (s ∷ ss) = by (is_code s.name) (code_counted ss)
  where
    by : (b : Bool) → code_count (map name_in ss) ≡ length (code_slots ss) → (if b then suc (code_count (map name_in ss)) else code_count (map name_in ss)) ≡ length (if b then s.at ∷ code_slots ss else code_slots ss)
    by true rest = omega (arith, rest)
    by false rest = rest

pieces_count : (image : ℕ) (xs : List PlacedCopy) → length (placed_pieces image xs) ≡ length xs
pieces_count image [] = refl
pieces_count image (x ∷ xs) = ap suc (pieces_count (image + 4 * length x.code.words.items) xs)

all_small : (image : ℕ) (xs : List PlacedCopy) → All (λ x. piece_bytes x < 4294967296) (placed_pieces image xs) → All (λ x. copied_bytes x < 4294967296) xs
all_small image [] small = All-nil (λ x. copied_bytes x < 4294967296)
all_small image (x ∷ xs) small =
    let next = image + 4 * length x.code.words.items in
    All-cons (λ y. copied_bytes y < 4294967296) x xs (All-head (λ y. piece_bytes y < 4294967296) (placed_piece image x) (placed_pieces next xs) small)
    (all_small next xs (All-tail (λ y. piece_bytes y < 4294967296) (placed_piece image x) (placed_pieces next xs) small))

module _ (file : List ℕ) (board : Board) (c : Code) (t : RegionTable) (pieces : List Piece) (pl : ChosenPlacement) (items : PlannedItems) (image : ℕ) (is : IsPlacementOf file board items.graph.now c t pieces pl) (named : items.names.now ≡ map name_in (slots_in board pl)) (count : items.regions ≡ pl.count) (places : ArePlaces items.graph.now items.regions (slots_in board pl) items.places.now) (made : pl.pieces ≡ placed_pieces image items.copies.now) where
  abbrev g : Graph
  g = items.graph.now

  abbrev slots : List Slot
  slots = slots_in board pl

  -- a plan may be made for them
  pub chosen_is : IsChosen board items slots
  chosen_is = record {
    slotted = record {
      names = named;
      places = places;
      stand = λ region o within. objects_in_slots g pl.count board pl.programme pl.choice region o (omega (arith, within, count)) is.placement.can;
    };
    kept = kept_twins file board g c t pieces pl is;
  }

  pub can_plan : CanPlan items
  can_plan = record {
    known = subst (λ (ns : List VarName). All (IsKnown g) ns) (sym named)
        (All-map (IsKnown g) name_in slots (λ k d below. (slots_are file board g c t pieces pl is k d below).known));
    objects =
        let rows = places.table.objects in
        let long = length-map items.places.now.of.items (λ row. row.items) in
        omega (arith, rows, long);
    rows = λ o below.
        let rows = places.table.objects in
        let wide = places.table.widths o [] (omega (arith, rows, below)) in
        omega (arith, wide);
    slots =
        let counted = ap code_count named ∙ code_counted slots in
        let code = ap (λ (ns : List ℕ). length ns) places.code in
        omega (arith, counted, code);
    copies =
        let counted = ap code_count named ∙ code_counted slots in
        let many = is.placement.many in
        let long = ap (λ (xs : List PlacedPiece). length xs) made ∙ pieces_count image items.copies.now in
        omega (arith, counted, many, long);
    small = all_small image items.copies.now (subst (λ (xs : List PlacedPiece). All (λ x. piece_bytes x < 4294967296) xs) made
        (λ k d below.
        let chosen = is.placement.pieces k d below in
        let words = chosen.copy.count in
        let most = chosen.copied.small in
        omega (arith, words, most)));
  }
