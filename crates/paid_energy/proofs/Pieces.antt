-- The piece of a block, as energies are counted by names, is the one that is placed.
use Rattle.std.proofs.Common.{◌≡◌, ◌∙◌, inl, inr, ℕ, zero, suc, ◌<◌, Bool, true, false, List, [], ◌∷◌, length, map, Option, Some, None, refl, sym, ap, subst, arith}
use Rattle.std.proofs.lemmas.Bool.{cases_order, cond_both, both_ways}
use Rattle.board_config.specs.declared.board.Board.{Board}
use Rattle.object_graph.specs.declared.parts.Graph.{Graph}
use Rattle.code_blocks.specs.declared.parts.Code.{Code}
use Rattle.block_splitter.specs.declared.block_range.BlockRange.{BlockRange}
use Rattle.block_splitter.specs.Forms.{holds_block}
use Rattle.placement_programme.specs.declared.variables.VarName.{VarName}
use Rattle.placement_programme.specs.declared.variables.VarName.TheVariants.{StaticData, StaticCode, OverlayData, OverlayCode, KeptData}
use Rattle.energy_model.specs.Energy.{piece_in, covering, piece_of}
use Rattle.relocator.specs.declared.slots.Slot.{Slot}
use Rattle.relocator.specs.Slots.{is_code}
use Rattle.relocator.specs.Laws.{slot_at}
use Rattle.result_laws.specs.ChosenJobs.{code_number}
use Rattle.result_laws.specs.Memories.{IsOfCode}
use Rattle.result_laws.specs.ChosenPlacement.{ChosenPlacement, slots_in, no_piece, NamesRange}
use Rattle.result_laws.specs.ChosenPlacement.{piece_of as placed_piece}
use Rattle.result_laws.specs.PlacedView.{IsUncopied}
use Rattle.relink_core.specs.Names.{name_of_slot}
use Rattle.result_laws.specs.PlacedLaws.{IsPlacedResult}
use Rattle.result_laws.proofs.PlacedChosen.{number_below}
use Rattle.result_laws.proofs.Standing.{HasSlot, slot_of}
use Rattle.paid_energy.specs.WalkCosts.{placed_names}

-- ---- in a list of slots

-- slot `k` is that of a piece with a block
record HasPiece (slots : List Slot) (b : ℕ) (range : BlockRange) : Type 0 where
  k : ℕ
  below : k < length slots
  named : piece_in (slot_at slots k).name ≡ Some range
  held : holds_block b range ≡ true

same_some : (x y : BlockRange) → Some x ≡ Some y → x ≡ y
same_some x y same = cc

later : (s : Slot) (ss : List Slot) (b : ℕ) (range : BlockRange) → HasPiece ss b range → HasPiece (s ∷ ss) b range
later s ss b range has =
    let below = has.below in record { k = suc has.k; below = omega (arith, below); named = has.named; held = has.held }

found_by : (s : Slot) (ss : List Slot) (b : ℕ) (range : BlockRange) (o : Option BlockRange) → piece_in s.name ≡ o → (piece_of (map name_of_slot ss) b ≡ Some range → HasPiece ss b range) → covering b o (piece_of (map name_of_slot ss) b) ≡ Some range → HasPiece (s ∷ ss) b range
found_by s ss b range None named rest is = later s ss b range (rest is)
found_by s ss b range (Some piece) named rest is =
    cond_both (holds_block b piece) (Some piece) (piece_of (map name_of_slot ss) b) (λ (x : Option BlockRange). x ≡ Some range → HasPiece (s ∷ ss) b range)
    (λ held same.
    let one : piece ≡ range = same_some piece range same in
    record {
      k = 0;
      below = omega arith;
      named = named ∙ same;
      held = subst (λ (x : BlockRange). holds_block b x ≡ true) one held;
    })
    (λ other same. later s ss b range (rest same)) is

found : (ss : List Slot) (b : ℕ) (range : BlockRange) → piece_of (map name_of_slot ss) b ≡ Some range → HasPiece ss b range
found [] b range is = absurd (cc (is))
found (s ∷ ss) b range is = found_by s ss b range (piece_in s.name) refl (λ there. found ss b range there) is

-- a block of a named piece has one
abbrev HasSome : List Slot → ℕ → Type 0
HasSome ss b = (range : BlockRange) × (piece_of (map name_of_slot ss) b ≡ Some range)

covered : (b : ℕ) (o rest : Option BlockRange) → ((range : BlockRange) × (rest ≡ Some range)) → (range : BlockRange) × (covering b o rest ≡ Some range)
covered b None rest some = some
covered b (Some piece) rest some =
    cond_both (holds_block b piece) (Some piece) rest (λ (x : Option BlockRange). (range : BlockRange) × (x ≡ Some range)) (λ held. (piece, refl)) (λ other. some)

covered_first : (b : ℕ) (o rest : Option BlockRange) (range : BlockRange) → o ≡ Some range → holds_block b range ≡ true → (piece : BlockRange) × (covering b o rest ≡ Some piece)
covered_first b o rest range named held =
    subst (λ (x : Option BlockRange). (piece : BlockRange) × (covering b x rest ≡ Some piece)) (sym named) (range, rw (held) refl)

some_covers : (ss : List Slot) (b k : ℕ) (range : BlockRange) → k < length ss → piece_in (slot_at ss k).name ≡ Some range → holds_block b range ≡ true → HasSome ss b
some_covers [] b k range below named held = absurd (omega (arith, below))
some_covers (s ∷ ss) b zero range below named held =
    covered_first b (piece_in s.name) (piece_of (map name_of_slot ss) b) range named held
some_covers (s ∷ ss) b (suc k) range below named held =
    covered b (piece_in s.name) (piece_of (map name_of_slot ss) b) (some_covers ss b k range (omega (arith, below)) named held)

-- ---- names of ranges

piece_named : (regions : List ℕ) (name : VarName) (range : BlockRange) → NamesRange regions name range → piece_in name ≡ Some range
piece_named regions (StaticData object) range named = absurd named
piece_named regions (StaticCode first last) range named = ap Some (sym named)
piece_named regions (OverlayData own object) range named = absurd named
piece_named regions (OverlayCode own first last) range named = ap Some (sym named.0)
piece_named regions (KeptData pair object) range named = absurd named

named_code : (name : VarName) (range : BlockRange) → piece_in name ≡ Some range → is_code name ≡ true
named_code (StaticData object) range is = absurd (cc (is))
named_code (StaticCode first last) range is = refl
named_code (OverlayData own object) range is = absurd (cc (is))
named_code (OverlayCode own first last) range is = refl
named_code (KeptData pair object) range is = absurd (cc (is))

-- ---- the pieces that are placed

module _ (file out : List ℕ) (board : Board) (g : Graph) (c : Code) (pl : ChosenPlacement) (result : IsPlacedResult file out board g c pl) where
  abbrev slots : List Slot
  slots = slots_in board pl

  -- the piece of a block by names
  abbrev named_piece : ℕ → Option BlockRange
  named_piece b = piece_of (placed_names board pl).names b

  pub record IsPieceOf (b : ℕ) (range : BlockRange) : Type 0 where
    pub n : ℕ
    pub inside : n < length pl.pieces
    pub is : (placed_piece pl n).range ≡ range
    pub held : holds_block b (placed_piece pl n).range ≡ true

  pub piece_there : (b : ℕ) (range : BlockRange) → named_piece b ≡ Some range → IsPieceOf b range
  piece_there b range is =
      let has = found slots b range is in
      let of : IsOfCode slots has.k = (has.below, named_code (slot_at slots has.k).name range has.named) in
      let n : ℕ = code_number slots has.k in
      let stands = result.placement.stand has.k of in
      let same : (placed_piece pl n).range ≡ range =
      same_some (placed_piece pl n).range range
      (sym (piece_named pl.regions (slot_at slots has.k).name (placed_piece pl n).range stands.named) ∙ has.named) in
      record {
        n = n;
        inside = number_below file out board g c pl result has.k of;
        is = same;
        held = subst (λ (x : BlockRange). holds_block b x ≡ true) (sym same) has.held;
      }

  -- no block is taken twice
  pub one_piece : (b n m : ℕ) → n < length pl.pieces → m < length pl.pieces → holds_block b (placed_piece pl n).range ≡ true → holds_block b (placed_piece pl m).range ≡ true → n ≡ m
  one_piece b n m inside below held other =
      elim (cases_order n m) [
        | inl same ↦ same
        | inr (inl less) ↦ absurd (result.placement.blocks n m no_piece less below b held other)
        | inr (inr more) ↦ absurd (result.placement.blocks m n no_piece more inside b other held)
      ]

  pub piece_is : (b n : ℕ) → n < length pl.pieces → holds_block b (placed_piece pl n).range ≡ true → named_piece b ≡ Some (placed_piece pl n).range
  piece_is b n inside held =
      let own : HasSlot board pl n = slot_of file out board g c pl result n inside in
      let some =
      some_covers slots b own.k (placed_piece pl n).range own.of.0
      (piece_named pl.regions (slot_at slots own.k).name (placed_piece pl n).range own.stands.named) held in
      let there = piece_there b some.0 some.1 in
      let same : there.n ≡ n = one_piece b there.n n there.inside inside there.held held in
      some.1 ∙ ap Some (sym there.is ∙ ap (λ (m : ℕ). (placed_piece pl m).range) same)

  pub none_there : (b : ℕ) → named_piece b ≡ None → IsUncopied pl b
  none_there b none n inside = by_held (holds_block b (placed_piece pl n).range) refl
    where
      by_held : (held : Bool) → holds_block b (placed_piece pl n).range ≡ held → holds_block b (placed_piece pl n).range ≡ false
      by_held true is = absurd (cc (sym none ∙ piece_is b n inside is))
      by_held false is = is

  pub none_is : (b : ℕ) → IsUncopied pl b → named_piece b ≡ None
  none_is b uncopied = by_piece (named_piece b) refl
    where
      by_piece : (o : Option BlockRange) → named_piece b ≡ o → named_piece b ≡ None
      by_piece None is = is
      by_piece (Some range) is =
          let there = piece_there b range is in
          absurd (both_ways (holds_block b (placed_piece pl there.n).range) (uncopied there.n there.inside) there.held)
