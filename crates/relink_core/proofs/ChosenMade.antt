-- The copies that are made, and the objects, may stand where a choice puts them.
use Rattle.std.proofs.Common.{◌≡◌, ◌∙◌, inl, inr, ℕ, ◌*◌, ◌%◌, ◌<◌, ◌≤◌, Bool, true, List, [], ◌∷◌, map, length, get_or, refl, sym, ap, subst, arith}
use Rattle.std.specs.List.{All, AllPairs}
use Rattle.std.proofs.lemmas.List.{get_or-map, length-map}
use Rattle.elf_reader.specs.File.{PlainView}
use Rattle.board_config.specs.declared.board.Board.{Board}
use Rattle.object_graph.specs.declared.parts.Graph.{Graph}
use Rattle.code_blocks.specs.Leads.{is_of}
use Rattle.code_blocks.specs.declared.parts.Code.{Code}
use Rattle.dataflow.specs.Overlaid.{region_in}
use Rattle.block_splitter.specs.declared.block_range.BlockRange.{BlockRange}
use Rattle.block_splitter.specs.Forms.{holds_block}
use Rattle.block_splitter.specs.Pieces.{HasShape}
use Rattle.block_splitter.specs.Copies.{Patch}
use Rattle.block_splitter.proofs.CopySizeLemmas.{held}
use Rattle.cell_values.specs.Objects.{IsGrain}
use Rattle.placement_programme.specs.declared.variables.VarName.{VarName}
use Rattle.placement_programme.specs.declared.variables.VarName.TheVariants.{StaticData, StaticCode, OverlayData, OverlayCode, KeptData}
use Rattle.placement_programme.specs.Plain.{PlainProgramme, PlainChoice}
use Rattle.relocator.specs.declared.items.Item.{Item}
use Rattle.relocator.specs.declared.slots.Slot.{Slot}
use Rattle.relocator.specs.Slots.{is_code, first_slots, slots_from, moved_on, code_slots}
use Rattle.relocator.specs.Placing.{chosen_slots}
use Rattle.relocator.specs.Laws.{CanLayOut, IsLaidOut, slot_at, no_slot}
use Rattle.relocator.proofs.FitLemmas.{are_laid}
use Rattle.relocator.proofs.GrainLemmas.{IsTimes}
use Rattle.result_laws.specs.ChosenJobs.{code_number}
use Rattle.result_laws.specs.Memories.{IsOfCode}
use Rattle.result_laws.specs.PlacedPieces.{HaveOtherBlocks}
use Rattle.result_laws.specs.ChosenPlacement.{ChosenPlacement, piece_of, NamesRange, StandsInSlot, IsChosenPiece, MayMove, AreWordsOfUnits, IsChosenPlacement}
use Rattle.relink_core.specs.declared.copy_source.CopySource.{CopySource}
use Rattle.relink_core.specs.declared.placed_copy.PlacedCopy.{PlacedCopy}
use Rattle.relink_core.specs.Copies.{IsPlacedCopy, range_in, place_in, range_at, no_range, ArePlacedCopies}
use Rattle.relink_core.specs.Naming.{placed_pieces}
use Rattle.relink_core.specs.Names.{range_bytes}
use Rattle.relink_core.proofs.RegionFacts.{AreCodeRegions}
use Rattle.relink_core.proofs.TakenSlots.{IsNameFor, HaveNoBlock}
use Rattle.relink_core.proofs.SlotCopies.{name_of, ranges_in, own_range, IsCoded, coded, count_coded, IsPlain, ranges_apart, count_pieces, piece_at, each_piece, two_pieces}

-- ---- slots

grain_even : (grain n : ℕ) → IsGrain grain → IsTimes grain n → n % 4 ≡ 0
grain_even grain n (inl is) (q, same) = let at : n ≡ q * 16 = subst (λ (m : ℕ). n ≡ q * m) is same in omega (arith, at)
grain_even grain n (inr (inl is)) (q, same) = let at : n ≡ q * 32 = subst (λ (m : ℕ). n ≡ q * m) is same in omega (arith, at)
grain_even grain n (inr (inr is)) (q, same) = let at : n ≡ q * 64 = subst (λ (m : ℕ). n ≡ q * m) is same in omega (arith, at)

pub slots_plain : (v : PlainView) (g : Graph) (regions : ℕ) (board : Board) (p : PlainProgramme) (choice : PlainChoice) → IsLaidOut v board g → CanLayOut g regions board p choice → All IsPlain (chosen_slots board p choice)
slots_plain v g regions board p choice laid can k d below =
    let are = are_laid v g regions board p choice 0 laid can in
    let s = get_or (chosen_slots board p choice) k d in
    let to = (are.within k d below).to in
    let ends = (laid.lawful.ranges 1 board.spm (omega arith)).within in
    record { even = grain_even g.grain s.at are.grain (are.times k d below); ends = omega (arith, to, ends) }

-- what holds of the names of two items holds of their slots' names
pub names_of_items : (next : ℕ → ℕ) (items : List Item) → map name_of (slots_from next items) ≡ map (λ i. i.name) items
names_of_items next [] = refl
names_of_items next (i ∷ is) = let rest = names_of_items (moved_on next i) is in λ k. i.name ∷ rest k

pub names_apart : (base : ℕ) (items : List Item) → AllPairs (λ i j. HaveNoBlock i.name j.name) items → AllPairs HaveNoBlock (map name_of (slots_from (first_slots base items) items))
names_apart base items apart =
    subst (AllPairs HaveNoBlock) (sym (names_of_items (first_slots base items) items))
    (λ i j d before below.
    let count = length-map items (λ (x : Item). x.name) in
    let inside : j < length items = omega (arith, count, below) in
    subst (λ (n : VarName). HaveNoBlock n (get_or (map (λ x. x.name) items) j d)) (sym (get_or-map (λ (x : Item). x.name) items i no_item d (omega (arith, before, inside))))
    (subst (λ (m : VarName). HaveNoBlock (get_or items i no_item).name m) (sym (get_or-map (λ (x : Item). x.name) items j no_item d inside)) (apart i j no_item before inside)))
  where
    no_item : Item
    no_item = record { name = StaticData 0; span = 0 }

-- ---- one region a piece

-- the blocks of a piece are of one function
shape_one : (c : Code) (range : BlockRange) → HasShape c range → (f : ℕ) × ((b : ℕ) → holds_block b range ≡ true → is_of c f b ≡ true)
shape_one c range (f, inl whole) = (
  f,
  λ b holds.
      let to = (held b range holds).1 in
      let last = whole.is_range.below in
      whole.exact b (omega (arith, to, last)) ∙ holds,
)
shape_one c range (f, inr (inl loop)) = (f, loop.inside)
shape_one c range (f, inr (inr single)) = (
  f,
  λ b holds.
      let inside = held b range holds in
      let from = inside.0 in
      let to = inside.1 in
      let one = single.single in
      let same : range.first ≡ b = omega (arith, from, to, one) in
      subst (λ (d : ℕ). is_of c f d ≡ true) same single.inside,
)

pub one_region : (c : Code) (count : ℕ) (regions : List ℕ) (borders : List Bool) (range : BlockRange) → AreCodeRegions c count regions borders → HasShape c range → (b d : ℕ) → holds_block b range ≡ true → holds_block d range ≡ true → region_in regions b ≡ region_in regions d
one_region c count regions borders range are shape b d one other =
    let (f, inside) = shape_one c range shape in
    are.one f b d (inside b one) (inside d other)

-- ---- names

-- a name of code is that of its range
range_of_name : (g : Graph) (c : Code) (count : ℕ) (regions : List ℕ) (borders : List Bool) (name : VarName) (span : ℕ) → IsNameFor g c count regions borders name span → is_code name ≡ true → NamesRange regions name (own_range name) × (range_bytes g c (own_range name) ≤ span)
range_of_name g c count regions borders (StaticData o) span is code = absurd (cc (code))
range_of_name g c count regions borders (StaticCode first last) span is code = (refl, is.room)
range_of_name g c count regions borders (OverlayData own o) span is code = absurd (cc (code))
range_of_name g c count regions borders (OverlayCode own first last) span is code = ((refl, is.1.1.1), is.1.1.0.room)
range_of_name g c count regions borders (KeptData pair o) span is code = absurd (cc (code))

may_move : (g : Graph) (c : Code) (count : ℕ) (regions : List ℕ) (borders : List Bool) (name : VarName) (span : ℕ) → IsNameFor g c count regions borders name span → MayMove c g regions borders name
may_move g c count regions borders (StaticData o) span is = tt
may_move g c count regions borders (StaticCode first last) span is = tt
may_move g c count regions borders (OverlayData own o) span is = is.1.1.1
may_move g c count regions borders (OverlayCode own first last) span is = tt
may_move g c count regions borders (KeptData pair o) span is = is.1.1.1

-- ---- the whole

-- where a choice puts copies and objects, with these words of sites
abbrev pub chosen_placement : PlainProgramme → PlainChoice → ℕ → List ℕ → List Bool → ℕ → List PlacedCopy → List Patch → ChosenPlacement
chosen_placement p choice count regions borders image xs sites =
    record {
      programme = p;
      choice = choice;
      count = count;
      regions = regions;
      borders = borders;
      pieces = placed_pieces image xs;
      sites = sites;
    }

module _ (board : Board) (s : CopySource) (p : PlainProgramme) (choice : PlainChoice) (count : ℕ) (regions : List ℕ) (borders : List Bool) (image : ℕ) (xs : List PlacedCopy) (named : All (λ t. IsNameFor s.graph.now s.code.now count regions borders t.name t.span) (chosen_slots board p choice)) (are : ArePlacedCopies s (ranges_in (chosen_slots board p choice)) (code_slots (chosen_slots board p choice)) xs) where
  abbrev g : Graph
  g = s.graph.now

  abbrev c : Code
  c = s.code.now

  abbrev slots : List Slot
  slots = chosen_slots board p choice

  abbrev pl : ChosenPlacement
  pl = chosen_placement p choice count regions borders image xs s.sites.now

  many : length xs ≡ length (ranges_in slots)
  many = sym (length-map xs range_in) ∙ ap (λ (rs : List BlockRange). length rs) are.blocks

  pieces_many : length pl.pieces ≡ length (code_slots slots)
  pieces_many = count_pieces image xs ∙ many ∙ sym (count_coded slots)

  bytes_are : (x : PlacedCopy) → IsPlacedCopy s x → 4 * length x.code.words.items ≡ range_bytes g c x.range
  bytes_are x is = ap (λ (n : ℕ). 4 * n) is.copy.count

  some_copy : (ys : List PlacedCopy) (n : ℕ) → n < length ys → PlacedCopy
  some_copy [] n below = absurd (omega (arith, below))
  some_copy (y ∷ ys) n below = y

  stands : (k : ℕ) → IsOfCode slots k → StandsInSlot regions (slot_at slots k) (piece_of pl (code_number slots k))
  stands k of =
      let there : IsCoded slots k = coded slots k of in
      let n = code_number slots k in
      let below : n < length xs = subst (λ (m : ℕ). n < m) (sym many) there.below in
      let d : PlacedCopy = some_copy xs n below in
      let x : PlacedCopy = get_or xs n d in
      let is : IsPlacedCopy s x = are.each n d below in
      let (i, same) = piece_at image xs n d below in
      let slot = slot_at slots k in
      let range : range_in x ≡ own_range slot.name =
      sym (get_or-map range_in xs n d no_range below) ∙ ap (λ (rs : List BlockRange). range_at rs n) are.blocks ∙ there.range in
      let at : place_in x ≡ slot.at = sym (get_or-map place_in xs n d 0 below) ∙ ap (λ (ns : List ℕ). get_or ns n 0) are.stand ∙ there.at in
      let own = range_of_name g c count regions borders slot.name slot.span (named k no_slot of.0) of.1 in
      let bytes = bytes_are x is in
      let same_bytes : range_bytes g c x.range ≡ range_bytes g c (own_range slot.name) = ap (range_bytes g c) range in
      let room = own.1 in
      subst (StandsInSlot regions slot) (sym same)
      (record {
        named = subst (NamesRange regions slot.name) (sym range) own.0;
        at = at;
        room = omega (arith, bytes, same_bytes, room);
      })

  chosen_pieces : AreCodeRegions c count regions borders → All (IsChosenPiece c g regions s.sites.now) pl.pieces
  chosen_pieces of =
      each_piece (IsChosenPiece c g regions s.sites.now) image xs
      (λ k d below. λ i.
      let x = get_or xs k d in
      let is = are.each k d below in
      record {
        copied = is.can.copied;
        copy = is.copy;
        aligned = is.can.aligned;
        region = one_region c count regions borders x.range of is.can.copied.shape;
      })

  other_blocks : AllPairs HaveNoBlock (map name_of slots) → AllPairs HaveOtherBlocks pl.pieces
  other_blocks apart =
      two_pieces HaveOtherBlocks image xs
      (λ i j d before below. λ m n. λ b one other.
      let inside : j < length (ranges_in slots) = subst (λ (k : ℕ). j < k) many below in
      let first : i < length xs = omega (arith, before, below) in
      ranges_apart (map name_of slots) apart i j no_range before inside b
      (subst (λ (r : BlockRange). holds_block b r ≡ true) (range_is_at i d first) one)
      (subst (λ (r : BlockRange). holds_block b r ≡ true) (range_is_at j d below) other))
    where
      range_is_at : (k : ℕ) (d : PlacedCopy) → k < length xs → range_in (get_or xs k d) ≡ range_at (ranges_in slots) k
      range_is_at k d below = sym (get_or-map range_in xs k d no_range below) ∙ ap (λ (rs : List BlockRange). range_at rs k) are.blocks

  pub placement_is : (v : PlainView) → AreCodeRegions c count regions borders → CanLayOut g count board p choice → AllPairs HaveNoBlock (map name_of slots) → AreWordsOfUnits board v g c pl → IsChosenPlacement board v g c pl
  placement_is v of can apart sites =
      record {
        borders = of.tells;
        below = of.below;
        can = can;
        many = pieces_many;
        stand = stands;
        pieces = chosen_pieces of;
        blocks = other_blocks apart;
        moving = λ k d below. may_move g c count regions borders _ _ (named k d below);
        displaced = λ b is. (of.entered b is).displaced;
        sites = sites;
      }
