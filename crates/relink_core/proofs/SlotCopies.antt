-- The slots of code and the copies that stand in them, in order.
use Rattle.std.proofs.Common.{◌≡◌, ℕ, zero, suc, ◌+◌, ◌*◌, ◌%◌, ◌<◌, Bool, true, List, [], ◌∷◌, map, length, get_or, slice_index_or, refl, ap, arith}
use Rattle.std.specs.List.{All, AllPairs}
use Rattle.std.proofs.lemmas.List.Elements.{All-nil, All-cons, All-head, All-tail}
use Rattle.std.proofs.lemmas.List.Kept.{AllPairs-cons}
use Rattle.object_graph.specs.declared.parts.Graph.{Graph}
use Rattle.code_blocks.specs.declared.parts.Code.{Code}
use Rattle.block_splitter.specs.declared.block_range.BlockRange.{BlockRange}
use Rattle.block_splitter.specs.Forms.{holds_block}
use Rattle.placement_programme.specs.declared.variables.VarName.{VarName}
use Rattle.placement_programme.specs.declared.variables.VarName.TheVariants.{StaticData, StaticCode, OverlayData, OverlayCode, KeptData}
use Rattle.relocator.specs.declared.slots.Slot.{Slot}
use Rattle.relocator.specs.Slots.{code_slots}
use Rattle.relocator.specs.Laws.{slot_at}
use Rattle.result_laws.specs.ChosenJobs.{code_number}
use Rattle.result_laws.specs.Memories.{IsOfCode}
use Rattle.result_laws.specs.PlacedPieces.{PlacedPiece}
use Rattle.result_laws.specs.ChosenPlacement.{no_piece}
use Rattle.relink_core.specs.declared.placed_copy.PlacedCopy.{PlacedCopy}
use Rattle.relink_core.specs.Copies.{no_range, range_at, CanPlace}
use Rattle.relink_core.specs.Naming.{placed_piece, placed_pieces}
use Rattle.relink_core.specs.Names.{ranges_named}
use Rattle.relink_core.proofs.TakenSlots.{HasCopy, IsNameFor, name_has, HaveNoBlock}

abbrev pub name_of : Slot → VarName
name_of s = s.name

abbrev pub ranges_in : List Slot → List BlockRange
ranges_in slots = ranges_named (map name_of slots)

-- the blocks of a name; none of data
abbrev pub own_range : VarName → BlockRange
own_range (StaticData o) = no_range
own_range (StaticCode first last) = record { first = first; last = last }
own_range (OverlayData own o) = no_range
own_range (OverlayCode own first last) = record { first = first; last = last }
own_range (KeptData pair o) = no_range

-- ---- slots of code, by number

-- the range and the place of a slot of code
pub record IsCoded (slots : List Slot) (k : ℕ) : Type 0 where
  pub below : code_number slots k < length (ranges_in slots)
  pub range : range_at (ranges_in slots) (code_number slots k) ≡ own_range (slot_at slots k).name
  pub at : get_or (code_slots slots) (code_number slots k) 0 ≡ (slot_at slots k).at

coded_more : (name : VarName) (at span : ℕ) (ss : List Slot) (k : ℕ) → ((j : ℕ) → IsOfCode ss j → IsCoded ss j) → IsOfCode (record { name = name; at = at; span = span } ∷ ss) k → IsCoded (record { name = name; at = at; span = span } ∷ ss) k
coded_more (StaticData o) at span ss zero rest is = absurd (cc (is.1))
coded_more (OverlayData own o) at span ss zero rest is = absurd (cc (is.1))
coded_more (KeptData pair o) at span ss zero rest is = absurd (cc (is.1))
coded_more (StaticCode first last) at span ss zero rest is = record { below = omega arith; range = refl; at = refl }
coded_more (OverlayCode own first last) at span ss zero rest is = record { below = omega arith; range = refl; at = refl }
coded_more (StaticData o) at span ss (suc k) rest is =
    let below = is.0 in
    let there = rest k (omega (arith, below), is.1) in
    record { below = there.below; range = there.range; at = there.at }
coded_more (OverlayData own o) at span ss (suc k) rest is =
    let below = is.0 in
    let there = rest k (omega (arith, below), is.1) in
    record { below = there.below; range = there.range; at = there.at }
coded_more (KeptData pair o) at span ss (suc k) rest is =
    let below = is.0 in
    let there = rest k (omega (arith, below), is.1) in
    record { below = there.below; range = there.range; at = there.at }
coded_more (StaticCode first last) at span ss (suc k) rest is =
    let below = is.0 in
    let there = rest k (omega (arith, below), is.1) in
    let inside = there.below in
    record { below = omega (arith, inside); range = there.range; at = there.at }
coded_more (OverlayCode own first last) at span ss (suc k) rest is =
    let below = is.0 in
    let there = rest k (omega (arith, below), is.1) in
    let inside = there.below in
    record { below = omega (arith, inside); range = there.range; at = there.at }

pub coded : (slots : List Slot) (k : ℕ) → IsOfCode slots k → IsCoded slots k
coded [] k is = let below = is.0 in absurd (omega (arith, below))
coded (s ∷ ss) k is = coded_more s.name s.at s.span ss k (coded ss) is

-- ---- how many

count_more : (name : VarName) (at span : ℕ) (ss : List Slot) → length (code_slots ss) ≡ length (ranges_in ss) → length (code_slots (record { name = name; at = at; span = span } ∷ ss)) ≡ length (ranges_in (record { name = name; at = at; span = span } ∷ ss))
count_more (StaticData o) at span ss rest = rest
count_more (StaticCode first last) at span ss rest = ap suc rest
count_more (OverlayData own o) at span ss rest = rest
count_more (OverlayCode own first last) at span ss rest = ap suc rest
count_more (KeptData pair o) at span ss rest = rest

pub count_coded : (slots : List Slot) → length (code_slots slots) ≡ length (ranges_in slots)
count_coded [] = refl
count_coded (s ∷ ss) = count_more s.name s.at s.span ss (count_coded ss)

-- ---- pieces may stand in them

-- a slot is at a multiple of four, and ends below 2 ^ 32
pub record IsPlain (s : Slot) : Type 0 where
  pub even : s.at % 4 ≡ 0
  pub ends : s.at + s.span < 4294967296

module _ (g : Graph) (c : Code) (count : ℕ) (regions : List ℕ) (borders : List Bool) where
  abbrev Named : Slot → Type 0
  Named s = IsNameFor g c count regions borders s.name s.span

  abbrev CanAll : List Slot → Type 0
  CanAll slots =
      (j : ℕ) → j < length (ranges_in slots) → CanPlace c g (range_at (ranges_in slots) j) (get_or (code_slots slots) j 0)

  can_one : (first last at span : ℕ) → HasCopy g c first last span → at % 4 ≡ 0 → at + span < 4294967296 → CanPlace c g (record { first = first; last = last }) at
  can_one first last at span has even ends =
      let room = has.room in
      record { copied = has.copied; aligned = even; ends = omega (arith, room, ends) }

  can_code : (first last at : ℕ) (ss : List Slot) → CanPlace c g (record { first = first; last = last }) at → CanAll ss → (j : ℕ) → j < suc (length (ranges_in ss)) → CanPlace c g (range_at (record { first = first; last = last } ∷ ranges_in ss) j) (get_or (at ∷ code_slots ss) j 0)
  can_code first last at ss here rest zero below = here
  can_code first last at ss here rest (suc j) below = rest j (omega (arith, below))

  can_more : (name : VarName) (at span : ℕ) (ss : List Slot) → Named (record { name = name; at = at; span = span }) → IsPlain (record { name = name; at = at; span = span }) → CanAll ss → CanAll (record { name = name; at = at; span = span } ∷ ss)
  can_more (StaticData o) at span ss named plain rest = rest
  can_more (StaticCode first last) at span ss named plain rest = can_code first last at ss (can_one first last at span named plain.even plain.ends) rest
  can_more (OverlayData own o) at span ss named plain rest = rest
  can_more (OverlayCode own first last) at span ss named plain rest = can_code first last at ss (can_one first last at span named.1.1.0 plain.even plain.ends) rest
  can_more (KeptData pair o) at span ss named plain rest = rest

  pub can_all : (slots : List Slot) → All Named slots → All IsPlain slots → CanAll slots
  can_all [] named plain = λ j below. absurd (omega (arith, below))
  can_all (s ∷ ss) named plain =
      can_more s.name s.at s.span ss (All-head Named s ss named) (All-head IsPlain s ss plain)
      (can_all ss (All-tail Named s ss named) (All-tail IsPlain s ss plain))

-- ---- blocks of pieces

abbrev pub AreApart : BlockRange → BlockRange → Type 0
AreApart r s = (b : ℕ) → holds_block b r ≡ true → holds_block b s ≡ true → ⊥

first_apart : (r : BlockRange) (names : List VarName) → All (λ n. (b : ℕ) → holds_block b r ≡ true → name_has b n ≡ true → ⊥) names → All (AreApart r) (ranges_named names)
first_apart r [] all = All-nil (AreApart r)
first_apart r (StaticData o ∷ ns) all =
    first_apart r ns (All-tail (λ (n : VarName). (b : ℕ) → holds_block b r ≡ true → name_has b n ≡ true → ⊥) (StaticData o) ns all)
first_apart r (OverlayData own o ∷ ns) all =
    first_apart r ns (All-tail (λ (n : VarName). (b : ℕ) → holds_block b r ≡ true → name_has b n ≡ true → ⊥) (OverlayData own o) ns all)
first_apart r (KeptData pair o ∷ ns) all =
    first_apart r ns (All-tail (λ (n : VarName). (b : ℕ) → holds_block b r ≡ true → name_has b n ≡ true → ⊥) (KeptData pair o) ns all)
first_apart r (StaticCode first last ∷ ns) all =
    All-cons (AreApart r) (record { first = first; last = last }) (ranges_named ns)
    (All-head (λ (n : VarName). (b : ℕ) → holds_block b r ≡ true → name_has b n ≡ true → ⊥) (StaticCode first last) ns all)
    (first_apart r ns (All-tail (λ (n : VarName). (b : ℕ) → holds_block b r ≡ true → name_has b n ≡ true → ⊥) (StaticCode first last) ns all))
first_apart r (OverlayCode own first last ∷ ns) all =
    All-cons (AreApart r) (record { first = first; last = last }) (ranges_named ns)
    (All-head (λ (n : VarName). (b : ℕ) → holds_block b r ≡ true → name_has b n ≡ true → ⊥) (OverlayCode own first last) ns all)
    (first_apart r ns (All-tail (λ (n : VarName). (b : ℕ) → holds_block b r ≡ true → name_has b n ≡ true → ⊥) (OverlayCode own first last) ns all))

later : (n : VarName) (ns : List VarName) → AllPairs HaveNoBlock (n ∷ ns) → AllPairs HaveNoBlock ns
later n ns pairs = λ i j d before below. pairs (suc i) (suc j) d (omega (arith, before)) (omega (arith, below))

behind : (n : VarName) (ns : List VarName) → AllPairs HaveNoBlock (n ∷ ns) → All (HaveNoBlock n) ns
behind n ns pairs = λ k d below. pairs 0 (suc k) d (omega arith) (omega (arith, below))

pub ranges_apart : (names : List VarName) → AllPairs HaveNoBlock names → AllPairs AreApart (ranges_named names)
ranges_apart [] pairs = λ i j d before below. absurd (omega (arith, below))
ranges_apart (StaticData o ∷ ns) pairs = ranges_apart ns (later (StaticData o) ns pairs)
ranges_apart (OverlayData own o ∷ ns) pairs = ranges_apart ns (later (OverlayData own o) ns pairs)
ranges_apart (KeptData pair o ∷ ns) pairs = ranges_apart ns (later (KeptData pair o) ns pairs)
ranges_apart (StaticCode first last ∷ ns) pairs =
    AllPairs-cons AreApart (record { first = first; last = last }) (ranges_named ns)
    (first_apart (record { first = first; last = last }) ns (behind (StaticCode first last) ns pairs))
    (ranges_apart ns (later (StaticCode first last) ns pairs))
ranges_apart (OverlayCode own first last ∷ ns) pairs =
    AllPairs-cons AreApart (record { first = first; last = last }) (ranges_named ns)
    (first_apart (record { first = first; last = last }) ns (behind (OverlayCode own first last) ns pairs))
    (ranges_apart ns (later (OverlayCode own first last) ns pairs))

-- ---- copies as pieces

pub count_pieces : (image : ℕ) (xs : List PlacedCopy) → length (placed_pieces image xs) ≡ length xs
count_pieces image [] = refl
count_pieces image (x ∷ xs) = ap suc (count_pieces (image + 4 * length x.code.words.items) xs)

-- piece `n` is copy `n`, with some image
pub piece_at : (image : ℕ) (xs : List PlacedCopy) (n : ℕ) (d : PlacedCopy) → n < length xs → (i : ℕ) × (slice_index_or (placed_pieces image xs) n no_piece ≡ placed_piece i (get_or xs n d))
piece_at image [] n d below = absurd (omega (arith, below))
piece_at image (x ∷ xs) zero d below = (image, refl)
piece_at image (x ∷ xs) (suc n) d below = piece_at (image + 4 * length x.code.words.items) xs n d (omega (arith, below))

pub each_piece : (P : PlacedPiece → Type 0) (image : ℕ) (xs : List PlacedCopy) → All (λ x. (i : ℕ) → P (placed_piece i x)) xs → All P (placed_pieces image xs)
each_piece P image [] all = All-nil P
each_piece P image (x ∷ xs) all =
    All-cons P (placed_piece image x) (placed_pieces (image + 4 * length x.code.words.items) xs)
    (All-head (λ (y : PlacedCopy). (i : ℕ) → P (placed_piece i y)) x xs all image)
    (each_piece P (image + 4 * length x.code.words.items) xs (All-tail (λ (y : PlacedCopy). (i : ℕ) → P (placed_piece i y)) x xs all))

pub two_pieces : (R : PlacedPiece → PlacedPiece → Type 0) (image : ℕ) (xs : List PlacedCopy) → AllPairs (λ x y. (i j : ℕ) → R (placed_piece i x) (placed_piece j y)) xs → AllPairs R (placed_pieces image xs)
two_pieces R image [] all = λ i j d before below. absurd (omega (arith, below))
two_pieces R image (x ∷ xs) all =
    let next = image + 4 * length x.code.words.items in
    AllPairs-cons R (placed_piece image x) (placed_pieces next xs)
    (each_piece (R (placed_piece image x)) next xs (λ k d below. λ j. all 0 (suc k) d (omega arith) (omega (arith, below)) image j))
    (two_pieces R next xs (λ i j d before below. all (suc i) (suc j) d (omega (arith, before)) (omega (arith, below))))
