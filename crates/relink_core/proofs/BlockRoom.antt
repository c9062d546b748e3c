-- The stubs of all blocks that are served take at most what their blocks have room for.
use Rattle.std.proofs.Common.{◌≡◌, ◌∙◌, inl, inr, ℕ, ◌+◌, ◌*◌, ◌<◌, ◌≤◌, ◌==◌, Bool, true, false, List, [], ◌∷◌, length, get_or, refl, sym, ap, subst, arith, if◌then◌else◌}
use Rattle.std.specs.List.{All, AllPairs, sum_by, list_any}
use Rattle.std.proofs.lemmas.List.{get_or_default}
use Rattle.std.proofs.lemmas.List.Folds.{Any-from_list_any, list_any_at, list_any_none}
use Rattle.std.proofs.lemmas.List.Sums.{sum_by-cons}
use Rattle.list_checks.specs.Sorted.{sum_below}
use Rattle.list_checks.proofs.TestLemmas.{either, both}
use Rattle.object_graph.specs.declared.parts.Graph.{Graph}
use Rattle.code_blocks.specs.Numbers.{start_at}
use Rattle.code_blocks.specs.declared.parts.Code.{Code}
use Rattle.dataflow.specs.Overlaid.{region_in, is_border}
use Rattle.block_splitter.specs.Forms.{holds_block, body_at, is_site, kind_of}
use Rattle.block_splitter.specs.Pieces.{is_entry}
use Rattle.patch_code.specs.Homes.{HaveHomes}
use Rattle.patch_code.specs.Serving.{ServingStub, test_bytes, body_bytes, serving_home, serving_size, serving_bytes}
use Rattle.patch_code.specs.Overlay.{OverlayPlan}
use Rattle.patch_code.specs.Served.{body_at as stub_body_at}
use Rattle.result_laws.specs.Entries.{TellsBorders}
use Rattle.result_laws.specs.LiveUnits.{code_unit}
use Rattle.result_laws.specs.PlacedPieces.{PlacedPiece, HaveOtherBlocks}
use Rattle.result_laws.specs.Choices.{displaced_at}
use Rattle.result_laws.specs.ChosenPlacement.{ChosenPlacement, no_piece, piece_of, IsChosenPiece}
use Rattle.result_laws.specs.PlacedView.{enters_piece, is_served, IsUncopied, HasBody, ToCopy, Displaced, Serves, ServesSome}
use Rattle.relink_core.specs.declared.code_regions.CodeRegions.{CodeRegions}
use Rattle.relink_core.specs.declared.copy_source.CopySource.{CopySource}
use Rattle.relink_core.specs.declared.placed_copy.PlacedCopy.{PlacedCopy}
use Rattle.relink_core.specs.StubBlocks.{stub_blocks, stub_size}
use Rattle.relink_core.specs.Serving.{IsPlacedWith, served_blocks, AreStubsFrom}
use Rattle.relink_core.proofs.ServingMade.{copied_same, blocks_same, displaced_count}
use Rattle.relink_core.specs.Counting.{has_copy, served_size}
use Rattle.relink_core.proofs.Sums.{sum_at_most, collected_summed, HasPlace, sizes_within}
use Rattle.relink_core.proofs.StubSizes.{bare_at, border_at, one_enters, none_enters, some_enters, border_enters, room}

-- ---- one stub

test_most : (r : ℕ) → test_bytes r ≤ 88
test_most r = if_few (r == 0)
  where
    if_few : (t : Bool) → (if t then 0 else 88) ≤ 88
    if_few true = omega arith
    if_few false = omega arith

test_by : (t : Bool) (r : ℕ) → test_bytes (if t then r else 0) ≤ (if t then 88 else 0)
test_by true r = test_most r
test_by false r = omega arith

module _ (g : Graph) (c : Code) (pl : ChosenPlacement) where
  copied_there : (b n : ℕ) → n < length pl.pieces → holds_block b (piece_of pl n).range ≡ true → has_copy pl b ≡ true
  copied_there b n below holds = list_any_at (λ x. holds_block b x.range) pl.pieces n no_piece below holds

  copied_nowhere : (b : ℕ) → IsUncopied pl b → has_copy pl b ≡ false
  copied_nowhere b none =
      list_any_none (λ x. holds_block b x.range) pl.pieces
      (λ k d below. subst (λ (x : PlacedPiece). holds_block b x.range ≡ false) (sym (get_or_default pl.pieces k d no_piece below)) (none k below))

  body_size_is : (at b : ℕ) (stub : ServingStub) → HasBody c g pl at b stub → body_bytes stub.body ≡ (if has_copy pl b then 8 else 4 * displaced_at g c b)
  body_size_is at b stub (ToCopy n below holds body) =
      ap body_bytes body ∙ ap (λ (t : Bool). if t then 8 else 4 * displaced_at g c b) (sym (copied_there b n below holds))
  body_size_is at b stub (Displaced words none body are) =
      ap body_bytes body
      ∙ ap (λ (n : ℕ). 4 * n) (displaced_count pl.sites at (code_unit c b 0) (kind_of (is_site g) (body_at c.blocks.items b) 0) words are)
      ∙ ap (λ (t : Bool). if t then 8 else 4 * displaced_at g c b) (sym (copied_nowhere b none))

  size_most : (at b : ℕ) (stub : ServingStub) → Serves c g pl at b stub → serving_size stub ≤ served_size c g pl b
  size_most at b stub serves =
      let region = ap test_bytes serves.region in
      let test = test_by (is_border pl.borders b) (region_in pl.regions b) in
      let body = body_size_is at b stub serves.body in
      omega (arith, region, test, body)

  -- ---- all stubs

  -- what each block's stub takes, if it has one
  abbrev size_at : ℕ → ℕ
  size_at b = if is_served c pl b then served_size c g pl b else 0

  size_there : (b : ℕ) → is_served c pl b ≡ true → size_at b ≡ served_size c g pl b
  size_there b served = ap (λ (t : Bool). if t then served_size c g pl b else 0) served

  has_place : (plan : OverlayPlan) (stub : ServingStub) → ServesSome c g pl plan stub → HasPlace serving_home serving_size (start_at c) size_at (length c.blocks.items) stub
  has_place plan stub some =
      let most = size_most (stub_body_at plan stub) some.block stub some.serves in
      let there = size_there some.block some.served in
      record { place = some.block; below = some.below; stands = some.serves.home; fits = omega (arith, most, there) }

  pub all_within : (plan : OverlayPlan) (stubs : List ServingStub) → HaveHomes serving_home stubs → All (ServesSome c g pl plan) stubs → serving_bytes stubs ≤ sum_by (served_size c g pl) (served_blocks c pl)
  all_within plan stubs apart all =
      let summed = collected_summed (is_served c pl) (served_size c g pl) (length c.blocks.items) in
      let within = sizes_within serving_home serving_size (start_at c) size_at (length c.blocks.items) stubs apart (λ k d below. has_place plan (get_or stubs k d) (all k d below)) in
      omega (arith, summed, within)

  -- those that stand one behind the other
  pub stubs_within : (at : ℕ) (bs : List ℕ) (stubs : List ServingStub) → AreStubsFrom c g pl at bs stubs → serving_bytes stubs ≤ sum_by (served_size c g pl) bs
  stubs_within at [] [] are = omega arith
  stubs_within at [] (stub ∷ stubs) are = absurd are
  stubs_within at (b ∷ bs) [] are = absurd are
  stubs_within at (b ∷ bs) (stub ∷ stubs) are =
      let one = sum_by-cons serving_size stub stubs in
      let other = sum_by-cons (served_size c g pl) b bs in
      let here = size_most (at + 88) b stub are.0 in
      let rest = stubs_within (at + serving_size stub) bs stubs are.1 in
      omega (arith, one, other, here, rest)

-- ---- what blocks have room for

module _ (g : Graph) (c : Code) (pl : ChosenPlacement) (borders : TellsBorders c pl.regions pl.borders) (pieces : All (IsChosenPiece c g pl.regions pl.sites) pl.pieces) (blocks : AllPairs HaveOtherBlocks pl.pieces) where
  abbrev room_at : ℕ → ℕ
  room_at = room g c pl borders pieces blocks

  border_copied : (b : ℕ) → is_border pl.borders b ≡ true → has_copy pl b ≡ true → 96 ≤ room_at b
  border_copied b border copied =
      let found = Any-from_list_any (λ x. holds_block b x.range) pl.pieces copied in
      let n : ℕ = found.0 in
      let holds : holds_block b (get_or pl.pieces n found.1).range ≡ true = ap (λ (x : PlacedPiece). holds_block b x.range) found.3 ∙ found.4 in
      let there : holds_block b (piece_of pl n).range ≡ true = subst (λ (x : PlacedPiece). holds_block b x.range ≡ true) (get_or_default pl.pieces n found.1 no_piece found.2) holds in
      let gain = some_enters c b 8 pl.pieces n no_piece found.2 (border_enters g c pl borders pieces blocks b n found.2 there border) in
      let loss = one_enters c b (border_at g c pl.borders b) pl.pieces blocks in
      let bare : bare_at g c pl.borders b ≡ 88 + 4 * displaced_at g c b = ap (λ (t : Bool). if t then 88 + 4 * displaced_at g c b else 0) border in
      let own : border_at g c pl.borders b ≡ 4 * displaced_at g c b = ap (λ (t : Bool). if t then 4 * displaced_at g c b else 0) border in
      omega (arith, gain, loss, bare, own)

  border_bare : (b : ℕ) → is_border pl.borders b ≡ true → has_copy pl b ≡ false → 88 + 4 * displaced_at g c b ≤ room_at b
  border_bare b border none =
      let bare : bare_at g c pl.borders b ≡ 88 + 4 * displaced_at g c b = ap (λ (t : Bool). if t then 88 + 4 * displaced_at g c b else 0) border in
      let loss = none_enters c b (border_at g c pl.borders b) pl.pieces
      (λ k d below enters.
      let holds = (both (holds_block b (get_or pl.pieces k d).range) (is_entry c (get_or pl.pieces k d).range b) enters).0 in
      let copied = list_any_at (λ x. holds_block b x.range) pl.pieces k d below holds in
      absurd (cc (copied, none))) in
      omega (arith, bare, loss)

  -- at an entry of a piece that is no border
  entry_copied : (b : ℕ) → list_any (enters_piece c b) pl.pieces ≡ true → has_copy pl b ≡ true
  entry_copied b entry =
      let found = Any-from_list_any (enters_piece c b) pl.pieces entry in
      let x = get_or pl.pieces found.0 found.1 in
      let enters : enters_piece c b x ≡ true = ap (enters_piece c b) found.3 ∙ found.4 in
      list_any_at (λ y. holds_block b y.range) pl.pieces found.0 found.1 found.2 (both (holds_block b x.range) (is_entry c x.range b) enters).0

  entry_room : (b : ℕ) → is_border pl.borders b ≡ false → list_any (enters_piece c b) pl.pieces ≡ true → 8 ≤ room_at b
  entry_room b inner entry =
      let found = Any-from_list_any (enters_piece c b) pl.pieces entry in
      let enters : enters_piece c b (get_or pl.pieces found.0 found.1) ≡ true = ap (enters_piece c b) found.3 ∙ found.4 in
      let gain = some_enters c b 8 pl.pieces found.0 found.1 found.2 enters in
      let loss = one_enters c b (border_at g c pl.borders b) pl.pieces blocks in
      let own : border_at g c pl.borders b ≡ 0 = ap (λ (t : Bool). if t then 4 * displaced_at g c b else 0) inner in
      omega (arith, gain, loss, own)

  served_fits : (b : ℕ) → is_served c pl b ≡ true → served_size c g pl b ≤ room_at b
  served_fits b served = by (is_border pl.borders b) refl (has_copy pl b) refl
    where
      size : (t u : Bool) → is_border pl.borders b ≡ t → has_copy pl b ≡ u → served_size c g pl b ≡ (if t then 88 else 0) + (if u then 8 else 4 * displaced_at g c b)
      size t u border copied = λ i. (if border i then 88 else 0) + (if copied i then 8 else 4 * displaced_at g c b)

      by : (t : Bool) → is_border pl.borders b ≡ t → (u : Bool) → has_copy pl b ≡ u → served_size c g pl b ≤ room_at b
      by true border true copied =
          let whole = size true true border copied in
          let fits = border_copied b border copied in
          omega (arith, whole, fits)
      by true border false none =
          let whole = size true false border none in
          let fits = border_bare b border none in
          omega (arith, whole, fits)
      by false inner u copied =
          let entry : list_any (enters_piece c b) pl.pieces ≡ true = elim (either (is_border pl.borders b) (list_any (enters_piece c b) pl.pieces) served) [
            | inl border ↦ absurd (cc (border, inner))
            | inr is ↦ is
          ] in
          let whole = size false true inner (entry_copied b entry) in
          let fits = entry_room b inner entry in
          omega (arith, whole, fits)

  pub served_summed : sum_by (served_size c g pl) (served_blocks c pl) ≤ sum_below room_at (length c.blocks.items)
  served_summed =
      let summed = collected_summed (is_served c pl) (served_size c g pl) (length c.blocks.items) in
      let most = sum_at_most (size_at g c pl) room_at (length c.blocks.items) (λ b below. by b (is_served c pl b) refl) in
      omega (arith, summed, most)
    where
      by : (b : ℕ) (t : Bool) → is_served c pl b ≡ t → size_at g c pl b ≤ room_at b
      by b true served =
          let there = size_there g c pl b served in
          let fits = served_fits b served in
          omega (arith, there, fits)
      by b false bare =
          let none : size_at g c pl b ≡ 0 = ap (λ (t : Bool). if t then served_size c g pl b else 0) bare in
          omega (arith, none)

-- ---- as code asks for them

pub sizes_same : (s : CopySource) (regions : CodeRegions) (copies : List PlacedCopy) (pl : ChosenPlacement) (b : ℕ) → IsPlacedWith s regions copies pl → stub_size s regions copies b ≡ served_size s.code.now s.graph.now pl b
sizes_same s regions copies pl b placed =
    let borders = placed.at_borders in
    let copied = copied_same s regions copies pl b placed in
    λ i. (if is_border (sym borders i) b then 88 else 0) + (if copied i then 8 else 4 * displaced_at s.graph.now s.code.now b)

pub stubs_summed : (s : CopySource) (regions : CodeRegions) (copies : List PlacedCopy) (pl : ChosenPlacement) → IsPlacedWith s regions copies pl → sum_by (stub_size s regions copies) (stub_blocks s.code.now regions copies) ≡ sum_by (served_size s.code.now s.graph.now pl) (served_blocks s.code.now pl)
stubs_summed s regions copies pl placed =
    let blocks = blocks_same s regions copies pl placed in
    λ i. sum_by (λ b. sizes_same s regions copies pl b placed i) (blocks i)
