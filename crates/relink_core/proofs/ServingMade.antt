-- How the stubs of copies and regions are made.
use Rattle.std.proofs.Common.{◌≡◌, ◌∙◌, inl, inr, ℕ, zero, suc, ◌*◌, ◌<◌, ◌==◌, Bool, true, false, ◌||◌, if◌then◌else◌, List, [], ◌∷◌, map, length, get_or, slice_index_or, refl, sym, ap, subst, arith}
use Rattle.std.specs.List.{All, list_any}
use Rattle.std.proofs.lemmas.Bool.Decides.{nat_tests}
use Rattle.std.proofs.lemmas.List.{length-map, get_or-map}
use Rattle.std.proofs.lemmas.List.Folds.{list_any_at}
use Rattle.list_checks.specs.Sorted.{collected}
use Rattle.list_checks.proofs.TestLemmas.{both, either}
use Rattle.rv32im.proofs.SequenceLemmas.{mean_count}
use Rattle.code_blocks.specs.Numbers.{start_at}
use Rattle.code_blocks.specs.Leads.{units_in, no_unit}
use Rattle.code_blocks.specs.declared.parts.Block.{Block}
use Rattle.code_blocks.specs.declared.parts.Unit.{Unit}
use Rattle.code_blocks.specs.declared.parts.Code.{Code}
use Rattle.dataflow.specs.Overlaid.{region_in, is_border}
use Rattle.block_splitter.specs.declared.block_range.BlockRange.{BlockRange}
use Rattle.block_splitter.specs.declared.unit_kind.UnitKind.{UnitKind}
use Rattle.block_splitter.specs.declared.unit_kind.UnitKind.TheVariants.{Plain, Upper, Branch, Jump, Call, Tail, Indirect, Linking, Halt}
use Rattle.block_splitter.specs.Forms.{body_of, no_body, body_at, unit_in, holds_block, displaced_size}
use Rattle.block_splitter.specs.Pieces.{HasTemporary, is_entry}
use Rattle.block_splitter.specs.Copies.{Copy, Patch, address_of, words_before, IsDisplaced}
use Rattle.patch_code.specs.Serving.{StubBody, jumps_to, ServingStub, test_bytes, body_bytes}
use Rattle.result_laws.specs.LiveUnits.{code_unit}
use Rattle.result_laws.specs.PlacedPieces.{PlacedPiece}
use Rattle.result_laws.specs.ChosenPlacement.{ChosenPlacement, no_piece, piece_of, copy_in}
use Rattle.result_laws.specs.PlacedView.{enters_piece, is_served, IsUncopied, HasBody, ToCopy, Displaced}
use Rattle.relink_core.specs.declared.code_regions.CodeRegions.{CodeRegions}
use Rattle.relink_core.specs.declared.copy_source.CopySource.{CopySource}
use Rattle.relink_core.specs.declared.placed_copy.PlacedCopy.{PlacedCopy}
use Rattle.relink_core.specs.declared.serving_plan.ServingPlan.{ServingPlan}
use Rattle.relink_core.specs.Copies.{copied_in, IsPlacedCopy}
use Rattle.relink_core.specs.StubBlocks.{copy_has, enters_copy, is_copied, needs_stub, stub_blocks, region_tested, test_size, first_kind, body_size, IsServingPlan, NeedsStub, HasCopy, RunsDisplaced}
use Rattle.relink_core.specs.Serving.{without_image, piece_with, IsPlacedWith, served_blocks}

-- ---- pieces of a placement

any_mapped : {X Y : Type 0} (p : Y → Bool) (f : X → Y) (xs : List X) → list_any p (map f xs) ≡ list_any (λ x. p (f x)) xs
any_mapped p f [] = refl
any_mapped p f (x ∷ xs) = ap (λ t. p (f x) || t) (any_mapped p f xs)

not_so : (t : Bool) → (t ≡ true → ⊥) → t ≡ false
not_so true refuted = absurd (refuted refl)
not_so false refuted = refl

none_in : {X : Type 0} (p : X → Bool) (xs : List X) (n : ℕ) (d : X) → list_any p xs ≡ false → n < length xs → p (get_or xs n d) ≡ false
none_in p xs n d none below =
    not_so (p (get_or xs n d)) (λ passes. let found = list_any_at p xs n d below passes in cc (found, none))

-- a test that looks at no image
tested : (p : PlacedPiece → Bool) (s : CopySource) (regions : CodeRegions) (copies : List PlacedCopy) (pl : ChosenPlacement) → ((x : PlacedPiece) → p (without_image x) ≡ p x) → IsPlacedWith s regions copies pl → list_any p pl.pieces ≡ list_any (λ x. p (piece_with x)) copies
tested p s regions copies pl same placed =
    ap (λ (q : PlacedPiece → Bool). list_any q pl.pieces) (λ i x. sym (same x) i)
    ∙ sym (any_mapped p without_image pl.pieces)
    ∙ ap (λ (xs : List PlacedPiece). list_any p xs) placed.are_pieces
    ∙ any_mapped p piece_with copies

pub served_same : (s : CopySource) (regions : CodeRegions) (copies : List PlacedCopy) (pl : ChosenPlacement) (b : ℕ) → IsPlacedWith s regions copies pl → needs_stub s.code.now regions copies b ≡ is_served s.code.now pl b
served_same s regions copies pl b placed =
    let pieces = tested (enters_piece s.code.now b) s regions copies pl (λ x. refl) placed in
    ap (λ (bs : List Bool). is_border bs b || list_any (enters_copy s.code.now b) copies) (sym placed.at_borders)
    ∙ ap (λ (t : Bool). is_border pl.borders b || t) (sym pieces)

pub copied_same : (s : CopySource) (regions : CodeRegions) (copies : List PlacedCopy) (pl : ChosenPlacement) (b : ℕ) → IsPlacedWith s regions copies pl → is_copied copies b ≡ list_any (λ x. holds_block b x.range) pl.pieces
copied_same s regions copies pl b placed = sym (tested (λ x. holds_block b x.range) s regions copies pl (λ x. refl) placed)

pub blocks_same : (s : CopySource) (regions : CodeRegions) (copies : List PlacedCopy) (pl : ChosenPlacement) → IsPlacedWith s regions copies pl → stub_blocks s.code.now regions copies ≡ served_blocks s.code.now pl
blocks_same s regions copies pl placed =
    ap (λ (test : ℕ → Bool). collected test (λ b. b) (length s.code.now.blocks.items)) (λ i b. served_same s regions copies pl b placed i)

as_many : (s : CopySource) (regions : CodeRegions) (copies : List PlacedCopy) (pl : ChosenPlacement) → IsPlacedWith s regions copies pl → length pl.pieces ≡ length copies
as_many s regions copies pl placed =
    sym (length-map pl.pieces without_image)
    ∙ ap (λ (xs : List PlacedPiece). length xs) placed.are_pieces
    ∙ length-map copies piece_with

piece_same : (s : CopySource) (regions : CodeRegions) (copies : List PlacedCopy) (pl : ChosenPlacement) (n : ℕ) (x : PlacedCopy) → IsPlacedWith s regions copies pl → n < length copies → without_image (piece_of pl n) ≡ piece_with (get_or copies n x)
piece_same s regions copies pl n x placed below =
    let many = as_many s regions copies pl placed in
    sym (get_or-map without_image pl.pieces n no_piece no_piece (omega (arith, many, below)))
    ∙ ap (λ (xs : List PlacedPiece). get_or xs n no_piece) placed.are_pieces
    ∙ get_or-map piece_with copies n x no_piece below

pub uncopied : (s : CopySource) (regions : CodeRegions) (copies : List PlacedCopy) (pl : ChosenPlacement) (b : ℕ) → IsPlacedWith s regions copies pl → is_copied copies b ≡ false → IsUncopied pl b
uncopied s regions copies pl b placed none =
    let has : PlacedPiece → Bool = λ x. holds_block b x.range in
    let no_piece_has = sym (copied_same s regions copies pl b placed) ∙ none in
    λ n below. none_in has pl.pieces n no_piece no_piece_has below

-- ---- bodies

pub jump_is : (s : CopySource) (regions : CodeRegions) (copies : List PlacedCopy) (pl : ChosenPlacement) (place b to : ℕ) (x : PlacedCopy) (stub : ServingStub) → IsPlacedWith s regions copies pl → HasCopy copies b x → to ≡ address_of (copied_in s x) (words_before (copied_in s x) b) → stub.body ≡ jumps_to to → HasBody s.code.now s.graph.now pl place b stub
jump_is s regions copies pl place b to x stub placed has leads body =
    let n = has.number in
    let many = as_many s regions copies pl placed in
    let piece : without_image (piece_of pl n) ≡ piece_with x = piece_same s regions copies pl n x placed has.listed ∙ ap piece_with has.there in
    let range = ap (λ (y : PlacedPiece). y.range) piece in
    let at = ap (λ (y : PlacedPiece). y.at) piece in
    let words = placed.words in
    let copy : copied_in s x ≡ copy_in s.code.now s.graph.now pl n =
    λ i. record { code = s.code.now; graph = s.graph.now; range = sym range i; at = sym at i; sites = sym words i } in
    ToCopy n (omega (arith, many, has.listed)) (subst (λ (r : BlockRange). holds_block b r ≡ true) (sym range) has.has_it)
    (body ∙ ap jumps_to leads ∙ ap (λ (y : Copy). jumps_to (address_of y (words_before y b))) copy)

units_same : (blocks : List Block) (b : ℕ) → slice_index_or (map units_in blocks) b [] ≡ (slice_index_or (map body_of blocks) b no_body).units
units_same [] b = refl
units_same (x ∷ xs) zero = refl
units_same (x ∷ xs) (suc b) = units_same xs b

unit_same : (c : Code) (b : ℕ) → unit_in (body_at c.blocks.items b) 0 ≡ code_unit c b 0
unit_same c b = ap (λ (us : List Unit). slice_index_or us 0 no_unit) (sym (units_same c.blocks.items b))

pub words_are : (s : CopySource) (regions : CodeRegions) (copies : List PlacedCopy) (pl : ChosenPlacement) (place at b : ℕ) (body : StubBody) (stub : ServingStub) → IsPlacedWith s regions copies pl → is_copied copies b ≡ false → RunsDisplaced s at b body → place ≡ at → stub.body ≡ body → HasBody s.code.now s.graph.now pl place b stub
words_are s regions copies pl place at b body stub placed none runs here same =
    Displaced runs.words (uncopied s regions copies pl b placed none) (same ∙ runs.runs)
    (subst (λ (ps : List Patch). IsDisplaced ps place (code_unit s.code.now b 0) (first_kind s b) runs.words) (sym placed.words)
    (subst (λ (a : ℕ). IsDisplaced s.sites.now a (code_unit s.code.now b 0) (first_kind s b) runs.words) (sym here)
    (subst (λ (u : Unit). IsDisplaced s.sites.now at u (first_kind s b) runs.words) (unit_same s.code.now b) runs.are)))

pub displaced_count : (sites : List Patch) (at : ℕ) (u : Unit) (kind : UnitKind) (words : List ℕ) → IsDisplaced sites at u kind words → length words ≡ displaced_size kind
displaced_count sites at u Plain words are = ap (λ (ws : List ℕ). length ws) are.words
displaced_count sites at u (Upper rd value) words are = mean_count words _ are
displaced_count sites at u (Branch kind rs1 rs2 target) words are = mean_count words _ are
displaced_count sites at u (Jump target) words are = mean_count words _ are
displaced_count sites at u (Call target back link) words are = mean_count words _ are
displaced_count sites at u (Tail target register) words are = mean_count words _ are
displaced_count sites at u Indirect words are = ap (λ (ws : List ℕ). length ws) are
displaced_count sites at u (Linking back link base imm) words are = mean_count words _ are
displaced_count sites at u Halt words are = ap (λ (ws : List ℕ). length ws) are

pub words_size : (s : CopySource) (copies : List PlacedCopy) (at b : ℕ) (body : StubBody) → is_copied copies b ≡ false → RunsDisplaced s at b body → body_bytes body ≡ body_size s copies b
words_size s copies at b body none runs =
    ap body_bytes runs.runs
    ∙ ap (λ n. 4 * n) (displaced_count s.sites.now at (unit_in (body_at s.code.now.blocks.items b) 0) (first_kind s b) runs.words runs.are)
    ∙ ap (λ (t : Bool). if t then 8 else 4 * displaced_size (first_kind s b)) (sym none)

-- ---- one stub

or_right : (a b : Bool) → b ≡ true → a || b ≡ true
or_right true b passes = refl
or_right false b passes = passes

entered_free : (s : CopySource) (copies : List PlacedCopy) (b : ℕ) → All (IsPlacedCopy s) copies → list_any (enters_copy s.code.now b) copies ≡ true → HasTemporary s.code.now (start_at s.code.now b) 0
entered_free s [] b placed found = cc
entered_free s (x ∷ xs) b placed found =
    elim (either (enters_copy s.code.now b x) (list_any (enters_copy s.code.now b) xs) found) [
      | inl here ↦
          let parts = both (holds_block b x.range) (is_entry s.code.now x.range b) here in
          (placed 0 x (omega arith)).can.copied.entries b parts.0 parts.1
      | inr rest ↦ entered_free s xs b (λ k d below. placed (suc k) d (omega (arith, below))) rest
    ]

entered_copied : (c : Code) (copies : List PlacedCopy) (b : ℕ) → list_any (enters_copy c b) copies ≡ true → is_copied copies b ≡ true
entered_copied c [] b found = cc
entered_copied c (x ∷ xs) b found =
    elim (either (enters_copy c b x) (list_any (enters_copy c b) xs) found) [
      | inl here ↦ ap (λ t. t || is_copied xs b) (both (holds_block b x.range) (is_entry c x.range b) here).0
      | inr rest ↦ or_right (copy_has b x) (is_copied xs b) (entered_copied c xs b rest)
    ]

-- a block that is served has a register for its jump
pub served_free : (w : ServingPlan) (b : ℕ) → IsServingPlan w → NeedsStub w b → HasTemporary w.source.now.code.now (start_at w.source.now.code.now b) 0
served_free w b plan needs =
    elim (either (is_border w.regions.now.border.now b) (list_any (enters_copy w.source.now.code.now b) w.copies.now) needs.served) [
      | inl enters ↦ (plan.borders b needs.below enters).free
      | inr entered ↦ entered_free w.source.now w.copies.now b plan.copies entered
    ]

-- where no copy has it, control enters a region there
pub entered_alone : (w : ServingPlan) (b : ℕ) → NeedsStub w b → is_copied w.copies.now b ≡ false → is_border w.regions.now.border.now b ≡ true
entered_alone w b needs none =
    elim (either (is_border w.regions.now.border.now b) (list_any (enters_copy w.source.now.code.now b) w.copies.now) needs.served) [
      | inl enters ↦ enters
      | inr entered ↦ let copied = entered_copied w.source.now.code.now w.copies.now b entered in cc (copied, none)
    ]

test_bytes_some : (r : ℕ) → 0 < r → test_bytes r ≡ 88
test_bytes_some r some =
    let checked : (r == 0) ≡ false = grind (arith, nat_tests, some) in
    ap (λ (t : Bool). if t then 0 else 88) checked

test_by : (border : Bool) (r : ℕ) → (border ≡ true → 0 < r) → test_bytes (if border then r else 0) ≡ (if border then 88 else 0)
test_by true r some = test_bytes_some r (some refl)
test_by false r some = refl

pub test_is : (w : ServingPlan) (b region : ℕ) → IsServingPlan w → NeedsStub w b → region ≡ region_tested w.regions.now b → test_bytes region ≡ test_size w.regions.now b
test_is w b region plan needs is =
    ap test_bytes is
    ∙ test_by (is_border w.regions.now.border.now b) (region_in w.regions.now.of_block.now b) (λ enters. (plan.borders b needs.below enters).some)

pub region_same : (s : CopySource) (regions : CodeRegions) (copies : List PlacedCopy) (pl : ChosenPlacement) (b : ℕ) → IsPlacedWith s regions copies pl → region_tested regions b ≡ (if is_border pl.borders b then region_in pl.regions b else 0)
region_same s regions copies pl b placed =
    ap (λ (bs : List Bool). if is_border bs b then region_in regions.of_block.now b else 0) (sym placed.at_borders)
    ∙ ap (λ (rs : List ℕ). if is_border pl.borders b then region_in rs b else 0) (sym placed.of_blocks)
