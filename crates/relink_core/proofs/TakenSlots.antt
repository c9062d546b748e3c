-- What a choice takes: each slot is that of an object or of a piece of code, has room for it, and no block is in two pieces.
use Rattle.std.proofs.Common.{◌≡◌, ◌≢◌, ◌∙◌, inl, inr, ℕ, zero, suc, ◌+◌, ◌-◌, ◌*◌, ◌<◌, ◌≤◌, Bool, true, false, List, [], ◌∷◌, ◌++◌, replicate, length, get_or, Option, Some, None, IsSomeAnd, length-append, refl, sym, ap, subst, arith}
use Rattle.std.specs.List.{All, AllPairs}
use Rattle.std.proofs.lemmas.Bool.{cases_eq}
use Rattle.std.proofs.lemmas.Bool.Decides.{nat_tests}
use Rattle.std.proofs.lemmas.List.{get_or-map, length-map, get_or_append_left, get_or-append_right, get_or-replicate, length-replicate}
use Rattle.board_config.specs.declared.board.Board.{Board}
use Rattle.object_graph.specs.declared.parts.Graph.{Graph}
use Rattle.code_blocks.specs.declared.parts.Code.{Code}
use Rattle.dataflow.specs.Live.{LiveAt}
use Rattle.dataflow.specs.Overlaid.{region_in, MayBeOverlaid}
use Rattle.region_former.specs.declared.table.RegionTable.{RegionTable}
use Rattle.block_splitter.specs.declared.block_range.BlockRange.{BlockRange}
use Rattle.block_splitter.specs.declared.piece.Piece.{Piece}
use Rattle.block_splitter.specs.Forms.{holds_block}
use Rattle.block_splitter.specs.Pieces.{IsCopied, IsPiece, range_of, ArePieces}
use Rattle.block_splitter.proofs.CopySizeLemmas.{range_is, held}
use Rattle.cell_values.specs.Objects.{IsGrain}
use Rattle.placement_programme.specs.declared.variables.VarName.{VarName}
use Rattle.placement_programme.specs.declared.variables.VarName.TheVariants.{StaticData, StaticCode, OverlayData, OverlayCode, KeptData}
use Rattle.placement_programme.specs.Plain.{PlainVar, PlainSide, PlainProgramme, PlainChoice}
use Rattle.placement_programme.specs.Programme.{weight_in, weight_at, Fits, side_for}
use Rattle.placement_programme.specs.Rows.{Layout, Candidate, Part, static_data, static_code, overlay_data, overlay_code, kept_data, name_of, pairs_of, blocks_of, in_rows, patch_row, block_row, off_block_row, fixed_bytes, code_span, off_code_bytes, on_code_bytes, weights, capacities, on_capacities, off_capacities, IsOfSide}
use Rattle.placement_programme.proofs.AscendLemmas.{number_below}
use Rattle.placement_programme.proofs.RowLemmas.{on_length, off_length}
use Rattle.relocator.specs.declared.items.Item.{Item}
use Rattle.relocator.specs.Slots.{region_of, no_var, name_at, item_at, items_in, vars_for, items_of, first_slots}
use Rattle.relocator.specs.Placing.{chosen_slots}
use Rattle.relocator.proofs.SlotLemmas.{slot_keeps}
use Rattle.relocator.proofs.WeightLemmas.{rounded_least, span_of, IsRowOf, candidate_weighs}
use Rattle.relocator.proofs.LoadLemmas.{weighs, load_held}
use Rattle.relocator.proofs.OwnLemmas.{two_summed}
use Rattle.result_laws.specs.Choices.{side_layout, IsOfPiece, IsCandidateFor, IsVarFor, IsSideFor, IsChoiceFor}
use Rattle.result_laws.specs.PlacementLaws.{regions_on}
use Rattle.relink_core.specs.Names.{range_bytes}
use Rattle.relink_core.specs.PlanLaws.{borders_on}
use Rattle.relink_core.specs.Sides.{blocks_on}

-- ---- names

-- the blocks of a piece may be copied, and a slot of so many bytes has room for the copy
pub record HasCopy (g : Graph) (c : Code) (first last span : ℕ) : Type 0 where
  pub copied : IsCopied c g (record { first = first; last = last })
  pub room : range_bytes g c (record { first = first; last = last }) ≤ span

-- what has a slot, where the code has such regions and borders
abbrev pub IsNameFor : Graph → Code → ℕ → List ℕ → List Bool → VarName → ℕ → Type 0
IsNameFor g c count regions borders (StaticData o) span = o < length g.objects.items
IsNameFor g c count regions borders (StaticCode first last) span = HasCopy g c first last span
IsNameFor g c count regions borders (OverlayData own o) span =
    (1 ≤ own) × ((own ≤ count) × ((o < length g.objects.items) × MayBeOverlaid (λ b x. LiveAt c x b 0) c g regions borders o))
IsNameFor g c count regions borders (OverlayCode own first last) span =
    (1 ≤ own) × ((own ≤ count) × (HasCopy g c first last span × ((b : ℕ) → holds_block b (record { first = first; last = last }) ≡ true → region_in regions b ≡ own)))
IsNameFor g c count regions borders (KeptData pair o) span =
    (1 ≤ pair) × ((2 * pair ≤ count) × ((o < length g.objects.items) × MayBeOverlaid (λ b x. LiveAt c x b 0) c g regions borders o))

pairs_end : (twins : Bool) (regions pair : ℕ) → pair ≤ pairs_of twins regions → 1 ≤ pair → 2 * pair ≤ regions
pairs_end true regions pair below some = omega (arith, below)
pairs_end false regions pair below some = absurd (omega (arith, below, some))

module _ (board : Board) (g : Graph) (c : Code) (t : RegionTable) (pieces : List Piece) (is_grain : IsGrain g.grain) (are : ArePieces c g pieces) where
  piece_copy : (part : Part) (test : ℕ → Type 0) → (of : IsOfPiece g c t pieces part test) → HasCopy g c part.first part.last (code_span g.grain part)
  piece_copy part test of =
      let piece : IsPiece c g of.piece = subst (IsPiece c g) of.listed.2 (are.each of.listed.0 of.piece of.listed.1) in
      let same : range_of of.piece ≡ record { first = part.first; last = part.last } = λ i. record { first = sym of.part_is.first i; last = sym of.part_is.last i } in
      let bytes : part.copied ≡ range_bytes g c (range_of of.piece) = of.part_is.copied ∙ piece.bytes in
      let least = rounded_least g.grain part.copied is_grain in
      let own : range_bytes g c (range_of of.piece) ≡ range_bytes g c (record { first = part.first; last = part.last }) = ap (range_bytes g c) same in
      record { copied = subst (IsCopied c g) same piece.copied; room = omega (arith, bytes, own, least) }

  piece_blocks : (part : Part) (r : ℕ) → IsOfPiece g c t pieces part (λ b. region_in t.of_block.items b ≡ r) → (b : ℕ) → holds_block b (record { first = part.first; last = part.last }) ≡ true → region_in t.of_block.items b ≡ r
  piece_blocks part r of b holds =
      let same : range_of of.piece ≡ record { first = part.first; last = part.last } = λ i. record { first = sym of.part_is.first i; last = sym of.part_is.last i } in
      of.blocks b (subst (λ (range : BlockRange). holds_block b range ≡ true) (sym same) holds)

  candidate_named : (on : Bool) (d : Candidate) → IsOfSide on d → IsCandidateFor board g c t pieces d → IsNameFor g c (regions_on on t) (blocks_on on t) (borders_on on t) (name_of d) (span_of g.grain d)
  candidate_named on (static_data d) side is = is.0
  candidate_named on (static_code part) side is = piece_copy part (λ b. Unit {0}) is
  candidate_named true (overlay_data r d) side is = (is.0.0, (is.0.1, (is.1.0.0, is.1.1)))
  candidate_named false (overlay_data r d) side is = absurd side
  candidate_named true (overlay_code r part) side is = (is.0.0, (is.0.1, (piece_copy part _ is.1, piece_blocks part r is.1)))
  candidate_named false (overlay_code r part) side is = absurd side
  candidate_named true (kept_data pair d) side is =
      (is.0, (pairs_end board.twins t.count pair is.1.0 is.0, (is.1.1.0.0, is.1.1.1)))
  candidate_named false (kept_data pair d) side is = absurd side

-- ---- spans

-- the row of a candidate's own region
own_row : (on : Bool) (l : Layout) (d : Candidate) → IsOfSide on d → IsRowOf on l d (region_of (name_of d))
own_row false l (static_data d) side = refl
own_row false l (static_code part) side = refl
own_row false l (overlay_data r d) side = absurd side
own_row false l (overlay_code r part) side = absurd side
own_row false l (kept_data pair d) side = absurd side
own_row true l (static_data d) side = omega arith
own_row true l (static_code part) side = omega arith
own_row true l (overlay_data r d) side = refl
own_row true l (overlay_code r part) side = refl
own_row true l (kept_data pair d) side = omega arith

layout_grain : (on : Bool) (board : Board) (g : Graph) (c : Code) (t : RegionTable) → (side_layout on board g c t).grain ≡ board.grain
layout_grain false board g c t = refl
layout_grain true board g c t = refl

var_span : (on : Bool) (board : Board) (g : Graph) (c : Code) (t : RegionTable) (pieces : List Piece) (v : PlainVar) → g.grain ≡ board.grain → (is : IsVarFor on board g c t pieces v) → weight_in v.weights (region_of v.name) ≡ span_of g.grain is.candidate
var_span on board g c t pieces v grain is =
    let l = side_layout on board g c t in
    let d : Candidate = is.candidate in
    (λ i. weight_in (is.weights i) (region_of (is.name i)))
    ∙ candidate_weighs on l d (region_of (name_of d)) is.side (own_row on l d is.side)
    ∙ ap (λ (n : ℕ). span_of n d) (layout_grain on board g c t ∙ sym grain)

-- ---- blocks

-- a name is of a piece that has block `b`
abbrev pub name_has : ℕ → VarName → Bool
name_has b (StaticData o) = false
name_has b (StaticCode first last) = holds_block b (record { first = first; last = last })
name_has b (OverlayData own o) = false
name_has b (OverlayCode own first last) = holds_block b (record { first = first; last = last })
name_has b (KeptData pair o) = false

abbrev pub HaveNoBlock : VarName → VarName → Type 0
HaveNoBlock n m = (b : ℕ) → name_has b n ≡ true → name_has b m ≡ true → ⊥

-- the row of a block
abbrev row_in : Bool → Layout → ℕ → ℕ
row_in false l b = off_block_row b
row_in true l b = block_row l b

rows_in : (row count x : ℕ) → row ≤ x → x < row + count → weight_in (in_rows row count 1) x ≡ 1
rows_in row zero x from to = absurd (omega (arith, from, to))
rows_in row (suc count) x from to =
    elim (cases_eq row x) [
      | inl here ↦ grind (arith, nat_tests, here)
      | inr other ↦
          let later = rows_in (suc row) count x (omega (arith, from, other)) (omega (arith, to)) in
          grind (arith, nat_tests, other, later)
    ]

behind_two : (r s n m x : ℕ) (ws : List (ℕ × ℕ)) → r ≢ x → n ≢ x → weight_in ((r, s) ∷ (n, m) ∷ ws) x ≡ weight_in ws x
behind_two r s n m x ws other more = grind (arith, nat_tests, other, more)

behind_rows : (row count value x : ℕ) (p q : List (ℕ × ℕ)) → row + count ≤ x → weight_in ((in_rows row count value ++ p) ++ q) x ≡ weight_in (p ++ q) x
behind_rows row zero value x p q past = refl
behind_rows row (suc count) value x p q past =
    let other : row ≢ x = omega (arith, past) in
    let rest = behind_rows (suc row) count value x p q (omega (arith, past)) in
    grind (arith, nat_tests, other, rest)

behind_one : (n m x : ℕ) (ws : List (ℕ × ℕ)) → n ≢ x → weight_in ((n, m) ∷ ws) x ≡ weight_in ws x
behind_one n m x ws other = grind (arith, nat_tests, other)

-- a piece weighs 1 in the row of each of its blocks
block_weighs : (on : Bool) (l : Layout) (d : Candidate) (b : ℕ) → IsOfSide on d → region_of (name_of d) ≤ l.regions → name_has b (name_of d) ≡ true → weight_in (weights on l d) (row_in on l b) ≡ 1
block_weighs on l (static_data d) b side region has = absurd (cc (has))
block_weighs on l (overlay_data r d) b side region has = absurd (cc (has))
block_weighs on l (kept_data pair d) b side region has = absurd (cc (has))
block_weighs false l (static_code part) b side region has =
    let inside = held b (record { first = part.first; last = part.last }) has in
    let from = inside.0 in
    let to = inside.1 in
    behind_two 0 (code_span l.grain part) 1 (off_code_bytes part) (2 + b) (in_rows (off_block_row part.first) (blocks_of part) 1) (omega arith) (omega arith)
    ∙ rows_in (2 + part.first) (blocks_of part) (2 + b) (omega (arith, from)) (omega (arith, from, to))
block_weighs true l (static_code part) b side region has =
    let inside = held b (record { first = part.first; last = part.last }) has in
    let from = inside.0 in
    let to = inside.1 in
    behind_rows 0 (l.regions + 1) (code_span l.grain part) (block_row l b) ((patch_row l, on_code_bytes part) ∷ []) (in_rows (block_row l part.first) (blocks_of part) 1) (omega arith)
    ∙ behind_one (patch_row l) (on_code_bytes part) (block_row l b) (in_rows (block_row l part.first) (blocks_of part) 1) (omega arith)
    ∙ rows_in (block_row l part.first) (blocks_of part) (block_row l b) (omega (arith, from)) (omega (arith, from, to))
block_weighs false l (overlay_code r part) b side region has = absurd side
block_weighs true l (overlay_code r part) b side region has =
    let inside = held b (record { first = part.first; last = part.last }) has in
    let from = inside.0 in
    let to = inside.1 in
    behind_two r (code_span l.grain part) (patch_row l) (on_code_bytes part) (block_row l b) (in_rows (block_row l part.first) (blocks_of part) 1) (omega (arith, region)) (omega arith)
    ∙ rows_in (block_row l part.first) (blocks_of part) (block_row l b) (omega (arith, from)) (omega (arith, from, to))

-- which can hold one
off_holds : (l : Layout) (b : ℕ) → b < l.blocks → (row_in false l b < length (off_capacities l)) × (get_or (off_capacities l) (row_in false l b) 0 ≡ 1)
off_holds l b below =
    let long = off_length l in
    let place : 2 + b ≡ suc (suc b) = omega arith in
    (omega (arith, long, below), subst (λ (n : ℕ). ◌≡◌ {A = ℕ} (get_or (off_capacities l) n 0) 1) (sym place) (one_at l.blocks b below))
  where
    one_at : (n k : ℕ) → k < n → ◌≡◌ {A = ℕ} (get_or (replicate n 1) k 0) 1
    one_at n k inside = get_or-replicate n k 1 0 inside

abbrev before_blocks : Layout → List ℕ
before_blocks l = replicate (l.regions + 1) l.scratchpad ++ (l.patch - fixed_bytes l) ∷ []

on_holds : (l : Layout) (b : ℕ) → b < l.blocks → (row_in true l b < length (on_capacities l)) × (get_or (on_capacities l) (row_in true l b) 0 ≡ 1)
on_holds l b below =
    let long = on_length l in
    let first = length-replicate (l.regions + 1) l.scratchpad in
    let second = length-append (replicate (l.regions + 1) l.scratchpad) ((l.patch - fixed_bytes l) ∷ []) in
    let blocks = length-replicate {A = ℕ} l.blocks 1 in
    let third = length-append (before_blocks l) (replicate l.blocks 1) in (
      omega (arith, long, below),
      get_or_append_left (before_blocks l ++ replicate l.blocks 1) (replicate (l.objects * l.regions) 1) 0 (block_row l b) (omega (arith, first, second, third, blocks, below))
          ∙ get_or-append_right (before_blocks l) (replicate l.blocks 1) (l.regions + 2) (block_row l b) 0 (omega (arith, first, second)) (omega arith)
          ∙ get_or-replicate l.blocks (block_row l b - (l.regions + 2)) 1 0 (omega (arith, below)),
    )

row_holds : (on : Bool) (l : Layout) (b : ℕ) → b < l.blocks → (row_in on l b < length (capacities on l)) × (get_or (capacities on l) (row_in on l b) 0 ≡ 1)
row_holds false l b below = off_holds l b below
row_holds true l b below = on_holds l b below

-- ---- the items of a side

layout_blocks : (on : Bool) (board : Board) (g : Graph) (c : Code) (t : RegionTable) → (side_layout on board g c t).blocks ≡ length c.blocks.items
layout_blocks false board g c t = refl
layout_blocks true board g c t = refl

layout_regions : (on : Bool) (board : Board) (g : Graph) (c : Code) (t : RegionTable) → (side_layout on board g c t).regions ≡ regions_on on t
layout_regions false board g c t = refl
layout_regions true board g c t = refl

-- a block of a piece is one of the code, and a piece's region is one that there is
name_block : (g : Graph) (c : Code) (count : ℕ) (regions : List ℕ) (borders : List Bool) (name : VarName) (span b : ℕ) → IsNameFor g c count regions borders name span → name_has b name ≡ true → (b < length c.blocks.items) × (region_of name ≤ count)
name_block g c count regions borders (StaticData o) span b is has = absurd (cc (has))
name_block g c count regions borders (OverlayData own o) span b is has = absurd (cc (has))
name_block g c count regions borders (KeptData pair o) span b is has = absurd (cc (has))
name_block g c count regions borders (StaticCode first last) span b is has =
    let to = (held b (record { first = first; last = last }) has).1 in
    let below = (range_is c (record { first = first; last = last }) is.copied.shape).below in
    (omega (arith, to, below), omega arith)
name_block g c count regions borders (OverlayCode own first last) span b is has =
    let to = (held b (record { first = first; last = last }) has).1 in
    let below = (range_is c (record { first = first; last = last }) is.1.1.0.copied.shape).below in
    (omega (arith, to, below), is.1.0)

module _ (board : Board) (g : Graph) (c : Code) (t : RegionTable) (pieces : List Piece) (grain : g.grain ≡ board.grain) (is_grain : IsGrain g.grain) (are : ArePieces c g pieces) (on : Bool) where
  abbrev l : Layout
  l = side_layout on board g c t

  abbrev Named : VarName → ℕ → Type 0
  Named = IsNameFor g c (regions_on on t) (blocks_on on t) (borders_on on t)

  module _ (side : PlainSide) (take : List ℕ) (is : IsSideFor on board g c t pieces side) (fits : Fits side take) where
    number : (i : ℕ) → i < length take → get_or take i 0 < length side.vars
    number i below = number_below 0 (length side.vars) take i 0 fits.numbers below

    var : (k : ℕ) → k < length side.vars → IsVarFor on board g c t pieces (get_or side.vars k no_var)
    var k below = is.vars k no_var below

    item_named : (k : ℕ) → k < length side.vars → Named (item_at side.vars k).name (item_at side.vars k).span
    item_named k below =
        let v = var k below in
        let span : (item_at side.vars k).span ≡ span_of g.grain v.candidate =
        weighs side.vars k (region_of (name_at side.vars k)) ∙ var_span on board g c t pieces (get_or side.vars k no_var) grain v in
        subst (Named (name_at side.vars k)) (sym span)
        (subst (λ (n : VarName). Named n (span_of g.grain v.candidate)) (sym v.name)
        (candidate_named board g c t pieces is_grain are on v.candidate v.side v.is))

    side_items : All (λ i. Named i.name i.span) (items_in side.vars take)
    side_items k d below =
        let count = length-map take (item_at side.vars) in
        let inside : k < length take = omega (arith, count, below) in
        subst (λ (i : Item). Named i.name i.span) (sym (get_or-map (item_at side.vars) take k 0 d inside)) (item_named (get_or take k 0) (number k inside))

    one_weight : (k b : ℕ) → k < length side.vars → name_has b (name_at side.vars k) ≡ true → weight_at side.vars (row_in on l b) k ≡ 1
    one_weight k b below has =
        let v = var k below in
        let of = name_block g c (regions_on on t) (blocks_on on t) (borders_on on t) (name_at side.vars k) (item_at side.vars k).span b (item_named k below) has in
        let count = layout_regions on board g c t in
        let own : region_of (name_at side.vars k) ≡ region_of (name_of v.candidate) = ap region_of v.name in
        let region = of.1 in
        weighs side.vars k (row_in on l b)
        ∙ ap (λ (ws : List (ℕ × ℕ)). weight_in ws (row_in on l b)) v.weights
        ∙ block_weighs on l v.candidate b v.side (omega (arith, region, count, own)) (subst (λ (n : VarName). name_has b n ≡ true) v.name has)

    vars_apart : (i j : ℕ) → i < j → j < length take → HaveNoBlock (name_at side.vars (get_or take i 0)) (name_at side.vars (get_or take j 0))
    vars_apart i j before below b one other =
        let first = number i (omega (arith, before, below)) in
        let second = number j below in
        let blocks = layout_blocks on board g c t in
        let of = (name_block g c (regions_on on t) (blocks_on on t) (borders_on on t) (name_at side.vars (get_or take i 0)) (item_at side.vars (get_or take i 0)).span b (item_named (get_or take i 0) first) one).0 in
        let held_one = row_holds on l b (omega (arith, of, blocks)) in
        let holds : (row_in on l b < length side.rows) × (get_or side.rows (row_in on l b) 0 ≡ 1) =
        subst (λ (rows : List ℕ). (row_in on l b < length rows) × (get_or rows (row_in on l b) 0 ≡ 1)) (sym is.rows) held_one in
        let most = load_held side take (row_in on l b) 1 fits holds in
        let sum = two_summed (weight_at side.vars (row_in on l b)) take i j 0 before below in
        let here = one_weight (get_or take i 0) b first one in
        let there = one_weight (get_or take j 0) b second other in
        omega (arith, most, sum, here, there)

    side_apart : AllPairs (λ i j. HaveNoBlock i.name j.name) (items_in side.vars take)
    side_apart i j d before below =
        let count = length-map take (item_at side.vars) in
        let inside : j < length take = omega (arith, count, below) in
        subst (λ (x : Item). HaveNoBlock x.name (get_or (items_in side.vars take) j d).name) (sym (get_or-map (item_at side.vars) take i 0 d (omega (arith, before, inside))))
        (subst (λ (y : Item). HaveNoBlock (name_at side.vars (get_or take i 0)) y.name) (sym (get_or-map (item_at side.vars) take j 0 d inside)) (vars_apart i j before inside))

  choice_items : (s : Option PlainSide) (take : List ℕ) → IsSomeAnd s (IsSideFor on board g c t pieces) → IsSomeAnd s (λ side. Fits side take) → All (λ i. Named i.name i.span) (items_in (vars_for s) take)
  choice_items None take is fits = absurd is
  choice_items (Some side) take is fits = side_items side take is fits

  choice_apart : (s : Option PlainSide) (take : List ℕ) → IsSomeAnd s (IsSideFor on board g c t pieces) → IsSomeAnd s (λ side. Fits side take) → AllPairs (λ i j. HaveNoBlock i.name j.name) (items_in (vars_for s) take)
  choice_apart None take is fits = absurd is
  choice_apart (Some side) take is fits = side_apart side take is fits

-- ---- the slots of a choice

module _ (board : Board) (g : Graph) (c : Code) (t : RegionTable) (pieces : List Piece) (p : PlainProgramme) (choice : PlainChoice) (grain : g.grain ≡ board.grain) (is_grain : IsGrain g.grain) (are : ArePieces c g pieces) (is : IsChoiceFor board g c t pieces p choice) where
  pub slots_named : All (λ s. IsNameFor g c (regions_on choice.on t) (blocks_on choice.on t) (borders_on choice.on t) s.name s.span) (chosen_slots board p choice)
  slots_named =
      slot_keeps (IsNameFor g c (regions_on choice.on t) (blocks_on choice.on t) (borders_on choice.on t)) (first_slots board.spm.base (items_of p choice)) (items_of p choice)
      (choice_items board g c t pieces grain is_grain are choice.on (side_for p choice.on) choice.take is.side is.feasible)

  pub items_apart : AllPairs (λ i j. HaveNoBlock i.name j.name) (items_of p choice)
  items_apart = choice_apart board g c t pieces grain is_grain are choice.on (side_for p choice.on) choice.take is.side is.feasible
