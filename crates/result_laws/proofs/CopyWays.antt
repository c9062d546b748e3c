-- Behind the copy of a unit the flat machine is at the copy of the next one, or words lead out of the copy.
use Rattle.std.proofs.Common.{◌≡◌, ◌∙◌, inl, inr, ℕ, suc, ◌+◌, ◌*◌, ◌<◌, ◌≤◌, Bool, true, false, List, length, drop, slice_index, slice_index_or, Some, refl, sym, ap, subst, arith}
use Rattle.std.specs.Bool.{MatchBool}
use Rattle.std.proofs.lemmas.List.{get_or-take, get_or-drop}
use Rattle.std.proofs.lemmas.Bool.{cases_lt}
use Rattle.board_config.specs.declared.board.Board.{Board}
use Rattle.object_graph.specs.declared.parts.Graph.{Graph}
use Rattle.code_blocks.specs.Leaders.{is_leader}
use Rattle.code_blocks.specs.Numbers.{end_at}
use Rattle.code_blocks.specs.Leads.{units_at, no_unit}
use Rattle.code_blocks.specs.declared.parts.Unit.{Unit}
use Rattle.code_blocks.specs.declared.parts.Code.{Code}
use Rattle.block_splitter.specs.Forms.{body_at, holds_block, copy_size}
use Rattle.block_splitter.specs.Copies.{Copy, is_inside, unit_of, kind_in, words_before, place_of, address_of, words_at, LeadsInside}
use Rattle.result_laws.specs.CopyLaws.{IsCopyOf, IsLow, falls_to, place_behind}
use Rattle.result_laws.specs.Copied.{Lands}
use Rattle.result_laws.proofs.Setting.{setting}
use Rattle.result_laws.proofs.CopiedUnits.{held_below}
use Rattle.result_laws.proofs.Falls.{leads_inside, falls_started}
use Rattle.result_laws.proofs.Places.{units_follow, words_count}
use Rattle.simulation.specs.Units.{StandsAt}
use Rattle.result_laws.specs.LiveUnits.{code_unit, StandsThere}
use Rattle.result_laws.specs.PlacedPieces.{PlacedPiece}
use Rattle.result_laws.proofs.CodeUnits.{body_units, first, units_stand, block_of}
use Rattle.result_laws.specs.Entries.{RunsIn}
use Rattle.result_laws.specs.ChosenPlacement.{ChosenPlacement, piece_of, copy_in, IsChosenPiece}
use Rattle.result_laws.specs.PlacedLaws.{IsPlacedResult}
use Rattle.result_laws.specs.PlacedForms.{InCopy, ArrivesAt, BehindCopy}
use Rattle.result_laws.proofs.Blocks.{begin_leads}
use Rattle.result_laws.proofs.PlacedChosen.{piece_chosen}
use Rattle.result_laws.proofs.Standing.{piece_here, copy_low}
use Rattle.result_laws.proofs.Standing as standing
use Rattle.result_laws.proofs.HomeForms.{block_comes, form_there}

module _ (file out : List ℕ) (board : Board) (g : Graph) (c : Code) (pl : ChosenPlacement) (result : IsPlacedResult file out board g c pl) where
  open (setting file out board g c pl result) use {v, l, plan}

  -- ---- a copy

  module _ (n : ℕ) (inside : n < length pl.pieces) where
    abbrev x : PlacedPiece
    x = piece_of pl n

    abbrev cp : Copy
    cp = copy_in c g pl n

    chosen : IsChosenPiece c g pl.regions pl.sites x
    chosen = piece_chosen file out board g c pl result n inside

    -- the units of a block, told with its end
    pub unit_same : (b k : ℕ) → unit_of cp b k ≡ code_unit c b k
    unit_same b k = ap (λ (us : List Unit). slice_index_or us k no_unit) (body_units c.blocks.items b)

    pub unit_count : (b : ℕ) → length (body_at c.blocks.items b).units ≡ length (units_at c b)
    unit_count b = ap (λ (us : List Unit). length us) (body_units c.blocks.items b)

    pub is_copy : IsCopyOf v cp x.words x.starts
    is_copy =
        record {
          code = result.code;
          piece = chosen.copied;
          copy = chosen.copy;
          aligned = chosen.aligned;
          below = copy_low file out board g c pl result n inside;
          low = λ b k held is.
              let count = unit_count b in
              subst IsLow (sym (unit_same b k)) ((units_stand file board g c result.accepted result.code).low b k (omega (arith, is, count)));
        }

    -- all blocks of a piece run where one does
    pub runs_too : (r b d : ℕ) → holds_block b x.range ≡ true → holds_block d x.range ≡ true → RunsIn pl.regions b r → RunsIn pl.regions d r
    runs_too r b d held other (inl none) = inl (chosen.region d b other held ∙ none)
    runs_too r b d held other (inr here) = inr (chosen.region d b other held ∙ here)

    -- some words of it stand still
    pub words_stand : (r b place size k : ℕ) → holds_block b x.range ≡ true → RunsIn pl.regions b r → place + size ≤ length x.words → k < length (words_at x.words place size) → StandsAt l r (address_of cp place + 4 * k) (slice_index (words_at x.words place size) k)
    words_stand r b place size k held runs fits below =
        let count = words_count x.words place size fits in
        let there : x.at + 4 * (place + k) ≡ address_of cp place + 4 * k = omega arith in
        let here = piece_here file out board g c pl result n inside r b held runs in
        subst (λ a. StandsAt l r a (slice_index (words_at x.words place size) k)) there
        (subst (λ y. StandsAt l r (x.at + 4 * (place + k)) y) (word_there place size k (omega (arith, below, count)))
        (standing.copy_stands file out board g c pl result n inside r here (place + k) (omega (arith, below, count, fits))))
      where
        word_there : (place size k : ℕ) → k < size → slice_index x.words (place + k) ≡ slice_index (words_at x.words place size) k
        word_there place size k small =
            sym (get_or-take size (drop place x.words) k 0 small ∙ get_or-drop place x.words k 0)

  -- ---- behind a unit of a copy

  module _ (n : ℕ) (inside : n < length pl.pieces) (r b : ℕ) (held : holds_block b (piece_of pl n).range ≡ true) (runs : RunsIn pl.regions b r) where
    abbrev y : PlacedPiece
    y = piece_of pl n

    abbrev copy : Copy
    copy = copy_in c g pl n

    abbrev arrive : ℕ → ℕ → Type 0
    arrive u a = ArrivesAt c g pl plan r u a

    pub in_order : b < length c.blocks.items
    in_order = held_below v copy y.words y.starts b (is_copy n inside) held

    -- a unit of the piece may run in it
    pub unit_there : (u d k : ℕ) → holds_block d y.range ≡ true → StandsThere c u d k → arrive u (address_of copy (place_of copy d k))
    unit_there u d k other stands =
        form_there file out board g c pl result r u (address_of copy (place_of copy d k)) d k stands
        (runs_too n inside r b d held other runs) (InCopy u n d k inside other stands)

    -- a block that begins in it
    block_there : (a d : ℕ) → LeadsInside copy a d → arrive a d
    block_there a d leads =
        let e = leads.block in
        let below = held_below v copy y.words y.starts e (is_copy n inside) leads.inside in
        let stands : StandsThere c a e 0 =
        subst (λ (z : ℕ). StandsThere c z e 0) leads.begins (first file board g c result.accepted result.code e below) in
        let none : place_of copy e 0 ≡ words_before copy e = omega arith in
        subst (λ (z : ℕ). arrive a z) (ap (address_of copy) none ∙ sym leads.there) (unit_there a e 0 leads.inside stands)

    -- control that lands at a copied block is there, and else at home
    pub lands_comes : (a to : ℕ) → is_leader v a ≡ true → Lands copy a to → arrive a to
    lands_comes a to leads lands = by_inside (is_inside copy a) lands
      where
        by_inside : (test : Bool) → MatchBool test (LeadsInside copy a to) (to ≡ a) → arrive a to
        by_inside true there = block_there a to there
        by_inside false home = subst (λ (q : ℕ). arrive a q) (sym home) (block_comes file out board g c pl result r a leads)

    -- behind its last unit control falls to the next block
    block_falls : (next : ℕ) → falls_to (end_at c b) ≡ Some next → arrive next (address_of copy (place_behind copy b))
    block_falls next falls = by_inside (is_inside copy next) refl
      where
        copied : IsCopyOf v copy y.words y.starts
        copied = is_copy n inside

        leads : is_leader v next ≡ true
        leads =
            begin_leads file out board g c pl result next (falls_started c (end_at c b) next falls (copied.piece.blocks b held).leads)

        by_inside : (test : Bool) → is_inside copy next ≡ test → arrive next (address_of copy (place_behind copy b))
        by_inside true there =
            block_there next (address_of copy (place_behind copy b)) (leads_inside v copy y.words y.starts copied b next held falls there)
        by_inside false none =
            let there = block_of file board g c result.accepted result.code next leads in
            BehindCopy n b there.0 inside held runs falls none there.1 there.2

    -- behind the copy of a unit the flat machine comes to the next word's
    pub unit_comes : (u k : ℕ) → StandsThere c u b k → (suc k ≡ length (body_at c.blocks.items b).units → falls_to (end_at c b) ≡ Some (u + 4)) → arrive (u + 4) (address_of copy (place_of copy b k) + 4 * copy_size (is_inside copy) (kind_in copy b k))
    unit_comes u k stands falls =
        let follow = units_follow copy b k in
        let counts = unit_count n inside b in
        let is = stands.is in
        subst (λ (q : ℕ). arrive (u + 4) q) follow
        (elim (cases_lt (suc k) (length (units_at c b))) [
          | inl more ↦
              let units = units_stand file board g c result.accepted result.code in
              let here = units.at b k is in
              let at = stands.at in
              let next = units.at b (suc k) more in
              let there : StandsThere c (u + 4) b (suc k) = record { is = more; at = omega (arith, next, here, at) } in
              unit_there (u + 4) b (suc k) held there
          | inr all ↦
              let last : suc k ≡ length (body_at c.blocks.items b).units = omega (arith, all, is, counts) in
              subst (λ (q : ℕ). arrive (u + 4) (address_of copy (place_of copy b q))) (sym last) (block_falls (u + 4) (falls last))
        ])
