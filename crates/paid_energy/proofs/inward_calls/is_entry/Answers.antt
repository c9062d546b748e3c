use Rattle.std.proofs.Common.{◌≡◌, ◌∙◌, true, sym, ap, subst}
use Rattle.block_splitter.specs.declared.block_range.BlockRange.{BlockRange}
use Rattle.block_splitter.specs.Forms.{holds_block}
use Rattle.block_splitter.specs.Pieces.{is_entry, range_of, IsPiece}
use Rattle.relink_core.proofs.PieceSearch.{found_at}
use Rattle.paid_energy.proofs.Listed.{any_of}
use Rattle.paid_energy.proofs.inward_calls.is_entry.Goals as goal

pub bounds-pieces-place : goal.bounds-pieces-place
bounds-pieces-place c =
    let (code, (g, (are, (below, held)))) = c.requires.are in
    (found_at c.args.pieces.now c.args.range.now c.pieces_before-place.result are.ordered (any_of c.args.pieces.now c.args.range.now c.requires.listed) c.pieces_before-place.ensures).below

pub piece_enters-requires : goal.piece_enters-requires
piece_enters-requires c =
    let (code, (g, (are, (below, held)))) = c.requires.are in
    let piece = c.index-pieces-place.result in
    let found = found_at c.args.pieces.now c.args.range.now c.pieces_before-place.result are.ordered (any_of c.args.pieces.now c.args.range.now c.requires.listed) c.pieces_before-place.ensures in
    let same : range_of piece ≡ c.args.range.now = ap range_of c.index-pieces-place.is ∙ found.is piece in (
      code,
      (
        g,
        (
          subst (IsPiece code g) (sym c.index-pieces-place.is) (are.each c.pieces_before-place.result piece found.below),
          (below, subst (λ (range : BlockRange). holds_block c.args.b range ≡ true) (sym same) held),
        ),
      ),
    )

pub returns : goal.returns
returns c code g are below held =
    let piece = c.index-pieces-place.result in
    let found = found_at c.args.pieces.now c.args.range.now c.pieces_before-place.result are.ordered (any_of c.args.pieces.now c.args.range.now c.requires.listed) c.pieces_before-place.ensures in
    let same : range_of piece ≡ c.args.range.now = ap range_of c.index-pieces-place.is ∙ found.is piece in
    c.piece_enters.ensures code g
    (subst (IsPiece code g) (sym c.index-pieces-place.is) (are.each c.pieces_before-place.result piece found.below))
    below (subst (λ (range : BlockRange). holds_block c.args.b range ≡ true) (sym same) held)
    ∙ ap (λ (range : BlockRange). is_entry code range c.args.b) same
