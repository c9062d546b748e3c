use Rattle.std.proofs.Common.{◌∙◌, arith, ap}
use Rattle.std.proofs.lemmas.Bool.Decides.{nat_tests}
use Rattle.block_splitter.specs.Pieces.{range_of}
use Rattle.relink_core.proofs.PieceSearch.{found_at}
use Rattle.relink_core.proofs.copying.piece_of.Goals as goal

pub unreachable-requires : goal.unreachable-requires
unreachable-requires c =
    let below = (found_at c.args.pieces.now c.args.range.now c.pieces_before.result c.requires.ordered c.requires.has c.pieces_before.ensures).below in
    let none = c.in-None.ensures.lookup.0 in
    absurd (grind (arith, nat_tests, below, none))

pub returns-clause-range : goal.returns-clause-range
returns-clause-range c =
    let found = found_at c.args.pieces.now c.args.range.now c.pieces_before.result c.requires.ordered c.requires.has c.pieces_before.ensures in
    ap range_of c.in-Some.ensures.lookup.1 ∙ found.is c.in-Some.piece.now
