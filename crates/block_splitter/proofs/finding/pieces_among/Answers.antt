use Rattle.std.proofs.Common.{refl}
use Rattle.std.proofs.lemmas.List.{get_or_default}
use Rattle.block_splitter.proofs.PieceLemmas.{pieces_more, are_pieces}
use Rattle.block_splitter.proofs.finding.pieces_among.Goals as goal

pub loop-k-preserved : goal.loop-k-preserved
loop-k-preserved c = λ g table.
    let told = c.in_ok-add_piece.ensures g table in
    pieces_more c.args.code.now g c.args.ranges.now c.loop-k.k _ _ c.loop-k.pieces.items c.add_piece.new.pieces.items c.requires.ranges c.loop-k-test.true refl (get_or_default c.args.ranges.now c.loop-k.k _ _ c.loop-k-test.true) (c.loop-k.invariant g table) told

pub returns : goal.returns
returns c = λ g table.
    are_pieces c.args.code.now g c.args.ranges.now c.loop-k.k c.loop-k.pieces.items c.requires.ranges c.loop-k-test.false (c.loop-k.invariant g table)
