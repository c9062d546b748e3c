use Rattle.std.proofs.Common.{sym, arith}
use Rattle.placement_candidates.proofs.PieceRegionLemmas.{other_here, same_region}
use Rattle.placement_candidates.proofs.piece_regions.is_of_region.Goals as goal

pub returns-then-index-r : goal.returns-then-index-r
returns-then-index-r c =
    let from = c.loop-b.auto.b in
    let to = c.loop-b-test.true in
    other_here c.args.regions.now.of_block.items c.args.r c.args.piece.now c.loop-b.b c.index.result.now c.requires (omega (arith, from)) (omega (arith, to)) c.index.ensures c.if-index-r.true

pub returns : goal.returns
returns c =
    let end = c.loop-b-test.false in
    sym (same_region c.args.regions.now.of_block.items c.args.r c.args.piece.now (λ b from to. c.loop-b.invariant b from (omega (arith, to, end))))
