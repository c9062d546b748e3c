use Rattle.std.proofs.Common.{◌+◌, ◌∷◌, [], map, slice_index_or, take}
use Rattle.placement_candidates.specs.FullVars.{plain_full_var}
use Rattle.placement_programme.specs.Rows.{static_code}
use Rattle.block_splitter.specs.declared.piece.Piece.{Piece}
use Rattle.placement_candidates.specs.OverlayCounted.{scene_in, on_var}
use Rattle.placement_candidates.specs.Stated.{part_of}
use Rattle.placement_candidates.specs.Overlaid.{static_pieces}
use Rattle.placement_candidates.proofs.OverlayVarLemmas.{vars_more, mapped_more}
use Rattle.placement_candidates.proofs.overlaid_vars.push_static_pieces.Goals as goal

pub push_static_code-requires-clause-tally : goal.push_static_code-requires-clause-tally
push_static_code-requires-clause-tally c = c.requires.tallies.each c.loop-k.k c.index-m-k.result _ c.loop-k-test.true

pub loop-k-preserved : goal.loop-k-preserved
loop-k-preserved c =
    vars_more (on_var c.args.m.now) (map plain_full_var c.args.vars.now.items) (map plain_full_var c.loop-k.vars.items) (map plain_full_var c.push_static_code.new.vars.items)
    (static_pieces (scene_in c.args.m.now) (take c.loop-k.k c.args.m.now.pieces.now)) (static_code (part_of (scene_in c.args.m.now) (slice_index_or c.args.m.now.pieces.now c.loop-k.k c.index-m-k.result)) ∷ []) (static_pieces (scene_in c.args.m.now) (take (c.loop-k.k + 1) c.args.m.now.pieces.now))
    c.in_ok-push_static_code.ensures c.loop-k.invariant
    (mapped_more Piece (λ p. static_code (part_of (scene_in c.args.m.now) p)) c.args.m.now.pieces.now c.loop-k.k c.index-m-k.result c.loop-k-test.true)
