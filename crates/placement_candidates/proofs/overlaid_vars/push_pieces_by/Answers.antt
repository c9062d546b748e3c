use Rattle.std.proofs.Common.{◌+◌, map, refl, add-one}
use Rattle.placement_candidates.specs.FullVars.{plain_full_var}
use Rattle.placement_candidates.specs.OverlayCounted.{scene_in, on_var}
use Rattle.placement_candidates.specs.Overlaid.{overlaid_pieces, pieces_in}
use Rattle.placement_candidates.proofs.OverlayVarLemmas.{vars_more}
use Rattle.placement_candidates.proofs.overlaid_vars.push_pieces_by.Goals as goal

pub loop-before-preserved : goal.loop-before-preserved
loop-before-preserved c =
    let w = scene_in c.args.m.now in
    let pieces = c.args.m.now.pieces.now in
    let n = c.loop-before.before in
    vars_more (on_var c.args.m.now) (map plain_full_var c.args.vars.now.items) (map plain_full_var c.loop-before.vars.items) (map plain_full_var c.push_pieces_in.new.vars.items)
    (overlaid_pieces w pieces n) (pieces_in w pieces (n + 1)) (overlaid_pieces w pieces (n + 1))
    c.in_ok-push_pieces_in.ensures c.loop-before.invariant
    (rw (add-one c.loop-before.before) refl)
