use Rattle.placement_candidates.specs.FullViews.{plain_full}
use Rattle.placement_candidates.proofs.OverlaySideLemmas.{can_overlay, whole_is}
use Rattle.placement_candidates.proofs.whole_side.whole_full.Goals as goal

pub on_side-requires : goal.on_side-requires
on_side-requires c =
    let (view, (transitions, given)) = c.requires.run in
    can_overlay c.one_instruction.ensures view c.args.m.now c.args.objects.now transitions given c.requires.pieces c.requires.overlaid c.requires.few

pub returns : goal.returns
returns c = λ view transitions given.
    whole_is c.one_instruction.ensures view c.args.m.now c.args.objects.now transitions given c.requires.pieces c.requires.overlaid (plain_full c.in_ok-whole.whole) (c.in_ok-whole.ensures view transitions given) _ c.in_ok-whole-2.ensures.is c.in_ok-whole-2.ensures.small
