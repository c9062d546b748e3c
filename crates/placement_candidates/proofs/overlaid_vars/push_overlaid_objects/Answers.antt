use Rattle.std.proofs.Common.{◌+◌, map, refl, add-one}
use Rattle.placement_candidates.specs.FullVars.{plain_full_var}
use Rattle.placement_candidates.specs.OverlayCounted.{scene_in, on_var}
use Rattle.placement_candidates.specs.Overlaid.{overlaid_objects, objects_in}
use Rattle.placement_candidates.proofs.OverlayVarLemmas.{vars_more}
use Rattle.placement_candidates.proofs.overlaid_vars.push_overlaid_objects.Goals as goal

pub loop-before-preserved : goal.loop-before-preserved
loop-before-preserved c =
    vars_more (on_var c.args.m.now) (map plain_full_var c.args.vars.now.items) (map plain_full_var c.loop-before.vars.items) (map plain_full_var c.push_objects_in.new.vars.items)
    (overlaid_objects (scene_in c.args.m.now) c.args.objects.now c.loop-before.before) (objects_in (scene_in c.args.m.now) c.args.objects.now (c.loop-before.before + 1)) (overlaid_objects (scene_in c.args.m.now) c.args.objects.now (c.loop-before.before + 1))
    c.in_ok-push_objects_in.ensures c.loop-before.invariant
    (rw (add-one c.loop-before.before) refl)
