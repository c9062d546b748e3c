use Rattle.std.proofs.Common.{◌+◌, map, refl, add-one}
use Rattle.placement_candidates.specs.FullVars.{plain_full_var}
use Rattle.placement_candidates.specs.OverlayCounted.{scene_in, on_var}
use Rattle.placement_candidates.specs.Overlaid.{kept_objects, objects_of_pair}
use Rattle.placement_candidates.proofs.OverlayVarLemmas.{vars_more}
use Rattle.placement_candidates.proofs.overlaid_vars.push_kept_objects.Goals as goal

pub loop-before-preserved : goal.loop-before-preserved
loop-before-preserved c =
    vars_more (on_var c.args.m.now) (map plain_full_var c.args.vars.now.items) (map plain_full_var c.loop-before.vars.items) (map plain_full_var c.push_objects_of_pair.new.vars.items)
    (kept_objects (scene_in c.args.m.now) c.args.objects.now c.loop-before.before) (objects_of_pair (scene_in c.args.m.now) c.args.objects.now (c.loop-before.before + 1)) (kept_objects (scene_in c.args.m.now) c.args.objects.now (c.loop-before.before + 1))
    c.in_ok-push_objects_of_pair.ensures c.loop-before.invariant
    (rw (add-one c.loop-before.before) refl)
