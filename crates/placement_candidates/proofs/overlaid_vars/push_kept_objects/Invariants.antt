use Rattle.std.proofs.Common.{◌≡◌, ◌++◌, map}
use Rattle.placement_candidates.specs.FullVars.{plain_full_var}
use Rattle.placement_candidates.specs.OverlayCounted.{scene_in, on_var}
use Rattle.placement_candidates.specs.Overlaid.{kept_objects}
use Rattle.placement_candidates.proofs.overlaid_vars.push_kept_objects.Given as goal

abbrev pub invariant-loop-before : goal.invariant-loop-before
invariant-loop-before l = map plain_full_var l.vars.items ≡ map plain_full_var l.initial.vars.items ++ map (on_var l.m) (kept_objects (scene_in l.m) l.objects l.before)
