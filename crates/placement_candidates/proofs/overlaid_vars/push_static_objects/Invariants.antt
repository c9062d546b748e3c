use Rattle.std.proofs.Common.{◌≡◌, ◌++◌, map}
use Rattle.placement_candidates.specs.FullVars.{plain_full_var}
use Rattle.placement_candidates.specs.OverlayCounted.{on_var}
use Rattle.placement_candidates.specs.Overlaid.{static_objects}
use Rattle.placement_candidates.proofs.overlaid_vars.push_static_objects.Given as goal

abbrev pub invariant-loop-o : goal.invariant-loop-o
invariant-loop-o l = map plain_full_var l.vars.items ≡ map plain_full_var l.initial.vars.items ++ map (on_var l.m) (static_objects l.m.graph.now l.o)
