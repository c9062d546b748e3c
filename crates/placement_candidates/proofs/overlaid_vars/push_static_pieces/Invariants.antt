use Rattle.std.proofs.Common.{◌≡◌, ◌++◌, map, take}
use Rattle.placement_candidates.specs.FullVars.{plain_full_var}
use Rattle.placement_candidates.specs.OverlayCounted.{scene_in, on_var}
use Rattle.placement_candidates.specs.Overlaid.{static_pieces}
use Rattle.placement_candidates.proofs.overlaid_vars.push_static_pieces.Given as goal

abbrev pub invariant-loop-k : goal.invariant-loop-k
invariant-loop-k l = map plain_full_var l.vars.items ≡ map plain_full_var l.initial.vars.items ++ map (on_var l.m) (static_pieces (scene_in l.m) (take l.k l.m.pieces.now))
