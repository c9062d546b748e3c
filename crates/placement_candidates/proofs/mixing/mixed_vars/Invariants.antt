use Rattle.std.proofs.Common.{◌≡◌, map}
use Rattle.placement_candidates.specs.FullVars.{plain_full_var}
use Rattle.placement_candidates.specs.FullViews.{plain_full_side}
use Rattle.placement_candidates.specs.Parts.{plain_part}
use Rattle.placement_candidates.specs.Mixing.{sides_of, mixed_vars}
use Rattle.placement_candidates.proofs.mixing.mixed_vars.Given as goal

abbrev pub invariant-loop-k : goal.invariant-loop-k
invariant-loop-k l =
    map plain_full_var l.vars.items ≡ mixed_vars (sides_of l.on (map plain_part l.parts)) (plain_full_side l.like).vars l.k
