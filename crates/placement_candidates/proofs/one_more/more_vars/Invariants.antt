use Rattle.std.proofs.Common.{◌≡◌, map}
use Rattle.placement_candidates.specs.FullVars.{plain_full_var}
use Rattle.placement_candidates.specs.FullViews.{plain_full_side}
use Rattle.placement_candidates.specs.OneMore.{more_vars}
use Rattle.placement_candidates.proofs.one_more.more_vars.Given as goal

abbrev pub invariant-loop-k : goal.invariant-loop-k
invariant-loop-k l =
    map plain_full_var l.vars.items ≡ more_vars l.weight (plain_full_side l.side) (plain_full_side l.total).vars l.k
