use Rattle.std.proofs.Common.{◌≡◌, map}
use Rattle.placement_candidates.specs.FullVars.{plain_full_var}
use Rattle.placement_candidates.specs.Counted.{counted_vars}
use Rattle.placement_candidates.proofs.objects.data_vars.Given as goal

abbrev pub invariant-loop-k : goal.invariant-loop-k
invariant-loop-k l = map plain_full_var l.vars.items ≡ counted_vars l.board.prices l.profile l.graph l.board.grain l.k
