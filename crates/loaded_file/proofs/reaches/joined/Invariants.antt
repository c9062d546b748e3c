use Rattle.std.proofs.Common.{◌≡◌}
use Rattle.loaded_file.specs.Reaches.{reach_below, reaches_below}
use Rattle.loaded_file.proofs.reaches.joined.Given as goal

abbrev pub invariant-loop-k : goal.invariant-loop-k
invariant-loop-k l = (l.reaches.items ≡ reaches_below l.own l.k) × (l.last ≡ reach_below l.own l.k)
