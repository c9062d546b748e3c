use Rattle.std.proofs.Common.{◌≡◌, map, take}
use Rattle.profile_runner.specs.Tallies.{plain_count}
use Rattle.profile_runner.proofs.edge_counts.counts_of.Given as goal

-- the first edges were counted
abbrev pub invariant-loop-k : goal.invariant-loop-k
invariant-loop-k l = l.counts.entries ≡ map plain_count (take l.k l.row)
