use Rattle.std.proofs.Common.{◌≡◌, ◌++◌, map}
use Rattle.profile_runner.specs.Tallies.{counted_from}
use Rattle.profile_runner.proofs.edge_counts.append_counts.Given as goal

-- the edges so far, and those that are left
abbrev pub invariant-loop-to : goal.invariant-loop-to
invariant-loop-to l =
    l.edges.items ++ map (counted_from l.from) l.to-iterator ≡ l.initial.edges.items ++ map (counted_from l.from) l.counts.entries
