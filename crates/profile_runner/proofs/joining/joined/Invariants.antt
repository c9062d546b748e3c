use Rattle.std.proofs.Common.{◌≡◌}
use Rattle.profile_runner.specs.Tallies.{plain_edges, joined_below}
use Rattle.profile_runner.proofs.joining.joined.Given as goal

abbrev pub invariant-loop-row : goal.invariant-loop-row
invariant-loop-row l = l.edges.items ≡ joined_below (plain_edges l.rows) l.row-index
