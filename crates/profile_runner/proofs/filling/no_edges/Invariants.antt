use Rattle.std.proofs.Common.{◌≡◌, [], replicate}
use Rattle.profile_runner.specs.Tallies.{plain_edges}
use Rattle.profile_runner.proofs.filling.no_edges.Given as goal

abbrev pub invariant-loop : goal.invariant-loop
invariant-loop l = plain_edges l.rows.items ≡ replicate l.counter []
