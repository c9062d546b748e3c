use Rattle.std.proofs.Common.{◌≡◌, [], replicate}
use Rattle.reach_graph.specs.Reaching.{plain_rows}
use Rattle.points_to.proofs.blocks.no_edges.Given as goal

abbrev pub invariant-loop : goal.invariant-loop
invariant-loop l = plain_rows l.rows.items ≡ replicate l.counter []
