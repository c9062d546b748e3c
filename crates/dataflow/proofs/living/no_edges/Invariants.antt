use Rattle.std.proofs.Common.{◌≡◌, length}
use Rattle.reach_graph.specs.Reaching.{plain_rows}
use Rattle.dataflow.specs.BackEdges.{HasNone}
use Rattle.dataflow.proofs.living.no_edges.Given as goal

abbrev pub invariant-loop : goal.invariant-loop
invariant-loop l = record { size : length l.rows.items ≡ l.counter; bare : HasNone (plain_rows l.rows.items) }
