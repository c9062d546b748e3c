use Rattle.std.proofs.Common.{drop}
use Rattle.reach_graph.specs.Reaching.{plain_rows}
use Rattle.points_to.specs.Rows.{AreRows}
use Rattle.points_to.specs.Nodes.{Adds, UnitEdges}
use Rattle.points_to.proofs.sources.push_units.Given as goal

-- the units from k on are done
abbrev pub invariant-loop-k : goal.invariant-loop-k
invariant-loop-k l =
    AreRows l.graph.sites.items (drop l.k l.units) l.rows
    × Adds (UnitEdges l.nodes.blocks l.block l.graph.sites.items (drop l.k l.units)) (plain_rows l.fn.graph_edges) (plain_rows l.graph_edges)
