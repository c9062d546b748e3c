use Rattle.std.proofs.Common.{◌+◌, slice_index_or, refl}
use Rattle.reach_graph.specs.Reaching.{plain_rows}
use Rattle.dataflow.specs.BackEdges.{ListEdges, OneEdge}
use Rattle.dataflow.proofs.GraphEdgeLemmas.{adds_none, adds_both, no_list, list_more}
use Rattle.dataflow.proofs.edges.add_each.Goals as goal

pub loop-i-init : goal.loop-i-init
loop-i-init c = adds_none (ListEdges c.args.nodes.now 0 c.args.to c.args.mask) (plain_rows c.args.rows.now) (no_list c.args.nodes.now c.args.to c.args.mask)

pub loop-i-preserved : goal.loop-i-preserved
loop-i-preserved c =
    let nodes = c.args.nodes.now in
    let i = c.loop-i.i in
    let from = slice_index_or nodes i 0 in
    adds_both (ListEdges nodes i c.args.to c.args.mask) (OneEdge from c.args.to c.args.mask) (ListEdges nodes (i + 1) c.args.to c.args.mask)
    (plain_rows c.args.rows.now) (plain_rows c.loop-i.rows) (plain_rows c.add_edge.new.rows) c.loop-i.invariant c.in_ok-add_edge.ensures
    (list_more nodes i from c.args.to c.args.mask refl)
