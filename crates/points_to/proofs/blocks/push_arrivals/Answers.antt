use Rattle.std.proofs.Common.{◌≡◌, ℕ, length, subst, arith}
use Rattle.reach_graph.specs.Reaching.{plain_rows}
use Rattle.points_to.specs.Nodes.{Adds, Upto, ArrivalEdge}
use Rattle.points_to.proofs.EdgeLemmas.{adds_more}
use Rattle.points_to.proofs.blocks.push_arrivals.Goals as goal

pub loop-i-preserved : goal.loop-i-preserved
loop-i-preserved c = adds_more c.loop-i.i (ArrivalEdge c.args.code.now c.args.nodes.blocks) _ _ _ c.loop-i.invariant c.in_ok-push_arrival.ensures

pub returns : goal.returns
returns c =
    let all : c.loop-i.i ≡ length c.args.code.now.indirect.items = omega arith in
    subst (λ (m : ℕ). Adds (Upto m (ArrivalEdge c.args.code.now c.args.nodes.blocks)) (plain_rows c.args.graph_edges.now) (plain_rows c.loop-i.graph_edges)) all c.loop-i.invariant
