use Rattle.std.proofs.Common.{◌≡◌, ℕ, ◌+◌, ◌<◌, subst, arith}
use Rattle.reach_graph.specs.Reaching.{plain_rows}
use Rattle.points_to.specs.Nodes.{Adds, Upto, OneEdge, RegisterEdge}
use Rattle.points_to.proofs.EdgeLemmas.{adds_same, adds_more, register_one}
use Rattle.points_to.proofs.edges.push_registers.Goals as goal

pub loop-y-preserved : goal.loop-y-preserved
loop-y-preserved c =
    let from = c.args.from in
    let to = c.args.to in
    let y = c.loop-y.y in
    let register : 0 < y = omega arith in
    adds_more y (RegisterEdge from to) _ _ _ c.loop-y.invariant (adds_same (OneEdge (from + y) (to + y)) (RegisterEdge from to y) _ _ c.in_ok-push.ensures (λ f t. register_one from to y f t register))

pub returns : goal.returns
returns c =
    let all : c.loop-y.y ≡ 32 = omega arith in
    subst (λ (m : ℕ). Adds (Upto m (RegisterEdge c.args.from c.args.to)) (plain_rows c.args.graph_edges.now) (plain_rows c.loop-y.graph_edges)) all c.loop-y.invariant
