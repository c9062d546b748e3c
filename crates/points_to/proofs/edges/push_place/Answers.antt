use Rattle.std.proofs.Common.{ℕ, ◌+◌, subst}
use Rattle.reach_graph.specs.Reaching.{plain_rows}
use Rattle.points_to.specs.Nodes.{Adds, OneEdge, PlaceEdge}
use Rattle.points_to.proofs.EdgeLemmas.{adds_same, place_one}
use Rattle.points_to.proofs.edges.push_place.Goals as goal

pub returns-then-has : goal.returns-then-has
returns-then-has c =
    let from = c.args.from in
    let base = c.args.base in
    let y = c.args.y in
    let has = c.has.ensures.0 c.if-has.true in
    let old = plain_rows c.args.graph_edges.now in
    let new = plain_rows c.push.new.graph_edges in
    let one = subst (λ (k : ℕ). Adds (OneEdge from (base + k)) old new) c.from.ensures c.in_ok-push.ensures in
    adds_same (OneEdge from (base + y)) (PlaceEdge from base c.args.places y) old new one (λ f t. place_one from base c.args.places y f t has)
