use Rattle.std.proofs.Common.{◌∙◌, [], ◌∷◌, ◌++◌, get_or, refl, ap}
use Rattle.reach_graph.specs.declared.edges.Edge.{Edge}
use Rattle.points_to.specs.Nodes.{full_edge}
use Rattle.points_to.proofs.EdgeLemmas.{push_one}
use Rattle.points_to.proofs.edges.push.Goals as goal

pub returns : goal.returns
returns c =
    let rows = c.args.graph_edges.now in
    let from = c.args.from in
    let row = c.index-graph_edges-from.result in
    push_one rows from (full_edge c.args.to) row c.push.new.self c.requires (c.in_ok-push.ensures.items ∙ ap (λ (e : Edge). (get_or rows from row).items ++ e ∷ []) c.full_edge.ensures) refl
