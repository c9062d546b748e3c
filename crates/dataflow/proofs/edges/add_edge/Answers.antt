use Rattle.std.proofs.Common.{◌∙◌, [], ◌∷◌, ◌++◌, Vec, sym, ap}
use Rattle.std.specs.Global.{Global}
use Rattle.reach_graph.specs.declared.edges.Edge.{Edge}
use Rattle.dataflow.proofs.GraphEdgeLemmas.{adds_edge}
use Rattle.dataflow.proofs.edges.add_edge.Goals as goal

pub returns : goal.returns
returns c =
    let graph_edge : Edge = record { to = c.args.to; mask = c.args.mask } in
    adds_edge c.args.rows.now c.args.from graph_edge c.index-rows-from.result c.push.new.self c.requires.from c.requires.to c.index-rows-from.is
    (c.in_ok-push.ensures.items ∙ ap (λ (r : Vec Edge Global). r.items ++ graph_edge ∷ []) (sym c.index-rows-from.is))
