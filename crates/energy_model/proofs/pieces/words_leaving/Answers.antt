use Rattle.std.proofs.Common.{◌∙◌, ◌*◌, ap, arith}
use Rattle.energy_model.specs.Copied.{edge_words}
use Rattle.energy_model.proofs.EdgeLemmas.{first_of_edges, edge_there, sum_fits, sum_grows, all_edges, edge_within}
use Rattle.energy_model.proofs.pieces.words_leaving.Goals as goal

pub loop-j-init : goal.loop-j-init
loop-j-init c =
    first_of_edges c.args.profile.now.edges.items c.args.counts.now.edges.items c.args.a (edge_words c.args.code.now c.args.graph.now c.args.range.now c.args.a) c.edge_start-j.result c.requires.counts.ordered c.requires.starts c.edge_start-j.ensures

pub index-edge-requires : goal.index-edge-requires
index-edge-requires c =
    omega (arith, edge_there c.args.profile.now.edges.items c.args.counts.now.edges.items c.args.a c.loop-j.j c.edge_start-j-end.result c.requires.starts c.edge_start-j-end.ensures c.loop-j-test.true, c.args.profile.now.edges.ok.0)

pub overflow_add-total : goal.overflow_add-total
overflow_add-total c =
    let here = c.product-total.ensures ∙ ap (λ n. c.index-edge.result.now.count * n) c.edge_words-words.ensures.sum in
    let fits = sum_fits c.args.profile.now.edges.items c.args.counts.now.edges.items c.args.a (edge_words c.args.code.now c.args.graph.now c.args.range.now c.args.a) c.loop-j.j c.edge_start-j.result c.edge_start-j-end.result c.loop-j.total c.product-total.result c.index-edge.result.now c.requires.counts.ordered c.requires.starts c.edge_start-j.ensures c.edge_start-j-end.ensures c.loop-j.auto.j c.loop-j-test.true c.loop-j.invariant c.index-edge.ensures here in
    omega (arith, fits, c.requires.small)

pub loop-j-preserved : goal.loop-j-preserved
loop-j-preserved c =
    let here = c.product-total.ensures ∙ ap (λ n. c.index-edge.result.now.count * n) c.edge_words-words.ensures.sum in
    sum_grows c.args.profile.now.edges.items c.args.counts.now.edges.items c.args.a (edge_words c.args.code.now c.args.graph.now c.args.range.now c.args.a) c.loop-j.j c.edge_start-j.result c.edge_start-j-end.result c.loop-j.total c.product-total.result c.index-edge.result.now c.requires.counts.ordered c.requires.starts c.edge_start-j.ensures c.edge_start-j-end.ensures c.loop-j.auto.j c.loop-j-test.true c.loop-j.invariant c.index-edge.ensures here

pub returns : goal.returns
returns c =
    all_edges c.args.profile.now.edges.items c.args.counts.now.edges.items c.args.a (edge_words c.args.code.now c.args.graph.now c.args.range.now c.args.a) c.edge_start-j.result c.edge_start-j-end.result c.loop-j.j c.loop-j.total c.requires.counts.ordered c.requires.starts c.edge_start-j.ensures c.edge_start-j-end.ensures (λ order. grind (arith, order)) c.loop-j.invariant

pub edge_words-words-requires-clause-to : goal.edge_words-words-requires-clause-to
edge_words-words-requires-clause-to c =
    let edges = c.args.profile.now.edges.items in
    let below = edge_there edges c.args.counts.now.edges.items c.args.a c.loop-j.j c.edge_start-j-end.result c.requires.starts c.edge_start-j-end.ensures c.loop-j-test.true in
    edge_within edges c.args.code.now c.loop-j.j c.index-edge.result.now below c.requires.counts.within c.index-edge.ensures
