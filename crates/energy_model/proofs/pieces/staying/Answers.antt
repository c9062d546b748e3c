use Rattle.std.proofs.Common.{◌∙◌, arith}
use Rattle.energy_model.specs.Copied.{stays_in}
use Rattle.energy_model.proofs.EdgeLemmas.{first_of_edges, edge_there, sum_fits, sum_grows, all_edges}
use Rattle.energy_model.proofs.pieces.staying.Goals as goal

pub loop-j-init : goal.loop-j-init
loop-j-init c =
    first_of_edges c.args.profile.now.edges.items c.args.counts.now.edges.items c.args.a (stays_in c.args.range.now) c.edge_start-j.result c.requires.ordered c.requires.starts c.edge_start-j.ensures

pub index-requires : goal.index-requires
index-requires c =
    omega (arith, edge_there c.args.profile.now.edges.items c.args.counts.now.edges.items c.args.a c.loop-j.j c.edge_start-j-end.result c.requires.starts c.edge_start-j-end.ensures c.loop-j-test.true, c.args.profile.now.edges.ok.0)

pub overflow_add-total : goal.overflow_add-total
overflow_add-total c =
    let here = c.from-total.ensures ∙ c.count_inside.ensures in
    let fits = sum_fits c.args.profile.now.edges.items c.args.counts.now.edges.items c.args.a (stays_in c.args.range.now) c.loop-j.j c.edge_start-j.result c.edge_start-j-end.result c.loop-j.total c.from-total.result c.index.result.now c.requires.ordered c.requires.starts c.edge_start-j.ensures c.edge_start-j-end.ensures c.loop-j.auto.j c.loop-j-test.true c.loop-j.invariant c.index.ensures here in
    omega (arith, fits, c.requires.small)

pub loop-j-preserved : goal.loop-j-preserved
loop-j-preserved c =
    let here = c.from-total.ensures ∙ c.count_inside.ensures in
    sum_grows c.args.profile.now.edges.items c.args.counts.now.edges.items c.args.a (stays_in c.args.range.now) c.loop-j.j c.edge_start-j.result c.edge_start-j-end.result c.loop-j.total c.from-total.result c.index.result.now c.requires.ordered c.requires.starts c.edge_start-j.ensures c.edge_start-j-end.ensures c.loop-j.auto.j c.loop-j-test.true c.loop-j.invariant c.index.ensures here

pub returns : goal.returns
returns c =
    all_edges c.args.profile.now.edges.items c.args.counts.now.edges.items c.args.a (stays_in c.args.range.now) c.edge_start-j.result c.edge_start-j-end.result c.loop-j.j c.loop-j.total c.requires.ordered c.requires.starts c.edge_start-j.ensures c.edge_start-j-end.ensures (λ order. grind (arith, order)) c.loop-j.invariant
