use Rattle.std.proofs.Common.{◌∙◌, arith}
use Rattle.energy_model.specs.Entering.{entered_in}
use Rattle.energy_model.proofs.EdgeLemmas.{first_of_edges, edge_there, edge_within, sum_fits, sum_grows, all_edges}
use Rattle.energy_model.proofs.entering.staying.Goals as goal

pub loop-j-init : goal.loop-j-init
loop-j-init c =
    first_of_edges c.args.tables.now.profile.now.edges.items c.args.tables.now.counts.now.edges.items c.args.a (entered_in c.args.tables.now.regions.now.border.items c.args.range.now) c.edge_start-j.result c.requires.tables.code.ordered c.requires.starts c.edge_start-j.ensures

pub index-requires : goal.index-requires
index-requires c =
    omega (arith, edge_there c.args.tables.now.profile.now.edges.items c.args.tables.now.counts.now.edges.items c.args.a c.loop-j.j c.edge_start-j-end.result c.requires.starts c.edge_start-j-end.ensures c.loop-j-test.true, c.args.tables.now.profile.now.edges.ok.0)

pub count_entered-entered-requires : goal.count_entered-entered-requires
count_entered-entered-requires c =
    let below = edge_there c.args.tables.now.profile.now.edges.items c.args.tables.now.counts.now.edges.items c.args.a c.loop-j.j c.edge_start-j-end.result c.requires.starts c.edge_start-j-end.ensures c.loop-j-test.true in
    let inside = edge_within c.args.tables.now.profile.now.edges.items c.args.tables.now.code.now c.loop-j.j c.index.result.now below c.requires.tables.code.within c.index.ensures in
    let borders = c.requires.tables.overlay.borders in
    omega (arith, inside, borders)

pub overflow_add-total : goal.overflow_add-total
overflow_add-total c =
    let here = c.from-total.ensures ∙ c.count_entered-entered.ensures in
    let fits = sum_fits c.args.tables.now.profile.now.edges.items c.args.tables.now.counts.now.edges.items c.args.a (entered_in c.args.tables.now.regions.now.border.items c.args.range.now) c.loop-j.j c.edge_start-j.result c.edge_start-j-end.result c.loop-j.total c.from-total.result c.index.result.now c.requires.tables.code.ordered c.requires.starts c.edge_start-j.ensures c.edge_start-j-end.ensures c.loop-j.auto.j c.loop-j-test.true c.loop-j.invariant c.index.ensures here in
    let small = c.requires.small in
    omega (arith, fits, small)

pub loop-j-preserved : goal.loop-j-preserved
loop-j-preserved c =
    let here = c.from-total.ensures ∙ c.count_entered-entered.ensures in
    sum_grows c.args.tables.now.profile.now.edges.items c.args.tables.now.counts.now.edges.items c.args.a (entered_in c.args.tables.now.regions.now.border.items c.args.range.now) c.loop-j.j c.edge_start-j.result c.edge_start-j-end.result c.loop-j.total c.from-total.result c.index.result.now c.requires.tables.code.ordered c.requires.starts c.edge_start-j.ensures c.edge_start-j-end.ensures c.loop-j.auto.j c.loop-j-test.true c.loop-j.invariant c.index.ensures here

pub returns : goal.returns
returns c =
    all_edges c.args.tables.now.profile.now.edges.items c.args.tables.now.counts.now.edges.items c.args.a (entered_in c.args.tables.now.regions.now.border.items c.args.range.now) c.edge_start-j.result c.edge_start-j-end.result c.loop-j.j c.loop-j.total c.requires.tables.code.ordered c.requires.starts c.edge_start-j.ensures c.edge_start-j-end.ensures (λ order. grind (arith, order)) c.loop-j.invariant
