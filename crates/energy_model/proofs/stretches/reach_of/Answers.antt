use Rattle.std.proofs.Common.{◌∙◌, ◌+◌, ◌≤◌, suc, length, sym, arith}
use Rattle.std.proofs.lemmas.List.{get_or_default}
use Rattle.energy_model.specs.Copied.{no_edge, edges_before}
use Rattle.energy_model.proofs.EdgeLemmas.{edge_within}
use Rattle.energy_model.proofs.PieceLemmas.{listed, listed_value}
use Rattle.energy_model.proofs.StretchLemmas.{none_reached, one_reached, all_reached, edge_before, from_within}
use Rattle.energy_model.proofs.stretches.reach_of.Goals as goal

pub edge_start-j-requires : goal.edge_start-j-requires
edge_start-j-requires c =
    let inside = c.requires.inside in
    listed (edges_before c.args.profile.now.edges.items) (suc (length c.args.code.now.blocks.items)) c.args.b c.args.counts.now.edges.items c.requires.code.1.1.edges (omega (arith, inside))

pub edge_start-j-end-requires : goal.edge_start-j-end-requires
edge_start-j-end-requires c =
    let inside = c.requires.inside in
    listed (edges_before c.args.profile.now.edges.items) (suc (length c.args.code.now.blocks.items)) (c.args.b + 16) c.args.counts.now.edges.items c.requires.code.1.1.edges (omega (arith, inside))

pub loop-j-init : goal.loop-j-init
loop-j-init c =
    let inside = c.requires.inside in
    let from = listed_value (edges_before c.args.profile.now.edges.items) (suc (length c.args.code.now.blocks.items)) c.args.b c.edge_start-j.result c.args.counts.now.edges.items c.requires.code.1.1.edges (omega (arith, inside)) c.edge_start-j.ensures in
    none_reached c.args.code.now c.args.profile.now.edges.items c.args.b c.edge_start-j.result _ c.requires.code.1.0.ordered from

pub index-requires : goal.index-requires
index-requires c =
    let inside = c.requires.inside in
    let end = listed_value (edges_before c.args.profile.now.edges.items) (suc (length c.args.code.now.blocks.items)) (c.args.b + 16) c.edge_start-j-end.result c.args.counts.now.edges.items c.requires.code.1.1.edges (omega (arith, inside)) c.edge_start-j-end.ensures in
    let below = edge_before c.args.profile.now.edges.items (c.args.b + 16) c.loop-j.j c.edge_start-j-end.result end c.loop-j-test.true in
    let count = c.args.profile.now.edges.ok.0 in
    omega (arith, below, count)

pub with_edge-reach-requires-clause-from : goal.with_edge-reach-requires-clause-from
with_edge-reach-requires-clause-from c =
    let inside = c.requires.inside in
    let end = listed_value (edges_before c.args.profile.now.edges.items) (suc (length c.args.code.now.blocks.items)) (c.args.b + 16) c.edge_start-j-end.result c.args.counts.now.edges.items c.requires.code.1.1.edges (omega (arith, inside)) c.edge_start-j-end.ensures in
    let below = edge_before c.args.profile.now.edges.items (c.args.b + 16) c.loop-j.j c.edge_start-j-end.result end c.loop-j-test.true in
    from_within c.args.code.now c.args.profile.now.edges.items c.loop-j.j c.index.result.now below c.requires.code.1.0.within c.index.ensures

pub with_edge-reach-requires-clause-to : goal.with_edge-reach-requires-clause-to
with_edge-reach-requires-clause-to c =
    let inside = c.requires.inside in
    let end = listed_value (edges_before c.args.profile.now.edges.items) (suc (length c.args.code.now.blocks.items)) (c.args.b + 16) c.edge_start-j-end.result c.args.counts.now.edges.items c.requires.code.1.1.edges (omega (arith, inside)) c.edge_start-j-end.ensures in
    let below = edge_before c.args.profile.now.edges.items (c.args.b + 16) c.loop-j.j c.edge_start-j-end.result end c.loop-j-test.true in
    edge_within c.args.profile.now.edges.items c.args.code.now c.loop-j.j c.index.result.now below c.requires.code.1.0.within c.index.ensures

pub loop-j-preserved : goal.loop-j-preserved
loop-j-preserved c =
    let inside = c.requires.inside in
    let edges = c.args.profile.now.edges.items in
    let end = listed_value (edges_before edges) (suc (length c.args.code.now.blocks.items)) (c.args.b + 16) c.edge_start-j-end.result c.args.counts.now.edges.items c.requires.code.1.1.edges (omega (arith, inside)) c.edge_start-j-end.ensures in
    let below = edge_before edges (c.args.b + 16) c.loop-j.j c.edge_start-j-end.result end c.loop-j-test.true in
    one_reached c.args.code.now edges c.args.b c.loop-j.j c.index.result.now c.loop-j.reach c.with_edge-reach.result c.loop-j.invariant (c.index.ensures ∙ sym (get_or_default edges c.loop-j.j no_edge c.index.result.now below)) c.with_edge-reach.ensures

pub returns : goal.returns
returns c =
    let inside = c.requires.inside in
    let edges = c.args.profile.now.edges.items in
    let end = listed_value (edges_before edges) (suc (length c.args.code.now.blocks.items)) (c.args.b + 16) c.edge_start-j-end.result c.args.counts.now.edges.items c.requires.code.1.1.edges (omega (arith, inside)) c.edge_start-j-end.ensures in
    let test = c.loop-j-test.false in
    let done : edges_before edges (c.args.b + 16) ≤ c.loop-j.j = omega (arith, end, test) in
    all_reached c.args.code.now edges c.args.b (c.args.b + 16) c.loop-j.j c.loop-j.reach c.requires.code.1.0.ordered done c.loop-j.invariant
