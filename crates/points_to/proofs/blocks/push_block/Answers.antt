use Rattle.std.proofs.Common.{◌≡◌, ◌∙◌, ℕ, List, sym, subst, arith}
use Rattle.code_blocks.specs.declared.parts.Unit.{Unit}
use Rattle.code_blocks.specs.Leads.{IsBlockOf, units_at}
use Rattle.reach_graph.specs.Reaching.{plain_rows}
use Rattle.points_to.specs.Rows.{AreRows}
use Rattle.points_to.specs.Nodes.{Adds, OneEdge, UnitEdges, end_of}
use Rattle.dataflow.proofs.FactLemmas.{units_are}
use Rattle.points_to.proofs.BlockLemmas.{block_adds}
use Rattle.points_to.proofs.blocks.push_block.Goals as goal

pub returns : goal.returns
returns c =
    let n = c.args.nodes.blocks in
    let b = c.args.block in
    let code = c.args.code.now in
    let g = c.args.graph.now in
    let sites = g.sites.items in
    let rows = c.push_units.new.rows in
    let r0 = plain_rows c.args.graph_edges.now in
    let r1 = plain_rows c.push_units.new.graph_edges in
    let r2 = plain_rows c.push_rows.new.graph_edges in
    let r3 = plain_rows c.push_next.new.graph_edges in
    let r4 = plain_rows c.push_leaving.new.graph_edges in
    let r5 = plain_rows c.push.new.graph_edges in
    let below : IsBlockOf code b = omega (arith, c.requires.block, c.requires.blocks) in
    let e : c.deref.result.now ≡ units_at code b = c.deref.ensures.value ∙ sym (units_are code b c.index.result.now below c.index.ensures) in
    let units = subst (λ (us : List Unit). Adds (UnitEdges n b sites us) r0 r1) e c.in_ok-push_units.ensures.edges in
    let are = subst (λ (us : List Unit). AreRows sites us rows) e c.in_ok-push_units.ensures.rows in
    let one = subst (λ (q : ℕ). Adds (OneEdge q c.memory.result) r4 r5) c.end.ensures c.in_ok-push.ensures in
    let two = subst (λ (q : ℕ). Adds (OneEdge (end_of n b 0) q) r4 r5) c.memory.ensures one in
    block_adds code g n b rows r0 r1 r2 r3 r4 r5 are units c.in_ok-push_rows.ensures c.in_ok-push_next.ensures c.in_ok-push_leaving.ensures two
