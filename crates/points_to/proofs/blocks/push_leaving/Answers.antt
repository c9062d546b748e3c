use Rattle.std.proofs.Common.{◌≡◌, ◌∙◌, ℕ, true, sym, ap, subst, arith}
use Rattle.code_blocks.specs.Edges.{is_indirect_end}
use Rattle.code_blocks.specs.Numbers.{end_at}
use Rattle.code_blocks.specs.Leads.{IsBlockOf}
use Rattle.reach_graph.specs.Reaching.{plain_rows}
use Rattle.points_to.specs.Nodes.{Adds, Upto, RegisterEdge, end_of}
use Rattle.dataflow.proofs.FactLemmas.{end_is}
use Rattle.points_to.proofs.BlockLemmas.{leaving_adds}
use Rattle.points_to.proofs.blocks.push_leaving.Goals as goal

pub returns-then-is_indirect : goal.returns-then-is_indirect
returns-then-is_indirect c =
    let n = c.args.nodes.blocks in
    let b = c.args.block in
    let code = c.args.code.now in
    let old = plain_rows c.args.graph_edges.now in
    let new = plain_rows c.push_registers.new.graph_edges in
    let below : IsBlockOf code b = omega (arith, c.requires.block, c.requires.blocks) in
    let is : is_indirect_end (end_at code b) ≡ true = ap is_indirect_end (end_is code b c.index.result.now below c.index.ensures) ∙ sym c.is_indirect.ensures ∙ c.if-is_indirect.true in
    let one = subst (λ (q : ℕ). Adds (Upto 32 (RegisterEdge q c.hub.result)) old new) c.end.ensures c.in_ok-push_registers.ensures in
    let two = subst (λ (q : ℕ). Adds (Upto 32 (RegisterEdge (end_of n b 0) q)) old new) c.hub.ensures one in
    leaving_adds code n b old new is two
