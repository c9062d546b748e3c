use Rattle.std.proofs.Common.{◌≡◌, ◌∙◌, ℕ, slice_index_or, subst, arith}
use Rattle.std.proofs.lemmas.Grind.{common_steps}
use Rattle.reach_graph.specs.Reaching.{plain_rows}
use Rattle.points_to.specs.Nodes.{Adds, Upto, RegisterEdge, hub}
use Rattle.points_to.proofs.BlockLemmas.{arrival_adds}
use Rattle.points_to.proofs.blocks.push_arrival.Goals as goal

pub returns-in-Some : goal.returns-in-Some
returns-in-Some c =
    let n = c.args.nodes.blocks in
    let d = c.in-Some.block in
    let old = plain_rows c.args.graph_edges.now in
    let new = plain_rows c.push_registers.new.graph_edges in
    let (below, starts) = c.in-Some.ensures in
    let e : c.index.result.now ≡ slice_index_or c.args.code.now.indirect.items c.args.i 0 = grind (arith, common_steps) in
    let one = subst (λ (q : ℕ). Adds (Upto 32 (RegisterEdge q c.entry.result)) old new) c.hub.ensures c.in_ok-push_registers.ensures in
    let two = subst (λ (q : ℕ). Adds (Upto 32 (RegisterEdge (hub n 0) q)) old new) c.entry.ensures one in
    arrival_adds c.args.code.now n c.args.i d old new c.requires.ascending below (starts ∙ e) two
