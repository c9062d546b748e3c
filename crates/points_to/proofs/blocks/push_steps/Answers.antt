use Rattle.std.proofs.Common.{ℕ, subst}
use Rattle.reach_graph.specs.Reaching.{plain_rows}
use Rattle.points_to.specs.Nodes.{Adds, Upto, RegisterEdge, StepEdge, end_of}
use Rattle.points_to.proofs.EdgeLemmas.{adds_more}
use Rattle.points_to.proofs.blocks.push_steps.Goals as goal

pub loop-i-preserved : goal.loop-i-preserved
loop-i-preserved c =
    let n = c.args.nodes.blocks in
    let b = c.args.block in
    let numbers = c.args.numbers.now in
    let i = c.loop-i.i in
    let now = plain_rows c.loop-i.graph_edges in
    let new = plain_rows c.push_registers.new.graph_edges in
    let one = subst (λ (q : ℕ). Adds (Upto 32 (RegisterEdge q c.entry.result)) now new) c.end.ensures c.in_ok-push_registers.ensures in
    let two = subst (λ (q : ℕ). Adds (Upto 32 (RegisterEdge (end_of n b 0) q)) now new) c.entry.ensures one in
    adds_more i (StepEdge n b numbers) (plain_rows c.args.graph_edges.now) now new c.loop-i.invariant two
