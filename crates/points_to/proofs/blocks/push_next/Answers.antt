use Rattle.std.proofs.Common.{ℕ, List, length, subst, arith}
use Rattle.code_blocks.specs.Leads.{IsBlockOf}
use Rattle.reach_graph.specs.Reaching.{plain_rows}
use Rattle.points_to.specs.Nodes.{Adds, Upto, StepEdge, NextEdges}
use Rattle.points_to.proofs.EdgeLemmas.{adds_same}
use Rattle.points_to.proofs.BlockLemmas.{steps_next}
use Rattle.points_to.proofs.blocks.push_next.Goals as goal

pub returns : goal.returns
returns c =
    let code = c.args.code.now in
    let b = c.args.block in
    let n = c.args.nodes.blocks in
    let numbers = c.successors-numbers.result.items in
    let old = plain_rows c.args.graph_edges.now in
    let new = plain_rows c.push_steps.new.graph_edges in
    let below : IsBlockOf code b = omega (arith, c.requires.block, c.requires.blocks) in
    let adds = subst (λ (xs : List ℕ). Adds (Upto (length xs) (StepEdge n b xs)) old new) c.as_slice.ensures c.in_ok-push_steps.ensures in
    adds_same (Upto (length numbers) (StepEdge n b numbers)) (NextEdges code n b) old new adds (λ f t. steps_next code n b numbers f t c.requires.ascending below c.successors-numbers.ensures)
