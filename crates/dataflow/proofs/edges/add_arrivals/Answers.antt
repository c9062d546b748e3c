use Rattle.std.proofs.Common.{◌≡◌, ◌∙◌, ◌+◌, ◌<◌, ℕ, length, slice_index_or, arith}
use Rattle.std.proofs.lemmas.Grind.{get_or_default_zero}
use Rattle.reach_graph.specs.Reaching.{plain_rows}
use Rattle.code_blocks.specs.Numbers.{start_at}
use Rattle.code_blocks.specs.Leads.{IsBlockOf}
use Rattle.dataflow.specs.BackEdges.{ArrivalEdges}
use Rattle.dataflow.proofs.GraphEdgeLemmas.{adds_none, adds_both}
use Rattle.dataflow.proofs.EdgeLemmas.{no_arrivals, arrivals_more}
use Rattle.dataflow.proofs.edges.add_arrivals.Goals as goal

pub loop-i-init : goal.loop-i-init
loop-i-init c = adds_none (ArrivalEdges c.args.code.now c.args.hub 0) (plain_rows c.args.rows.now) (no_arrivals c.args.code.now c.args.hub)

pub loop-i-preserved : goal.loop-i-preserved
loop-i-preserved c =
    let code = c.args.code.now in
    let i = c.loop-i.i in
    let leader = c.index.result.now in
    let below : i < length code.indirect.items = omega (arith, c.loop-i-test.true, c.len-i-end.ensures, code.indirect.ok.0) in
    let here : leader ≡ slice_index_or code.indirect.items i 0 = c.index.ensures ∙ get_or_default_zero code.indirect.items i leader below in
    adds_both (ArrivalEdges code c.args.hub i) (λ (f t x : ℕ). IsBlockOf code f × (leader ≡ start_at code f) × (t ≡ c.args.hub)) (ArrivalEdges code c.args.hub (i + 1))
    (plain_rows c.args.rows.now) (plain_rows c.loop-i.rows) (plain_rows c.add_arrival.new.rows) c.loop-i.invariant c.in_ok-add_arrival.ensures
    (arrivals_more code c.args.hub i leader here)
