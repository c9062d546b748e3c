use Rattle.std.proofs.Common.{◌≡◌, ℕ}
use Rattle.reach_graph.specs.Reaching.{plain_rows}
use Rattle.code_blocks.specs.Numbers.{start_at}
use Rattle.code_blocks.specs.Leads.{IsBlockOf}
use Rattle.dataflow.specs.BackEdges.{OneEdge}
use Rattle.dataflow.proofs.MarkLemmas.{all_set}
use Rattle.dataflow.proofs.GraphEdgeLemmas.{adds_same}
use Rattle.dataflow.proofs.EdgeLemmas.{one_arrival}
use Rattle.dataflow.proofs.edges.add_arrival.Goals as goal

pub returns-in_ok-add_edge : goal.returns-in_ok-add_edge
returns-in_ok-add_edge c =
    let code = c.args.code.now in
    let block = c.in-Some.block in
    adds_same (OneEdge block c.args.hub 18446744073709551615) (λ (f t x : ℕ). IsBlockOf code f × (c.args.leader ≡ start_at code f) × (t ≡ c.args.hub))
    (plain_rows c.args.rows.now) (plain_rows c.add_edge.new.rows) c.in_ok-add_edge.ensures
    (one_arrival code c.args.hub block c.args.leader 18446744073709551615 c.requires.ascending c.in-Some.ensures all_set)
