use Rattle.std.proofs.Common.{◌≡◌, ◌<◌, ℕ, List, length, slice_index_or, ap, subst, arith}
use Rattle.reach_graph.specs.Reaching.{plain_rows}
use Rattle.dataflow.specs.BackEdges.{Adds, ListEdges, DirectEdges}
use Rattle.dataflow.proofs.GraphEdgeLemmas.{adds_same}
use Rattle.dataflow.proofs.EdgeLemmas.{direct_is_list, number_below}
use Rattle.dataflow.proofs.edges.add_direct.Goals as goal

pub add_each-requires-clause-nodes : goal.add_each-requires-clause-nodes
add_each-requires-clause-nodes c i below =
    let numbers = c.successors-successors.result.items in
    let same : c.as_slice.result.now ≡ numbers = cc (c.as_slice.ensures) in
    let inside : i < length numbers = omega (arith, ap length same, below) in
    let fits = number_below c.args.code.now c.args.block numbers c.requires.ascending c.requires.block c.successors-successors.ensures i inside in
    let here : slice_index_or c.as_slice.result.now i 0 ≡ slice_index_or numbers i 0 = ap (λ (xs : List ℕ). slice_index_or xs i 0) same in
    omega (arith, here, fits, c.requires.nodes)

pub returns : goal.returns
returns c =
    let numbers = c.successors-successors.result.items in
    let same : c.as_slice.result.now ≡ numbers = cc (c.as_slice.ensures) in
    adds_same (ListEdges numbers (length numbers) c.args.block c.args.mask) (DirectEdges c.args.code.now c.args.block c.args.mask)
    (plain_rows c.args.rows.now) (plain_rows c.add_each.new.rows)
    (subst (λ (xs : List ℕ). Adds (ListEdges xs (length xs) c.args.block c.args.mask) (plain_rows c.args.rows.now) (plain_rows c.add_each.new.rows)) same c.in_ok-add_each.ensures)
    (λ f t x low. direct_is_list c.args.code.now c.args.block numbers c.requires.ascending c.requires.block c.successors-successors.ensures c.args.mask f t x)
