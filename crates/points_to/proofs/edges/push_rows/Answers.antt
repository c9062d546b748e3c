use Rattle.std.proofs.Common.{◌≡◌, ℕ, ◌<◌, ◌+◌, refl, subst, arith}
use Rattle.reach_graph.specs.Reaching.{plain_rows}
use Rattle.points_to.specs.Nodes.{Adds, Upto, PlaceEdge, RowEdge, entry, end_of}
use Rattle.points_to.specs.Rows.{row}
use Rattle.points_to.proofs.EdgeLemmas.{adds_same, adds_more, row_one}
use Rattle.points_to.proofs.edges.push_rows.Goals as goal

pub loop-x-preserved : goal.loop-x-preserved
loop-x-preserved c =
    let x = c.loop-x.x in
    let rows = c.args.rows.now in
    let n = c.args.nodes.blocks in
    let b = c.args.block in
    let register : 0 < x = omega arith in
    let old = plain_rows c.loop-x.graph_edges in
    let new = plain_rows c.push_places.new.graph_edges in
    let first = c.entry.ensures in
    let from : c.entry.result + x ≡ entry b x = omega (arith, first) in
    let added =
    subst (λ (base : ℕ). Adds (Upto 32 (PlaceEdge (entry b x) base (row rows x))) old new) c.end.ensures
    (subst (λ (at : ℕ). Adds (Upto 32 (PlaceEdge at c.end.result (row rows x))) old new) from c.in_ok-push_places.ensures) in
    adds_more x (RowEdge n b rows) _ _ _ c.loop-x.invariant (adds_same (Upto 32 (PlaceEdge (entry b x) (end_of n b 0) (row rows x))) (RowEdge n b rows x) _ _ added (λ f t. row_one n b x rows (row rows x) f t register refl))

pub returns : goal.returns
returns c =
    let all : c.loop-x.x ≡ 32 = omega arith in
    subst (λ (m : ℕ). Adds (Upto m (RowEdge c.args.nodes.blocks c.args.block c.args.rows.now)) (plain_rows c.args.graph_edges.now) (plain_rows c.loop-x.graph_edges)) all c.loop-x.invariant
