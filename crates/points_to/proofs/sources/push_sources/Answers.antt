use Rattle.std.proofs.Common.{◌≡◌, ◌∙◌, ℕ, true, Some, sym, ap, subst, arith, Option}
use Rattle.object_graph.specs.declared.parts.Site.{Site}
use Rattle.reach_graph.specs.Reaching.{plain_rows}
use Rattle.dataflow.specs.Points.{IsHolder, site_at}
use Rattle.dataflow.specs.Flows.{written, made, loads}
use Rattle.points_to.specs.Rows.{row}
use Rattle.points_to.specs.Nodes.{Adds, Upto, PlaceEdge, end_of, object_node, loaded}
use Rattle.points_to.proofs.SourceLemmas.{makes_one, gains_one, adds_flow}
use Rattle.points_to.proofs.sources.push_sources.Goals as goal

pub returns-in-Some : goal.returns-in-Some
returns-in-Some c sites us at are =
    let n = c.args.nodes.blocks in
    let b = c.args.block in
    let u = c.args.unit.now in
    let rows = c.args.rows.now in
    let old = plain_rows c.args.graph_edges.now in
    let new = plain_rows c.push_places.new.graph_edges in
    let e = c.written-to.ensures in
    let holder : IsHolder (written u.instr) = (omega (arith, e, c.if-to-eq0.false), omega (arith, e, c.if-to-gt31.false)) in
    let o = c.in-Some.object in
    let is : made (site_at sites u.at) u.instr ≡ Some o = ap (λ (s : Option Site). made s u.instr) at ∙ sym c.in-Some.ensures in
    let one = subst (λ (q : ℕ). Adds (Upto 32 (PlaceEdge q c.end.result (row rows c.written-to.result))) old new) c.object.ensures c.in_ok-push_places.ensures in
    let two = subst (λ (q : ℕ). Adds (Upto 32 (PlaceEdge (object_node n o) q (row rows c.written-to.result))) old new) c.end.ensures one in
    let three = subst (λ (q : ℕ). Adds (Upto 32 (PlaceEdge (object_node n o) (end_of n b 0) (row rows q))) old new) e two in
    adds_flow n b sites u us rows (written u.instr) (object_node n o) old new are holder (λ f t. makes_one n b sites u us o f t is holder) three

pub returns-then-loads : goal.returns-then-loads
returns-then-loads c sites us at are =
    let u = c.args.unit.now in
    let rows = c.args.rows.now in
    let n = c.args.nodes.blocks in
    let b = c.args.block in
    let old = plain_rows c.args.graph_edges.now in
    let new = plain_rows c.push_places-then-loads.new.graph_edges in
    let e = c.written-to.ensures in
    let holder : IsHolder (written u.instr) = (omega (arith, e, c.if-to-eq0.false), omega (arith, e, c.if-to-gt31.false)) in
    let is : loads u.instr ≡ true = sym c.loads.ensures ∙ c.if-loads.true in
    let one = subst (λ (q : ℕ). Adds (Upto 32 (PlaceEdge q c.end-then-loads.result (row rows c.written-to.result))) old new) c.loaded.ensures c.in_ok-push_places-2.ensures in
    let two = subst (λ (q : ℕ). Adds (Upto 32 (PlaceEdge (loaded n) q (row rows c.written-to.result))) old new) c.end-then-loads.ensures one in
    let three = subst (λ (q : ℕ). Adds (Upto 32 (PlaceEdge (loaded n) (end_of n b 0) (row rows q))) old new) e two in
    adds_flow n b sites u us rows (written u.instr) (loaded n) old new are holder (λ f t. gains_one n b sites u us f t is holder) three
