use Rattle.std.proofs.Common.{◌≡◌, ◌∙◌, ℕ, Bool, false, List, Vec, drop, length, replicate, sym, ap, subst, arith}
use Rattle.std.specs.Global.{Global}
use Rattle.reach_graph.specs.Reaching.{plain_rows}
use Rattle.reach_graph.specs.declared.edges.Edge.{Edge}
use Rattle.reach_graph.proofs.ListLemmas.{taken_whole}
use Rattle.dataflow.specs.BackEdges.{AreBackEdges}
use Rattle.dataflow.specs.Exposed.{AreExposed}
use Rattle.dataflow.specs.Transfers.{AddsMarks, IsFound}
use Rattle.dataflow.proofs.ExposureLemmas.{are_exposed}
use Rattle.dataflow.proofs.exposing.exposed_objects.Goals as goal

pub returns : goal.returns
returns c =
    let code = c.args.code.now in
    let g = c.args.graph.now in
    let old = c.in_ok-marks.marks in
    let new = c.mark_all.new.marks in
    let behind = c.spread.new.self.behind.items in
    let bare : old.items ≡ replicate (length g.objects.items) false =
    c.in_ok-marks.ensures.items_if_clones_equal (λ y equal. equal) ∙ ap (λ (m : ℕ). replicate m false) (omega (arith, c.len.ensures, g.objects.ok.0)) in
    let same : length new ≡ old.len = omega (arith, c.mark_all.auto.marks, ap length c.deref_mut.ensures.value, old.ok.0) in
    let rows = c.deref.result.now in
    let edges = subst (λ (rs : List (Vec Edge Global)). AreBackEdges code (length code.blocks.items) (plain_rows rs)) (sym {A = List (Vec Edge Global)} c.deref.ensures.value) c.in_ok-rows.ensures in
    let spread = c.in_ok-spread.ensures c.args.asked.now c.in_ok-exposure.ensures.sound in
    let adds : AddsMarks (IsFound code g behind) old.items new =
    subst (λ (ms : List Bool). AddsMarks (IsFound code g behind) ms new) c.deref_mut.ensures.value
    (subst (λ (bs : List ℕ). AddsMarks (IsFound code g bs) c.deref_mut.result.now new) c.deref-2.ensures.value c.mark_all.ensures) in
    subst (λ (ms : List Bool). AreExposed code g c.args.asked.now ms) (sym {A = List Bool} (taken_whole old.len new (drop (length new) old.items) same))
    (are_exposed code g c.args.asked.now (plain_rows rows) behind c.spread.new.self.before.items edges spread old.items new bare adds)
