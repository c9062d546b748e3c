use Rattle.std.proofs.Common.{◌≡◌, ◌++◌, ℕ, List, Vec, take, drop, length, sym, ap, subst, arith}
use Rattle.std.specs.Global.{Global}
use Rattle.reach_graph.specs.Reaching.{plain_rows}
use Rattle.reach_graph.specs.declared.edges.Edge.{Edge}
use Rattle.dataflow.specs.BackEdges.{HasNone, AreBackEdges}
use Rattle.reach_graph.proofs.ListLemmas.{taken_whole}
use Rattle.dataflow.proofs.backward.back_edges.Goals as goal

pub add_back-requires-clause-bare : goal.add_back-requires-clause-bare
add_back-requires-clause-bare c =
    subst (λ (rs : List (Vec Edge Global)). HasNone (plain_rows rs)) (sym {A = List (Vec Edge Global)} c.deref_mut.ensures.value) c.in_ok-rows.ensures.bare

pub returns : goal.returns
returns c =
    let code = c.args.code.now in
    let hub = c.in_ok-hub.hub in
    let old = c.in_ok-rows.rows in
    let new = c.add_back.new.rows in
    let same : length new ≡ old.len = omega (arith, c.add_back.auto.rows, ap length c.deref_mut.ensures.value, old.ok.0) in
    subst (λ (n : ℕ). AreBackEdges code n (plain_rows (take old.len (new ++ drop (length new) old.items)))) c.in_ok-hub.ensures
    (subst (λ (rs : List (Vec Edge Global)). AreBackEdges code hub (plain_rows rs)) (sym {A = List (Vec Edge Global)} (taken_whole old.len new (drop (length new) old.items) same)) c.in_ok-add_back.ensures)
