use Rattle.std.proofs.Common.{◌≡◌, List, Vec, drop, length, sym, ap, subst, arith}
use Rattle.std.specs.Global.{Global}
use Rattle.reach_graph.specs.Reaching.{plain_rows}
use Rattle.points_to.specs.Nodes.{Adds, AllEdges, AreEdges}
use Rattle.reach_graph.specs.declared.edges.Edge.{Edge}
use Rattle.reach_graph.proofs.ListLemmas.{taken_whole}
use Rattle.points_to.proofs.TableLemmas.{edges_are}
use Rattle.points_to.proofs.blocks.edges_of.Goals as goal

pub returns : goal.returns
returns c =
    let n = c.args.nodes.blocks in
    let objects = c.args.nodes.objects in
    let code = c.args.code.now in
    let g = c.args.graph.now in
    let old = c.in_ok-rows.rows in
    let new = c.push_all.new.graph_edges in
    let value = c.deref_mut.ensures.value in
    let same : length new ≡ old.len = omega (arith, c.push_all.auto.graph_edges, ap length value, old.ok.0) in
    let adds : Adds (AllEdges code g n) (plain_rows old.items) (plain_rows new) =
    subst (λ (rs : List (Vec Edge Global)). Adds (AllEdges code g n) (plain_rows rs) (plain_rows new)) value c.in_ok-push_all.ensures in
    let are = edges_are code g n objects c.count.result (plain_rows old.items) (plain_rows new) c.in_ok-rows.ensures c.count.ensures adds in
    subst (λ (rs : List (Vec Edge Global)). AreEdges code g n objects (plain_rows rs)) (sym (taken_whole old.len new (drop (length new) old.items) same)) are
