use Rattle.std.proofs.Common.{◌∙◌, ◌≤◌, ◌+◌, ◌*◌, ◌/◌, List, Vec, length, map, sym, ap, subst, arith}
use Rattle.std.specs.Global.{Global}
use Rattle.std.proofs.lemmas.List.{length-map}
use Rattle.reach_graph.specs.Reaching.{AreInside, row_items, plain_rows}
use Rattle.reach_graph.specs.declared.edges.Edge.{Edge}
use Rattle.points_to.specs.Nodes.{node_count}
use Rattle.points_to.specs.Tables.{plain}
use Rattle.points_to.proofs.QueryLemmas.{edges_inside, table_facts}
use Rattle.points_to.proofs.pointing.points.Goals as goal

pub reached_from-requires-clause-room : goal.reached_from-requires-clause-room
reached_from-requires-clause-room c = ap length c.deref.ensures.value ∙ sym (length-map c.in_ok-rows.rows.items row_items) ∙ c.in_ok-rows.ensures.size

pub reached_from-requires-clause-inside : goal.reached_from-requires-clause-inside
reached_from-requires-clause-inside c =
    let nodes = c.in_ok-nodes.nodes in
    subst (λ (rs : List (Vec Edge Global)). AreInside (plain_rows rs) (node_count nodes.blocks nodes.objects)) (sym {A = List (Vec Edge Global)} c.deref.ensures.value)
    (edges_inside c.args.code.now c.args.graph.now nodes.blocks nodes.objects (plain_rows c.in_ok-rows.rows.items) c.in_ok-nodes.ensures.blocks c.in_ok-rows.ensures)

pub reached_by_objects-requires-clause-room : goal.reached_by_objects-requires-clause-room
reached_by_objects-requires-clause-room c = ap length c.deref-2.ensures.value ∙ sym (length-map c.in_ok-rows.rows.items row_items) ∙ c.in_ok-rows.ensures.size

pub reached_by_objects-requires-clause-inside : goal.reached_by_objects-requires-clause-inside
reached_by_objects-requires-clause-inside c =
    let nodes = c.in_ok-nodes.nodes in
    subst (λ (rs : List (Vec Edge Global)). AreInside (plain_rows rs) (node_count nodes.blocks nodes.objects)) (sym {A = List (Vec Edge Global)} c.deref-2.ensures.value)
    (edges_inside c.args.code.now c.args.graph.now nodes.blocks nodes.objects (plain_rows c.in_ok-rows.rows.items) c.in_ok-nodes.ensures.blocks c.in_ok-rows.ensures)

pub returns : goal.returns
returns c =
    let nodes = c.in_ok-nodes.nodes in
    let objects = nodes.objects in
    let enough : objects ≤ 64 * ((objects + 63) / 64) = omega arith in
    record {
      leaders = c.in_ok-leaders.ensures;
      facts =
          table_facts c.args.code.now c.args.graph.now nodes.blocks objects c.loaded.result ((objects + 63) / 64)
          (plain_rows c.in_ok-rows.rows.items) (plain_rows c.deref.result.now) (plain_rows c.deref-2.result.now)
          (plain c.in_ok-loads.loads) (map plain c.in_ok-groups.groups.items) c.in_ok-nodes.ensures.blocks c.in_ok-nodes.ensures.objects c.requires.graph c.in_ok-rows.ensures
          (ap plain_rows c.deref.ensures.value) (ap plain_rows c.deref-2.ensures.value) c.loaded.ensures c.in_ok-loads.ensures c.in_ok-groups.ensures enough;
    }
