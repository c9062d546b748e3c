use Rattle.std.proofs.Common.{List, Vec, ap, sym, subst, length, arith}
use Rattle.std.specs.Global.{Global}
use Rattle.std.proofs.lemmas.List.{length_push}
use Rattle.reach_graph.specs.declared.edges.Edge.{Edge}
use Rattle.reach_graph.specs.Reaching.{plain_rows}
use Rattle.dataflow.specs.BackEdges.{HasNone}
use Rattle.dataflow.proofs.TableLemmas.{bare_more}
use Rattle.dataflow.proofs.living.no_edges.Goals as goal

pub loop-preserved : goal.loop-preserved
loop-preserved c =
    let items = c.in_ok-push.ensures.items in
    record {
      size = omega (arith, ap length items, length_push c.loop.rows.items c.new.result, c.loop.invariant.size);
      bare = subst (λ (rows : List (Vec Edge Global)). HasNone (plain_rows rows)) (sym {A = List (Vec Edge Global)} items)
          (bare_more c.loop.rows.items c.new.result c.new.ensures.items c.loop.invariant.bare);
    }
