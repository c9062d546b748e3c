use Rattle.std.proofs.Common.{sym, subst, ap, length, ◌∙◌}
use Rattle.reach_graph.specs.Reaching.{plain_rows, AreInside}
use Rattle.outside_tests.proofs.TestRows.{rows_count, rows_inside}
use Rattle.outside_tests.proofs.graph_tests.marks_pass_where_they_may.Goals as goal

pub propagate-requires-clause-one_each : goal.propagate-requires-clause-one_each
propagate-requires-clause-one_each g c = ap length c.deref.ensures.value ∙ rows_count c.in_ok-rows.rows.items c.in_ok-rows.ensures

pub propagate-requires-clause-inside : goal.propagate-requires-clause-inside
propagate-requires-clause-inside g c =
    subst (λ rows. AreInside (plain_rows rows) 4) (sym c.deref.ensures.value) (rows_inside c.in_ok-rows.rows.items c.in_ok-rows.ensures)

pub propagate-requires-2-clause-one_each : goal.propagate-requires-2-clause-one_each
propagate-requires-2-clause-one_each g c = ap length c.deref-2.ensures.value ∙ rows_count c.in_ok-rows.rows.items c.in_ok-rows.ensures

pub propagate-requires-2-clause-inside : goal.propagate-requires-2-clause-inside
propagate-requires-2-clause-inside g c =
    subst (λ rows. AreInside (plain_rows rows) 4) (sym c.deref-2.ensures.value) (rows_inside c.in_ok-rows.rows.items c.in_ok-rows.ensures)
