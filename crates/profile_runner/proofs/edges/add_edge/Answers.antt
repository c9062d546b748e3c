use Rattle.std.proofs.Common.{◌≡◌, ◌∙◌, ◌+◌, set, sym, subst}
use Rattle.profile_runner.specs.declared.counts.Edge.{Edge}
use Rattle.profile_runner.specs.Tallies.{with_edge}
use Rattle.profile_runner.proofs.EdgeLemmas.{found_is, gap_is}
use Rattle.profile_runner.proofs.edges.add_edge.Goals as goal

pub returns-in-Ok : goal.returns-in-Ok
returns-in-Ok c =
    let found = rw c.deref.ensures.value at c.in-Ok.ensures in
    subst (λ (e : Edge). set c.args.row.now.items c.in-Ok.place (record e { count = e.count + 1 }) ≡ with_edge c.args.row.now.items c.args.from c.args.to)
    (sym c.index_mut.ensures.value)
    (found_is c.args.row.now.items c.args.from c.args.to c.in-Ok.place c.index_mut.result.now found)

pub returns-in_ok-insert-in-Err : goal.returns-in_ok-insert-in-Err
returns-in_ok-insert-in-Err c =
    let gap = rw c.deref.ensures.value at c.in-Err.ensures in
    let is = gap_is c.args.row.now.items c.args.from c.args.to c.in-Err.place gap in
    c.in_ok-insert-in-Err.ensures.items ∙ is
