use Rattle.std.proofs.Common.{length, subst}
use Rattle.placement_programme.specs.Views.{plain_side}
use Rattle.branch_bound.specs.Ranking.{PassedOver}
use Rattle.branch_bound.proofs.RankingLemmas.{greatest_first, passed_full, first_there}
use Rattle.branch_bound.proofs.VisitLemmas.{leaf_known}
use Rattle.branch_bound.proofs.searching.visit_known.Goals as goal

pub close_or_open-requires-clause-greatest : goal.close_or_open-requires-clause-greatest
close_or_open-requires-clause-greatest c =
    let found = first_there c.args.task.now.ranking.now c.deref.result.now c.args.node.now.marks.items c.first_free.result c.in-Some.found c.deref.ensures.value c.in-Some.is c.first_free.ensures in
    greatest_first (plain_side c.args.task.now.side.now) c.args.task.now.ranking.now c.args.node.now.marks.items c.in-Some.found c.requires.ranking found.0 found.1 found.2

pub returns-in-None : goal.returns-in-None
returns-in-None c =
    let s = plain_side c.args.task.now.side.now in
    let ranking = c.args.task.now.ranking.now in
    let marks = c.args.node.now.marks.items in
    let passed = subst (λ ms. PassedOver ranking ms (length ranking)) c.deref.ensures.value c.in-None.ensures in
    (leaf_known s c.args.best marks c.requires.fits c.requires.below (passed_full s ranking marks c.requires.ranking passed), tt)
