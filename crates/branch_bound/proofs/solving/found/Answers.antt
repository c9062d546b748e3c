use Rattle.std.proofs.Common.{MatchOption, refl, sym, subst}
use Rattle.placement_programme.specs.Views.{plain_programme, plain_choice}
use Rattle.branch_bound.specs.Searching.{choice_of}
use Rattle.branch_bound.specs.Solving.{EndsWithin, AreTreesOf}
use Rattle.branch_bound.proofs.SolveLemmas.{range_none, range_trees}
use Rattle.branch_bound.proofs.solving.found.Goals as goal

pub returns-in-None-clause-range : goal.returns-in-None-clause-range
returns-in-None-clause-range c = range_none (plain_choice c.in_ok-copy.copy) c.in_ok-copy.ensures.range

pub returns-in-None-clause-status : goal.returns-in-None-clause-status
returns-in-None-clause-status c =
    let p = plain_programme c.args.p.now in
    let best = c.args.best.now in
    let ends = subst (λ o. MatchOption o (EndsWithin p c.args.nodes (choice_of p best)) (AreTreesOf p best.gain)) c.in-None.is c.requires.trees in
    (refl, refl, refl, subst (λ choice. EndsWithin p c.args.nodes choice) (sym c.in_ok-copy.ensures.choice) ends)

pub returns-in-Some-clause-range : goal.returns-in-Some-clause-range
returns-in-Some-clause-range c =
    let p = plain_programme c.args.p.now in
    let best = c.args.best.now in
    let trees = subst (λ o. MatchOption o (EndsWithin p c.args.nodes (choice_of p best)) (AreTreesOf p best.gain)) c.in-Some.is c.requires.trees in
    range_trees p best.gain (plain_choice c.in_ok-copy.copy) c.in-Some.field-0 c.in_ok-copy.ensures.range trees
