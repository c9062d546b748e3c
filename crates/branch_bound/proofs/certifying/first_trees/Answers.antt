use Rattle.std.proofs.Common.{MatchOption, option_map, ap, subst}
use Rattle.placement_programme.specs.Views.{plain_side, plain_programme}
use Rattle.certificate_checker.specs.Shows.{all_free}
use Rattle.certificate_checker.specs.Views.{plain_tree}
use Rattle.branch_bound.specs.Assignments.{FailsEveryLeafRule}
use Rattle.branch_bound.specs.Searching.{IsClosed}
use Rattle.branch_bound.proofs.SolveLemmas.{trees_off, trees_both}
use Rattle.branch_bound.proofs.certifying.first_trees.Goals as goal

pub returns-in-None-on : goal.returns-in-None-on
returns-in-None-on c =
    let p = plain_programme c.args.p.now in
    let off = subst (λ o. MatchOption o (FailsEveryLeafRule p.off c.args.best (all_free p.off)) (λ t. IsClosed p.off c.args.best (all_free p.off) (plain_tree t))) c.in-Some.is c.in_ok-first_tree.ensures in
    trees_off p c.args.best c.in-Some.tree off (ap (λ o. option_map plain_side o) c.in-None-on.is)

pub returns-in-Some-2 : goal.returns-in-Some-2
returns-in-Some-2 c =
    let p = plain_programme c.args.p.now in
    let s = plain_side c.in-Some-on.side in
    let off = subst (λ o. MatchOption o (FailsEveryLeafRule p.off c.args.best (all_free p.off)) (λ t. IsClosed p.off c.args.best (all_free p.off) (plain_tree t))) c.in-Some.is c.in_ok-first_tree.ensures in
    let on = subst (λ o. MatchOption o (FailsEveryLeafRule s c.args.best (all_free s)) (λ t. IsClosed s c.args.best (all_free s) (plain_tree t))) c.in-Some-2.is c.in_ok-first_tree-in-Some-on.ensures in
    trees_both p s c.args.best c.in-Some.tree c.in-Some-2.tree off (ap (λ o. option_map plain_side o) c.in-Some-on.is) on
