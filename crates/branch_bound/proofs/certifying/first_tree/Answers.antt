use Rattle.std.proofs.Common.{◌≡◌, ◌∙◌, [], subst}
use Rattle.placement_programme.specs.Views.{plain_side}
use Rattle.certificate_checker.specs.Rules.{DualHolds}
use Rattle.certificate_checker.specs.Shows.{all_free}
use Rattle.branch_bound.proofs.VisitLemmas.{first_fails}
use Rattle.branch_bound.proofs.certifying.first_tree.Goals as goal

pub returns-in-None : goal.returns-in-None
returns-in-None c =
    let s = plain_side c.args.side.now in
    let best = c.args.best in
    let is : c.in_ok-root.root.marks.items ≡ all_free s = c.in_ok-root.ensures.marks ∙ c.in_ok-free_marks.ensures in
    first_fails s best (subst (λ m. DualHolds s best m 1 [] → ⊥) is c.in-None.ensures)
