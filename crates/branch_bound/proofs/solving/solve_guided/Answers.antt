use Rattle.std.proofs.Common.{subst}
use Rattle.placement_programme.specs.Views.{plain_programme}
use Rattle.branch_bound.specs.Rounds.{IsRound}
use Rattle.branch_bound.specs.declared.side_visiting.Round.{Round}
use Rattle.certificate_checker.specs.Views.{plain_certificate}
use Rattle.branch_bound.specs.Searching.{choice_of}
use Rattle.branch_bound.proofs.ShownLemmas.{shown_searched}
use Rattle.branch_bound.proofs.solving.solve_guided.Goals as goal

pub returns-in-Certified-clause-ends : goal.returns-in-Certified-clause-ends
returns-in-Certified-clause-ends g c =
    let p = plain_programme c.args.p.now in
    let start = c.in_ok-start-in-Certified.start in
    let round = subst (λ (r : Round). IsRound p r) c.in-Certified.is c.in_ok-certificate.ensures.round in
    let found = c.in_ok-found-in-Certified.ensures in
    shown_searched p (plain_certificate c.in-Certified.certificate) round.0 c.args.nodes start.gain (choice_of p start) c.in_ok-found-in-Certified.found c.in_ok-start-in-Certified.ensures.start c.in_ok-start-in-Certified.ensures.incumbent.accepted round.1 found.choice found.certificate found.status
