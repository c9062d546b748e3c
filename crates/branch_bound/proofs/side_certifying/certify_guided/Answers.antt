use Rattle.std.proofs.Common.{false, subst}
use Rattle.placement_programme.specs.Views.{plain_programme}
use Rattle.branch_bound.specs.FirstSearch.{nodes_within, SearchesBoth, IfUnfinished}
use Rattle.branch_bound.specs.declared.side_visiting.Round.{Round}
use Rattle.branch_bound.proofs.GuidedLemmas.{rounds_told}
use Rattle.branch_bound.proofs.side_certifying.certify_guided.Goals as goal

pub returns-in-Unfinished-clause-searches : goal.returns-in-Unfinished-clause-searches
returns-in-Unfinished-clause-searches g c =
    let answers = g.G.Guide.answers in
    let p = plain_programme c.args.p.now in
    let nodes = c.args.nodes in
    let best = c.in-Unfinished.best.gain in
    let told = subst (λ (r : Round). IfUnfinished (SearchesBoth answers p (nodes_within 1000 1000000 p nodes) false c.first_incumbent-best.result.gain) r) c.in-Unfinished.is c.in_ok-certificate.ensures.searches in
    let first = subst (λ n. SearchesBoth answers p (nodes_within 1000 1000000 p nodes) false n best) c.first_incumbent-best.ensures.gain told in
    rounds_told answers p nodes best c.search_round-in-Unfinished.result first c.search_round-in-Unfinished.ensures.searches
