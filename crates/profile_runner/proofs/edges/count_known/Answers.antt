use Rattle.std.proofs.Common.{List, subst}
use Rattle.profile_runner.specs.declared.counts.Edge.{Edge}
use Rattle.profile_runner.specs.Tallies.{IsFoundAt}
use Rattle.profile_runner.proofs.edges.count_known.Goals as goal

pub count_at-requires-clause-found : goal.count_at-requires-clause-found
count_at-requires-clause-found c =
    subst (λ (es : List Edge). IsFoundAt es c.args.to 0) c.deref.ensures.value (c.leads_to.ensures c.if-leads_to.true)
