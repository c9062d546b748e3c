use Rattle.std.proofs.Common.{arith}
use Rattle.placement_programme.proofs.FitLemmas.{named_nowhere}
use Rattle.placement_programme.proofs.fitting.names_none.Goals as goal

pub returns : goal.returns
returns c same row from to =
    named_nowhere c.args.weights.now c.count_before.result c.args.low c.args.high row c.count_before.ensures.before
    (λ k behind inside. c.count_before-2.ensures.behind k (grind (arith, same, behind)) inside)
    from to
