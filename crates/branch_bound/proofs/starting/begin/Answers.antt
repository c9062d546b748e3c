use Rattle.std.proofs.Common.{option_map, refl, sym, subst, arith}
use Rattle.placement_programme.specs.Views.{plain_side}
use Rattle.branch_bound.specs.Greedy.{GreedyGains}
use Rattle.branch_bound.proofs.starting.begin.Goals as goal

pub returns-in-None-clause-start : goal.returns-in-None-clause-start
returns-in-None-clause-start c =
    let off = c.in_ok-try_greedy.ensures.gains in
    let zero = c.in_ok-best.ensures.gain in
    let more = off.1.1 in (
      off.0,
      (
        0,
        (
          off.1.0,
          subst (λ o. GreedyGains (option_map plain_side o) 0) (sym c.in-None.is) refl,
          omega (arith, more, zero),
        ),
      ),
    )
