use Rattle.std.proofs.Common.{ℕ, ◌≤◌, option_map, IfOk, sym, ap, subst}
use Rattle.placement_programme.specs.Views.{plain_side}
use Rattle.branch_bound.specs.Solving.{ReportsOn}
use Rattle.branch_bound.proofs.solving.search_on.Goals as goal

pub returns-in-Some-clause-tells : goal.returns-in-Some-clause-tells
returns-in-Some-clause-tells g c =
    subst (λ side. IfOk c.search_side.result (λ o. (start : ℕ) → start ≤ c.args.best.gain → ReportsOn side start o.best.gain c.args.left o.left o.tree)) (sym (ap (λ o. option_map plain_side o) c.in-Some.is)) c.search_side.ensures.tells
