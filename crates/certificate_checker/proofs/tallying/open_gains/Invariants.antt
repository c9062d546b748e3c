use Rattle.std.proofs.Common.{◌≡◌, []}
use Rattle.placement_programme.specs.Sums.{sum_below}
use Rattle.placement_programme.specs.Views.{plain_side}
use Rattle.certificate_checker.specs.Rules.{kept_at}
use Rattle.certificate_checker.proofs.tallying.open_gains.Given as goal

abbrev pub invariant-loop-number : goal.invariant-loop-number
invariant-loop-number l =
    l.total ≡ sum_below l.number (kept_at (plain_side l.side) l.marks 1 [])
