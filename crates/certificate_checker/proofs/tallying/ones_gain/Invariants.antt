use Rattle.std.proofs.Common.{◌≡◌}
use Rattle.placement_programme.specs.Programme.{gain_at}
use Rattle.placement_programme.specs.Sums.{sum_below}
use Rattle.placement_programme.specs.Views.{plain_side}
use Rattle.certificate_checker.specs.Rules.{if_one}
use Rattle.certificate_checker.specs.Fixings.{fixing_of}
use Rattle.certificate_checker.proofs.tallying.ones_gain.Given as goal

abbrev pub invariant-loop-number : goal.invariant-loop-number
invariant-loop-number l =
    l.total ≡ sum_below l.number (λ j. if_one (fixing_of l.marks j) (gain_at (plain_side l.side).vars j))
