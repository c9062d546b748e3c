use Rattle.std.proofs.Common.{◌≡◌, ◌≤◌}
use Rattle.placement_programme.specs.Sums.{sum_below}
use Rattle.certificate_checker.specs.Fixings.{fixing_of}
use Rattle.certificate_checker.specs.Tallies.{if_free}
use Rattle.certificate_checker.proofs.tallying.count_free.Given as goal

abbrev pub invariant-loop-number : goal.invariant-loop-number
invariant-loop-number l = record {
  value : l.total ≡ sum_below l.number (λ j. if_free (fixing_of l.marks j));
  small : l.total ≤ l.number;
}
