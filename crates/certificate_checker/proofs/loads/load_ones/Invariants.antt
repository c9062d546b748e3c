use Rattle.std.proofs.Common.{◌≡◌, ℕ, ◌*◌, ◌^◌, ◌≤◌, slice_index}
use Rattle.placement_programme.specs.Programme.{weight_at}
use Rattle.placement_programme.specs.Sums.{sum_below}
use Rattle.placement_programme.specs.Views.{plain_side}
use Rattle.certificate_checker.specs.Rules.{if_one}
use Rattle.certificate_checker.specs.Fixings.{fixing_of}
use Rattle.certificate_checker.proofs.loads.load_ones.Given as goal

abbrev pub invariant-loop-number : goal.invariant-loop-number
invariant-loop-number l = record {
  values : (row : ℕ) → slice_index l.loads row ≡ sum_below l.number (λ j. if_one (fixing_of l.marks j) (weight_at (plain_side l.side).vars row j));
  small : (row : ℕ) → slice_index l.loads row ≤ l.number * 2 ^ 32;
}
