use Rattle.std.proofs.Common.{◌≡◌, ℕ, ◌+◌, ◌*◌, ◌^◌, ◌≤◌, take}
use Rattle.placement_programme.specs.Programme.{weight_in}
use Rattle.placement_programme.specs.Views.{plain_side}
use Rattle.certificate_checker.specs.Prices.{priced_at, credits, AreFrom}
use Rattle.certificate_checker.proofs.crediting.add_priced.Given as goal

abbrev pub invariant-loop-entry : goal.invariant-loop-entry
invariant-loop-entry l = record {
  values : (j : ℕ) → priced_at l.pricing.stamp l.prices j ≡ priced_at l.pricing.stamp l.fn.prices j + l.multiplier * weight_in (take l.entry-index l.entries) j;
  credits : l.total + credits (plain_side l.pricing.side.now) l.pricing.marks.now l.pricing.scale (priced_at l.pricing.stamp l.fn.prices) ≡ credits (plain_side l.pricing.side.now) l.pricing.marks.now l.pricing.scale (priced_at l.pricing.stamp l.prices);
  least : l.total ≤ l.entry-index * 2 ^ 96;
  stamps : (limit : ℕ) → limit ≤ l.pricing.stamp → AreFrom limit l.fn.prices → AreFrom limit l.prices;
}
