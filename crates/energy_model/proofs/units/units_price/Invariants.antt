use Rattle.std.proofs.Common.{◌≡◌, ℕ, ◌*◌, ◌≤◌}
use Rattle.energy_model.specs.Priced.{units_price}
use Rattle.energy_model.proofs.units.units_price.Given as goal

pub record IsSum (total k : ℕ) (sum : ℕ) : Type 0 where
  pub is : total ≡ sum
  pub small : total ≤ k * 18446744073709551615

abbrev pub invariant-loop-k : goal.invariant-loop-k
invariant-loop-k l = IsSum l.total l.k (units_price l.prices l.block.units.items l.k)
