use Rattle.std.proofs.Common.{◌≡◌}
use Rattle.energy_model.specs.Base.{arrived_price}
use Rattle.energy_model.proofs.base.blocks_price.Given as goal

abbrev pub invariant-loop-k : goal.invariant-loop-k
invariant-loop-k l = l.total ≡ arrived_price l.prices l.blocks l.profile.arrivals.items l.k
