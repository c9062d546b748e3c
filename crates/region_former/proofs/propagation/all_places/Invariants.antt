use Rattle.std.proofs.Common.{◌≡◌, ℕ, nat_lt}
use Rattle.code_blocks.specs.Early.{has}
use Rattle.region_former.proofs.propagation.all_places.Given as goal

abbrev pub invariant-loop-f : goal.invariant-loop-f
invariant-loop-f l = (f : ℕ) → has l.places.items f ≡ nat_lt f l.f
