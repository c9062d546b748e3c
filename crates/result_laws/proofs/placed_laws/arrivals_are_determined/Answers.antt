use Rattle.result_laws.proofs.Apart.{arrivals_determined}
use Rattle.result_laws.proofs.placed_laws.arrivals_are_determined.Goals as goal

pub returns : goal.returns
returns c = arrivals_determined
