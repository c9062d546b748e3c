use Rattle.relocator.proofs.FitLemmas.{places_fit}
use Rattle.relocator.proofs.laws.places_fit.Goals as goal

pub returns : goal.returns
returns c = places_fit
