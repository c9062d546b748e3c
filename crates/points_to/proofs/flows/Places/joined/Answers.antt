use Rattle.points_to.proofs.PlaceLemmas.{in_either}
use Rattle.points_to.proofs.flows.Places.joined.Goals as goal

pub returns : goal.returns
returns c y = in_either c.args.self.bits c.args.other.bits y
