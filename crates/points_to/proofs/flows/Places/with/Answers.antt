use Rattle.points_to.proofs.PlaceLemmas.{in_more}
use Rattle.points_to.proofs.flows.Places.with.Goals as goal

pub returns : goal.returns
returns c y = in_more c.args.self.bits c.args.place y c.requires
