use Rattle.points_to.proofs.PlaceLemmas.{in_one}
use Rattle.points_to.proofs.flows.Places.only.Goals as goal

pub returns : goal.returns
returns c y = in_one c.with.result c.args.place y (c.with.ensures y)
