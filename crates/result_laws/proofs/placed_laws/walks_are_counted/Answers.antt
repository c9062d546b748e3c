use Rattle.result_laws.proofs.Counting.{walks_counted}
use Rattle.result_laws.proofs.placed_laws.walks_are_counted.Goals as goal

pub returns : goal.returns
returns c = walks_counted
