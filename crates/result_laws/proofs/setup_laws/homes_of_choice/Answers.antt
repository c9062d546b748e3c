use Rattle.result_laws.proofs.Homes.{homes_of_choice}
use Rattle.result_laws.proofs.setup_laws.homes_of_choice.Goals as goal

pub returns : goal.returns
returns c = homes_of_choice
