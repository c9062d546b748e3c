use Rattle.result_laws.proofs.OfChoice.{setup_of_choice}
use Rattle.result_laws.proofs.setup_laws.setup_of_choice.Goals as goal

pub returns : goal.returns
returns c = setup_of_choice
