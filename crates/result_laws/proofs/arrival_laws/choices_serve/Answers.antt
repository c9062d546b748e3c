use Rattle.result_laws.proofs.ArrivalChosen.{choices_serve}
use Rattle.result_laws.proofs.arrival_laws.choices_serve.Goals as goal

pub returns : goal.returns
returns c = choices_serve
