use Rattle.result_laws.proofs.Serving.{jobs_of_choice_serve}
use Rattle.result_laws.proofs.setup_laws.jobs_of_choice_serve.Goals as goal

pub returns : goal.returns
returns c = jobs_of_choice_serve
