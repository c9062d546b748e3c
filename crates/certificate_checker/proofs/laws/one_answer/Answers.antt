use Rattle.certificate_checker.proofs.OneFailing.{one_answer}
use Rattle.certificate_checker.proofs.laws.one_answer.Goals as goal

pub returns : goal.returns
returns c = one_answer
