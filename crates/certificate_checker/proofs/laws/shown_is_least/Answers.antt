use Rattle.certificate_checker.proofs.Least.{shown_is_least}
use Rattle.certificate_checker.proofs.laws.shown_is_least.Goals as goal

pub returns : goal.returns
returns c = shown_is_least
