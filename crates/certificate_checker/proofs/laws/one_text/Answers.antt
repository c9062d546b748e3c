use Rattle.certificate_checker.proofs.TextLaws.{one_text}
use Rattle.certificate_checker.proofs.laws.one_text.Goals as goal

pub returns : goal.returns
returns c = one_text
