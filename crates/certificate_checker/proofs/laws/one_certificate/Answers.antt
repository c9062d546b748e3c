use Rattle.certificate_checker.proofs.TextLaws.{one_certificate}
use Rattle.certificate_checker.proofs.laws.one_certificate.Goals as goal

pub returns : goal.returns
returns c = one_certificate
