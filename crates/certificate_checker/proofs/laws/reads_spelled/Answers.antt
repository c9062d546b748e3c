use Rattle.certificate_checker.proofs.TextLaws.{reads_spelled}
use Rattle.certificate_checker.proofs.laws.reads_spelled.Goals as goal

pub returns : goal.returns
returns c = reads_spelled
