use Rattle.relink_core.proofs.KeepsLemmas.{unmoved_file_keeps}
use Rattle.relink_core.proofs.laws.unmoved_file_keeps.Goals as goal

pub returns : goal.returns
returns c = unmoved_file_keeps
