use Rattle.result_laws.proofs.Entries.{enters_at_borders}
use Rattle.result_laws.proofs.border_laws.enters_at_borders.Goals as goal

pub returns : goal.returns
returns c = enters_at_borders
