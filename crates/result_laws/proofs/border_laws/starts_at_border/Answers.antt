use Rattle.result_laws.proofs.Entries.{starts_at_border}
use Rattle.result_laws.proofs.border_laws.starts_at_border.Goals as goal

pub returns : goal.returns
returns c = starts_at_border
