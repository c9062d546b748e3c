use Rattle.result_laws.proofs.Entries.{borders_are_free}
use Rattle.result_laws.proofs.border_laws.borders_are_free.Goals as goal

pub returns : goal.returns
returns c = borders_are_free
