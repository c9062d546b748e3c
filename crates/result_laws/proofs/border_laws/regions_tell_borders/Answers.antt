use Rattle.result_laws.proofs.Entries.{regions_tell_borders}
use Rattle.result_laws.proofs.border_laws.regions_tell_borders.Goals as goal

pub returns : goal.returns
returns c = regions_tell_borders
