use Rattle.std.proofs.Common.{refl}
use Rattle.relinking.proofs.mixing.part_of_run.Goals as goal

pub returns-in-Ok-clause-ok : goal.returns-in-Ok-clause-ok
returns-in-Ok-clause-ok g c = record { weight = refl; profile = c.in-Ok.measured.profile; states = c.in-Ok.ensures.ok }
