use Rattle.result_laws.proofs.Dead.{temporaries_are_dead}
use Rattle.result_laws.proofs.copy_laws.temporaries_are_dead.Goals as goal

pub returns : goal.returns
returns c = temporaries_are_dead
