use Rattle.placement_candidates.proofs.AddingLemmas.{adds_up}
use Rattle.placement_candidates.proofs.adding.energy_adds_up.Goals as goal

pub returns : goal.returns
returns c = adds_up c.one_instruction.ensures
