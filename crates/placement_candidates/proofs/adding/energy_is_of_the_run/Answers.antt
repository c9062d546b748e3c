use Rattle.placement_candidates.proofs.ChoiceLemmas.{is_of_the_run}
use Rattle.placement_candidates.proofs.adding.energy_is_of_the_run.Goals as goal

pub returns : goal.returns
returns c = is_of_the_run c.one_instruction.ensures
