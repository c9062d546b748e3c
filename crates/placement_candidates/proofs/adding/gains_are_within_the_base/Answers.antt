use Rattle.placement_candidates.proofs.ChoiceLemmas.{within_the_base}
use Rattle.placement_candidates.proofs.adding.gains_are_within_the_base.Goals as goal

pub returns : goal.returns
returns c = within_the_base c.one_instruction.ensures
