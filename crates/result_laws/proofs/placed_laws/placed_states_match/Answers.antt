use Rattle.result_laws.proofs.Matching.{placed_states_match}
use Rattle.result_laws.proofs.placed_laws.placed_states_match.Goals as goal

pub returns : goal.returns
returns c = placed_states_match
