use Rattle.code_blocks.proofs.LeaderLemmas.{leader_is_code}
use Rattle.code_blocks.proofs.laws.leaders_are_code.Goals as goal

pub returns : goal.returns
returns c v a leader = leader_is_code v a leader
