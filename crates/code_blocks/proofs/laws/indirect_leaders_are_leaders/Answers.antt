use Rattle.code_blocks.proofs.LeaderLemmas.{indirect_is_leader}
use Rattle.code_blocks.proofs.laws.indirect_leaders_are_leaders.Goals as goal

pub returns : goal.returns
returns c v a indirect = indirect_is_leader v a indirect
