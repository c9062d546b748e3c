use Rattle.placement_candidates.proofs.RunLemmas.{mixed_of_the_runs}
use Rattle.placement_candidates.proofs.mix_laws.mix_is_of_the_runs.Goals as goal

pub returns : goal.returns
returns c view board g code t objects pieces runs mixed all some is =
    mixed_of_the_runs c.one_instruction.ensures view board g code t objects pieces runs mixed all some is
