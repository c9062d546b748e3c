use Rattle.placement_candidates.proofs.RunLemmas.{run_is_alone}
use Rattle.placement_candidates.proofs.mix_laws.one_run_is_alone.Goals as goal

pub returns : goal.returns
returns c view board g code t objects pieces transitions given =
    run_is_alone c.one_instruction.ensures view board g code t objects pieces transitions given
