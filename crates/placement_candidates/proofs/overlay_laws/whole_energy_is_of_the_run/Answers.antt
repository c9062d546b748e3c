use Rattle.placement_candidates.proofs.WholeChoices.{whole_of_the_run}
use Rattle.placement_candidates.proofs.overlay_laws.whole_energy_is_of_the_run.Goals as goal

pub returns : goal.returns
returns c view board g code t q objects pieces ms choice given are overlaid feasible =
    whole_of_the_run c.one_instruction.ensures view board g code t q objects pieces ms choice given are overlaid feasible
