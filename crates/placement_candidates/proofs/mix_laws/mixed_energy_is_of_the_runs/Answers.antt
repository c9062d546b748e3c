use Rattle.placement_candidates.proofs.EnergyLemmas.{energies_are_mixed}
use Rattle.placement_candidates.proofs.mix_laws.mixed_energy_is_of_the_runs.Goals as goal

pub returns : goal.returns
returns c view board g code t objects pieces runs all are overlaid choice feasible =
    energies_are_mixed c.one_instruction.ensures view board g code t objects pieces runs all are overlaid choice feasible
