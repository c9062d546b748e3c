use Rattle.energy_model.proofs.TogetherLemmas.{saves_as_alone}
use Rattle.energy_model.proofs.laws.saves_as_alone.Goals as goal

pub returns : goal.returns
returns c view board g code t q ms on name names given apart =
    saves_as_alone c.one_instruction.ensures view board g code t q ms on name names given apart
