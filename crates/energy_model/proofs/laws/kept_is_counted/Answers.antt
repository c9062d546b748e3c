use Rattle.energy_model.proofs.KeptLemmas.{kept_counted}
use Rattle.energy_model.proofs.laws.kept_is_counted.Goals as goal

pub returns : goal.returns
returns c view board g code t q ms pair o given some within object =
    kept_counted c.one_instruction.ensures view board g code t q ms pair o given some within object
