use Rattle.energy_model.proofs.ObjectLemmas.{object_counted}
use Rattle.energy_model.proofs.laws.object_is_counted.Goals as goal

pub returns : goal.returns
returns c view board g code t q ms r o given region object =
    object_counted c.one_instruction.ensures view board g code t q ms r o given region object
