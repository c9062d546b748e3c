use Rattle.relinking.proofs.StatedLemmas.{mixed_choice}
use Rattle.relinking.proofs.laws.mixed_is_realisable.Goals as goal

pub returns : goal.returns
returns c = λ board g code t pieces overlaid runs are.
    mixed_choice board g code t pieces overlaid are.0 are.1 are.2 runs
