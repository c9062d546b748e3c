use Rattle.relinking.proofs.StatedLemmas.{stated_choice}
use Rattle.relinking.proofs.laws.stated_is_realisable.Goals as goal

pub returns : goal.returns
returns c = λ board g code t pieces overlaid moves are.
    stated_choice board g code t pieces overlaid are.0 are.1 are.2 moves
