use Rattle.energy_model.proofs.OverlaidCode.{piece_counted}
use Rattle.energy_model.proofs.laws.piece_is_counted.Goals as goal

pub returns : goal.returns
returns c view board g code t q ms first last r given region =
    piece_counted c.one_instruction.ensures view board g code t q ms first last r given region
