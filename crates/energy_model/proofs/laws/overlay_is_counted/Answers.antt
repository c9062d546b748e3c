use Rattle.energy_model.proofs.OverlayLemmas.{overlay_counted}
use Rattle.energy_model.proofs.laws.overlay_is_counted.Goals as goal

pub returns : goal.returns
returns c view board g code t q ms given = overlay_counted c.one_instruction.ensures view board g code t q ms given
