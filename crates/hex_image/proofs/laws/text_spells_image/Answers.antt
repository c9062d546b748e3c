use Rattle.hex_image.proofs.SpellLemmas.{text_spells}
use Rattle.hex_image.proofs.laws.text_spells_image.Goals as goal

pub returns : goal.returns
returns c = text_spells
