use Rattle.result_laws.proofs.SoundChoice.{choice_is_sound}
use Rattle.result_laws.proofs.setup_laws.choice_is_sound.Goals as goal

pub returns : goal.returns
returns c = choice_is_sound
