use Rattle.result_laws.proofs.HomeSound.{home_is_sound}
use Rattle.result_laws.proofs.home_laws.home_is_sound.Goals as goal

pub returns : goal.returns
returns c = home_is_sound
