use Rattle.rv32im.proofs.Effects.{uses_only}
use Rattle.rv32im.proofs.laws.acts_uses_only.Goals as goal

pub returns : goal.returns
returns c = uses_only
