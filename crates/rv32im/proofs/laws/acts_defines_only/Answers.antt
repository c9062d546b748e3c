use Rattle.rv32im.proofs.Effects.{defines_only}
use Rattle.rv32im.proofs.laws.acts_defines_only.Goals as goal

pub returns : goal.returns
returns c = defines_only
