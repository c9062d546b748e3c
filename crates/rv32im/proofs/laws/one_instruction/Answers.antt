use Rattle.rv32im.proofs.Meaning.{same_instruction}
use Rattle.rv32im.proofs.laws.one_instruction.Goals as goal

pub returns : goal.returns
returns c = same_instruction
