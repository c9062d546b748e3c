use Rattle.std.proofs.Common.{take}
use Rattle.rv32im.specs.Acts.{without_zero}
use Rattle.rv32im.specs.RegSet.{HasExactly}
use Rattle.rv32im.proofs.registers.set_of.Given as goal

abbrev pub invariant-loop-k : goal.invariant-loop-k
invariant-loop-k l = HasExactly l.set (without_zero (take l.k-index l.registers))
