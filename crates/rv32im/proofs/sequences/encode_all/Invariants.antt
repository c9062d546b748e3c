use Rattle.std.proofs.Common.{take}
use Rattle.rv32im.specs.Sequences.{MeanAll}
use Rattle.rv32im.proofs.sequences.encode_all.Given as goal

-- the words so far mean the first instructions
abbrev pub invariant-loop-instr : goal.invariant-loop-instr
invariant-loop-instr l = MeanAll l.words.items (take l.instr-index l.code)
