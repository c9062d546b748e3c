use Rattle.std.proofs.Common.{take}
use Rattle.rv32im.specs.Sequences.{MeanAll}
use Rattle.block_splitter.specs.Copying.{Appends}
use Rattle.block_splitter.proofs.words.push_code.Given as goal

-- the words that were added mean the first instructions
abbrev pub invariant-loop-instr : goal.invariant-loop-instr
invariant-loop-instr l = Appends l.initial.words.items l.words.items (λ ws. MeanAll ws (take l.instr-index l.code))
