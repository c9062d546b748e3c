use Rattle.code_blocks.specs.Numbers.{starts_of}
use Rattle.object_machine.specs.Numbering.{AreNumbers}
use Rattle.object_machine.proofs.numbering.block_numbers.Given as goal

-- the first units have their numbers
abbrev pub invariant-loop-k : goal.invariant-loop-k
invariant-loop-k l = AreNumbers (starts_of l.code) l.units l.k l.numbers.items
