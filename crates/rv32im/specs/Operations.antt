-- Which operations are alike.
use Rattle.std.specs.Prelude.{Bool, true, false}
use Rattle.rv32im.specs.declared.instructions.ImmKind.{ImmKind}
use Rattle.rv32im.specs.declared.instructions.ImmKind.TheVariants.{Addi, Slti, Sltiu, Xori, Ori, Andi, Slli, Srli, Srai}
use Rattle.rv32im.specs.declared.instructions.RegKind.{RegKind}
use Rattle.rv32im.specs.declared.instructions.RegKind.TheVariants.{Add, Sub, Sll, Slt, Sltu, Xor, Srl, Sra, Or, And}

-- the operation on registers that does what one with an immediate does
abbrev pub operation_of : ImmKind → RegKind
operation_of Addi = Add
operation_of Slti = Slt
operation_of Sltiu = Sltu
operation_of Xori = Xor
operation_of Ori = Or
operation_of Andi = And
operation_of Slli = Sll
operation_of Srli = Srl
operation_of Srai = Sra

-- the low bits of what it leaves depend on those of both operands alone
abbrev pub takes_low_bits : RegKind → Bool
takes_low_bits Add = true
takes_low_bits Sub = true
takes_low_bits And = true
takes_low_bits Or = true
takes_low_bits Xor = true
takes_low_bits kind = false
