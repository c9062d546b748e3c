-- Short sequences of instructions that have names of their own in assembly (RISC-V Assembly Programmer's Manual,
-- "Pseudoinstructions"; RISC-V psABI, "Absolute Addresses"), and the words of a list of instructions.
use Rattle.std.specs.Prelude.{ℕ, List, [], ◌∷◌, ℤ}
use Rattle.std.specs.Int.{cast_signed, w32}
use Rattle.rv32im.specs.Words.{minus, upper_half, lower_half}
use Rattle.rv32im.specs.Table.{Means}
use Rattle.rv32im.specs.declared.instructions.Instr.{Instr}
use Rattle.rv32im.specs.declared.instructions.Instr.TheVariants.{Lui, Jalr, OpImm}
use Rattle.rv32im.specs.declared.instructions.ImmKind.TheVariants.{Addi}
use Rattle.rv32im.specs.declared.instructions.BranchKind.{BranchKind}
use Rattle.rv32im.specs.declared.instructions.BranchKind.TheVariants.{Beq, Bne, Blt, Bge, Bltu, Bgeu}

-- li: LUI and ADDI leave a word in a register
abbrev pub load_immediate : ℕ → ℕ → List Instr
load_immediate rd word = Lui rd (upper_half word) ∷ OpImm Addi rd rd (lower_half word) ∷ []

-- a jump to any address: LUI leaves its upper part in a register, by which JALR goes there
abbrev pub jump_absolute : ℕ → ℕ → List Instr
jump_absolute temporary target = Lui temporary (upper_half target) ∷ Jalr 0 temporary (lower_half target) ∷ []

-- the signed distance from one address to another
abbrev pub distance : ℕ → ℕ → ℤ
distance at to = cast_signed w32 (minus to at)

-- the branch that is taken just where another is not
abbrev pub inverse : BranchKind → BranchKind
inverse Beq = Bne
inverse Bne = Beq
inverse Blt = Bge
inverse Bge = Blt
inverse Bltu = Bgeu
inverse Bgeu = Bltu

-- each word means the instruction at its place
abbrev pub MeanAll : List ℕ → List Instr → Type 0
MeanAll [] [] = Unit {0}
MeanAll [] (i ∷ is) = ⊥
MeanAll (w ∷ ws) [] = ⊥
MeanAll (w ∷ ws) (i ∷ is) = Means w i × MeanAll ws is
