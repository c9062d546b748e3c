-- A word means one instruction, and an instruction has one word.
use Rattle.std.proofs.Common.{ℕ, arith}
use Rattle.std.proofs.lemmas.Bool.Decides.{nat_tests}
use Rattle.std.proofs.lemmas.Grind.{common_steps}
use Rattle.std.proofs.lemmas.Int.{ints}
use Rattle.rv32im.specs.declared.instructions.Instr.{Instr}
use Rattle.rv32im.specs.declared.instructions.Instr.TheVariants.{Lui, Auipc, Jal, Jalr, Branch, Load, Store, OpImm, OpReg, Fence, FenceI, Ecall, Ebreak}
use Rattle.rv32im.specs.Table.{Means, IsInRange, OneWord, OneInstruction}

pub same_word : OneWord
same_word v w i v_fits w_fits v_means w_means = grind (arith, common_steps)

pub same_instruction : OneInstruction
same_instruction w i j means also = grind (arith, common_steps)

-- the fields of a word are in their ranges
pub in_range : (w : ℕ) (i : Instr) → Means w i → IsInRange i
in_range w (Lui rd imm) m = grind (arith, ints, nat_tests)
in_range w (Auipc rd imm) m = grind (arith, ints, nat_tests)
in_range w (Jal rd off) m = grind (arith, ints, nat_tests)
in_range w (Jalr rd rs1 imm) m = grind (arith, ints, nat_tests)
in_range w (Branch kind rs1 rs2 off) m = grind (arith, ints, nat_tests)
in_range w (Load kind rd rs1 imm) m = grind (arith, ints, nat_tests)
in_range w (Store kind rs1 rs2 imm) m = grind (arith, ints, nat_tests)
in_range w (OpImm kind rd rs1 imm) m = grind (arith, ints, nat_tests)
in_range w (OpReg kind rd rs1 rs2) m = grind (arith, ints, nat_tests)
in_range w (Fence bits) m = grind (arith, ints, nat_tests)
in_range w (FenceI bits) m = grind (arith, ints, nat_tests)
in_range w Ecall m = tt
in_range w Ebreak m = tt
