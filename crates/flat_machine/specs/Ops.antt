-- The instruction that each name stands for.
use Rattle.rv32im.specs.declared.instructions.Instr.{Instr}
use Rattle.rv32im.specs.declared.instructions.Instr.TheVariants as instr
use Rattle.rv32im.specs.declared.instructions.BranchKind.TheVariants as branch
use Rattle.rv32im.specs.declared.instructions.LoadKind.TheVariants as load
use Rattle.rv32im.specs.declared.instructions.StoreKind.TheVariants as store
use Rattle.rv32im.specs.declared.instructions.ImmKind.TheVariants as imm_kind
use Rattle.rv32im.specs.declared.instructions.RegKind.TheVariants as reg_kind
use Rattle.flat_machine.specs.declared.op.Op.{Op}
use Rattle.flat_machine.specs.declared.op.Op.TheVariants.{Lui, Auipc, Jal, Jalr, Beq, Bne, Blt, Bge, Bltu, Bgeu, Lb, Lh, Lw, Lbu, Lhu, Sb, Sh, Sw, Addi, Slti, Sltiu, Xori, Ori, Andi, Slli, Srli, Srai, Add, Sub, Sll, Slt, Sltu, Xor, Srl, Sra, Or, And, Mul, OpReg}

abbrev pub instr_of : Op → Instr
instr_of (Lui rd imm) = instr.Lui rd imm
instr_of (Auipc rd imm) = instr.Auipc rd imm
instr_of (Jal rd off) = instr.Jal rd off
instr_of (Jalr rd rs1 imm) = instr.Jalr rd rs1 imm
instr_of (Beq rs1 rs2 off) = instr.Branch branch.Beq rs1 rs2 off
instr_of (Bne rs1 rs2 off) = instr.Branch branch.Bne rs1 rs2 off
instr_of (Blt rs1 rs2 off) = instr.Branch branch.Blt rs1 rs2 off
instr_of (Bge rs1 rs2 off) = instr.Branch branch.Bge rs1 rs2 off
instr_of (Bltu rs1 rs2 off) = instr.Branch branch.Bltu rs1 rs2 off
instr_of (Bgeu rs1 rs2 off) = instr.Branch branch.Bgeu rs1 rs2 off
instr_of (Lb rd rs1 imm) = instr.Load load.Lb rd rs1 imm
instr_of (Lh rd rs1 imm) = instr.Load load.Lh rd rs1 imm
instr_of (Lw rd rs1 imm) = instr.Load load.Lw rd rs1 imm
instr_of (Lbu rd rs1 imm) = instr.Load load.Lbu rd rs1 imm
instr_of (Lhu rd rs1 imm) = instr.Load load.Lhu rd rs1 imm
instr_of (Sb rs1 rs2 imm) = instr.Store store.Sb rs1 rs2 imm
instr_of (Sh rs1 rs2 imm) = instr.Store store.Sh rs1 rs2 imm
instr_of (Sw rs1 rs2 imm) = instr.Store store.Sw rs1 rs2 imm
instr_of (Addi rd rs1 imm) = instr.OpImm imm_kind.Addi rd rs1 imm
instr_of (Slti rd rs1 imm) = instr.OpImm imm_kind.Slti rd rs1 imm
instr_of (Sltiu rd rs1 imm) = instr.OpImm imm_kind.Sltiu rd rs1 imm
instr_of (Xori rd rs1 imm) = instr.OpImm imm_kind.Xori rd rs1 imm
instr_of (Ori rd rs1 imm) = instr.OpImm imm_kind.Ori rd rs1 imm
instr_of (Andi rd rs1 imm) = instr.OpImm imm_kind.Andi rd rs1 imm
instr_of (Slli rd rs1 imm) = instr.OpImm imm_kind.Slli rd rs1 imm
instr_of (Srli rd rs1 imm) = instr.OpImm imm_kind.Srli rd rs1 imm
instr_of (Srai rd rs1 imm) = instr.OpImm imm_kind.Srai rd rs1 imm
instr_of (Add rd rs1 rs2) = instr.OpReg reg_kind.Add rd rs1 rs2
instr_of (Sub rd rs1 rs2) = instr.OpReg reg_kind.Sub rd rs1 rs2
instr_of (Sll rd rs1 rs2) = instr.OpReg reg_kind.Sll rd rs1 rs2
instr_of (Slt rd rs1 rs2) = instr.OpReg reg_kind.Slt rd rs1 rs2
instr_of (Sltu rd rs1 rs2) = instr.OpReg reg_kind.Sltu rd rs1 rs2
instr_of (Xor rd rs1 rs2) = instr.OpReg reg_kind.Xor rd rs1 rs2
instr_of (Srl rd rs1 rs2) = instr.OpReg reg_kind.Srl rd rs1 rs2
instr_of (Sra rd rs1 rs2) = instr.OpReg reg_kind.Sra rd rs1 rs2
instr_of (Or rd rs1 rs2) = instr.OpReg reg_kind.Or rd rs1 rs2
instr_of (And rd rs1 rs2) = instr.OpReg reg_kind.And rd rs1 rs2
instr_of (Mul rd rs1 rs2) = instr.OpReg reg_kind.Mul rd rs1 rs2
instr_of (OpReg kind rd rs1 rs2) = instr.OpReg kind rd rs1 rs2
