-- The instruction table of RV32IM: which word means which instruction, a row at a time
-- (RISC-V Unprivileged ISA, "RV32/64G Instruction Set Listings").
use Rattle.std.specs.Prelude.{◌≡◌, ℕ, ◌%◌, ◌<◌, ℤ, pos, negsuc, ◌≤ℤ◌, ◌<ℤ◌}
use Rattle.std.specs.Int.{cast_unsigned, w32}
use Rattle.rv32im.specs.Fields.{opcode_of, rd_of, funct3_of, rs1_of, rs2_of, funct7_of, u_immediate, i_immediate, s_immediate, b_immediate, j_immediate, fence_bits_of}
use Rattle.rv32im.specs.declared.instructions.Instr.{Instr}
use Rattle.rv32im.specs.declared.instructions.Instr.TheVariants.{Lui, Auipc, Jal, Jalr, Branch, Load, Store, OpImm, OpReg, Fence, FenceI, Ecall, Ebreak}
use Rattle.rv32im.specs.declared.instructions.BranchKind.{BranchKind}
use Rattle.rv32im.specs.declared.instructions.BranchKind.TheVariants.{Beq, Bne, Blt, Bge, Bltu, Bgeu}
use Rattle.rv32im.specs.declared.instructions.LoadKind.{LoadKind}
use Rattle.rv32im.specs.declared.instructions.LoadKind.TheVariants.{Lb, Lh, Lw, Lbu, Lhu}
use Rattle.rv32im.specs.declared.instructions.StoreKind.{StoreKind}
use Rattle.rv32im.specs.declared.instructions.StoreKind.TheVariants.{Sb, Sh, Sw}
use Rattle.rv32im.specs.declared.instructions.ImmKind.{ImmKind}
use Rattle.rv32im.specs.declared.instructions.ImmKind.TheVariants.{Addi, Slti, Sltiu, Xori, Ori, Andi, Slli, Srli, Srai}
use Rattle.rv32im.specs.declared.instructions.RegKind.{RegKind}
use Rattle.rv32im.specs.declared.instructions.RegKind.TheVariants.{Add, Sub, Sll, Slt, Sltu, Xor, Srl, Sra, Or, And, Mul, Mulh, Mulhsu, Mulhu, Div, Divu, Rem, Remu}

-- funct3 of each kind of branch, load and store, and of each operation; funct7 of each operation
-- on two registers
abbrev pub branch_funct3 : BranchKind → ℕ
branch_funct3 Beq = 0
branch_funct3 Bne = 1
branch_funct3 Blt = 4
branch_funct3 Bge = 5
branch_funct3 Bltu = 6
branch_funct3 Bgeu = 7

abbrev pub load_funct3 : LoadKind → ℕ
load_funct3 Lb = 0
load_funct3 Lh = 1
load_funct3 Lw = 2
load_funct3 Lbu = 4
load_funct3 Lhu = 5

abbrev pub store_funct3 : StoreKind → ℕ
store_funct3 Sb = 0
store_funct3 Sh = 1
store_funct3 Sw = 2

abbrev pub imm_funct3 : ImmKind → ℕ
imm_funct3 Addi = 0
imm_funct3 Slli = 1
imm_funct3 Slti = 2
imm_funct3 Sltiu = 3
imm_funct3 Xori = 4
imm_funct3 Srli = 5
imm_funct3 Srai = 5
imm_funct3 Ori = 6
imm_funct3 Andi = 7

-- the immediate of an OP-IMM word: a shift has funct7 and its places, every other kind has
-- twelve signed bits
abbrev pub HasImm : ℕ → ImmKind → ℤ → Type 0
HasImm w Slli imm = (funct7_of w ≡ 0) × (imm ≡ pos (rs2_of w))
HasImm w Srli imm = (funct7_of w ≡ 0) × (imm ≡ pos (rs2_of w))
HasImm w Srai imm = (funct7_of w ≡ 0x20) × (imm ≡ pos (rs2_of w))
HasImm w Addi imm = imm ≡ i_immediate w
HasImm w Slti imm = imm ≡ i_immediate w
HasImm w Sltiu imm = imm ≡ i_immediate w
HasImm w Xori imm = imm ≡ i_immediate w
HasImm w Ori imm = imm ≡ i_immediate w
HasImm w Andi imm = imm ≡ i_immediate w

abbrev pub reg_funct3 : RegKind → ℕ
reg_funct3 Add = 0
reg_funct3 Sub = 0
reg_funct3 Sll = 1
reg_funct3 Slt = 2
reg_funct3 Sltu = 3
reg_funct3 Xor = 4
reg_funct3 Srl = 5
reg_funct3 Sra = 5
reg_funct3 Or = 6
reg_funct3 And = 7
reg_funct3 Mul = 0
reg_funct3 Mulh = 1
reg_funct3 Mulhsu = 2
reg_funct3 Mulhu = 3
reg_funct3 Div = 4
reg_funct3 Divu = 5
reg_funct3 Rem = 6
reg_funct3 Remu = 7

abbrev pub reg_funct7 : RegKind → ℕ
reg_funct7 Add = 0
reg_funct7 Sub = 0x20
reg_funct7 Sll = 0
reg_funct7 Slt = 0
reg_funct7 Sltu = 0
reg_funct7 Xor = 0
reg_funct7 Srl = 0
reg_funct7 Sra = 0x20
reg_funct7 Or = 0
reg_funct7 And = 0
reg_funct7 Mul = 1
reg_funct7 Mulh = 1
reg_funct7 Mulhsu = 1
reg_funct7 Mulhu = 1
reg_funct7 Div = 1
reg_funct7 Divu = 1
reg_funct7 Rem = 1
reg_funct7 Remu = 1

-- the word `w` means the instruction
abbrev pub Means : ℕ → Instr → Type 0
Means w (Lui rd imm) = (opcode_of w ≡ 0x37) × (rd ≡ rd_of w) × (imm ≡ u_immediate w)
Means w (Auipc rd imm) = (opcode_of w ≡ 0x17) × (rd ≡ rd_of w) × (imm ≡ u_immediate w)
Means w (Jal rd off) = (opcode_of w ≡ 0x6f) × (rd ≡ rd_of w) × (off ≡ j_immediate w)
Means w (Jalr rd rs1 imm) =
    (opcode_of w ≡ 0x67) × (funct3_of w ≡ 0) × (rd ≡ rd_of w) × (rs1 ≡ rs1_of w)
    × (imm ≡ i_immediate w)
Means w (Branch kind rs1 rs2 off) =
    (opcode_of w ≡ 0x63) × (funct3_of w ≡ branch_funct3 kind) × (rs1 ≡ rs1_of w)
    × (rs2 ≡ rs2_of w) × (off ≡ b_immediate w)
Means w (Load kind rd rs1 imm) =
    (opcode_of w ≡ 0x03) × (funct3_of w ≡ load_funct3 kind) × (rd ≡ rd_of w)
    × (rs1 ≡ rs1_of w) × (imm ≡ i_immediate w)
Means w (Store kind rs1 rs2 imm) =
    (opcode_of w ≡ 0x23) × (funct3_of w ≡ store_funct3 kind) × (rs1 ≡ rs1_of w)
    × (rs2 ≡ rs2_of w) × (imm ≡ s_immediate w)
Means w (OpImm kind rd rs1 imm) =
    (opcode_of w ≡ 0x13) × (funct3_of w ≡ imm_funct3 kind) × (rd ≡ rd_of w)
    × (rs1 ≡ rs1_of w) × HasImm w kind imm
Means w (OpReg kind rd rs1 rs2) =
    (opcode_of w ≡ 0x33) × (funct3_of w ≡ reg_funct3 kind)
    × (funct7_of w ≡ reg_funct7 kind) × (rd ≡ rd_of w) × (rs1 ≡ rs1_of w)
    × (rs2 ≡ rs2_of w)
Means w (Fence bits) = (opcode_of w ≡ 0x0f) × (funct3_of w ≡ 0) × (bits ≡ fence_bits_of w)
Means w (FenceI bits) = (opcode_of w ≡ 0x0f) × (funct3_of w ≡ 1) × (bits ≡ fence_bits_of w)
Means w Ecall = w ≡ 0x0000_0073
Means w Ebreak = w ≡ 0x0010_0073

-- no row of the table has the word
abbrev pub MeansNothing : ℕ → Type 0
MeansNothing w = (i : Instr) → Means w i → ⊥

-- ---- fields that a word can hold

-- a signed number from -half to half - 1
abbrev pub IsWithin : ℕ → ℤ → Type 0
IsWithin half (pos n) = n < half
IsWithin half (negsuc n) = n < half

-- a distance from -half to half - 1 in steps of two: the formats B and J have no bit 0
abbrev pub IsEvenWithin : ℕ → ℤ → Type 0
IsEvenWithin half z = IsWithin half z × (cast_unsigned w32 z % 2 ≡ 0)

-- the immediate of an OP-IMM instruction: places below 32, or twelve signed bits
abbrev pub IsImmInRange : ImmKind → ℤ → Type 0
IsImmInRange Slli imm = (pos 0 ≤ℤ imm) × (imm <ℤ pos 32)
IsImmInRange Srli imm = (pos 0 ≤ℤ imm) × (imm <ℤ pos 32)
IsImmInRange Srai imm = (pos 0 ≤ℤ imm) × (imm <ℤ pos 32)
IsImmInRange Addi imm = IsWithin 2048 imm
IsImmInRange Slti imm = IsWithin 2048 imm
IsImmInRange Sltiu imm = IsWithin 2048 imm
IsImmInRange Xori imm = IsWithin 2048 imm
IsImmInRange Ori imm = IsWithin 2048 imm
IsImmInRange Andi imm = IsWithin 2048 imm

-- the bits of a fence leave the opcode and funct3 clear
abbrev pub IsFenceBits : ℕ → Type 0
IsFenceBits bits = (bits < 4294967296) × (bits % 128 ≡ 0) × (funct3_of bits ≡ 0)

-- each field is one that its format has room for
abbrev pub IsInRange : Instr → Type 0
IsInRange (Lui rd imm) = (rd < 32) × (imm < 1048576)
IsInRange (Auipc rd imm) = (rd < 32) × (imm < 1048576)
IsInRange (Jal rd off) = (rd < 32) × IsEvenWithin 1048576 off
IsInRange (Jalr rd rs1 imm) = (rd < 32) × (rs1 < 32) × IsWithin 2048 imm
IsInRange (Branch kind rs1 rs2 off) = (rs1 < 32) × (rs2 < 32) × IsEvenWithin 4096 off
IsInRange (Load kind rd rs1 imm) = (rd < 32) × (rs1 < 32) × IsWithin 2048 imm
IsInRange (Store kind rs1 rs2 imm) = (rs1 < 32) × (rs2 < 32) × IsWithin 2048 imm
IsInRange (OpImm kind rd rs1 imm) = (rd < 32) × (rs1 < 32) × IsImmInRange kind imm
IsInRange (OpReg kind rd rs1 rs2) = (rd < 32) × (rs1 < 32) × (rs2 < 32)
IsInRange (Fence bits) = IsFenceBits bits
IsInRange (FenceI bits) = IsFenceBits bits
IsInRange Ecall = Unit {0}
IsInRange Ebreak = Unit {0}

-- ---- laws

-- two words that mean one instruction are equal
abbrev pub OneWord : Type 0
OneWord =
    (v w : ℕ) (i : Instr) → v < 4294967296 → w < 4294967296 → Means v i → Means w i → v ≡ w

-- a word means at most one instruction
abbrev pub OneInstruction : Type 0
OneInstruction = (w : ℕ) (i j : Instr) → Means w i → Means w j → i ≡ j
