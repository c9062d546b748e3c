-- A code for instructions, so that two of them are equal in at most one way.
use Rattle.std.specs.Prelude.{◌≡◌, ℕ, ◌==◌, if◌then◌else◌, ℤ, pos}
use Rattle.std.specs.Coded.{Coded, coded_ℕ, coded_ℤ, coded×, code_by}
use mathlib.Core.Path.{refl, ap}
use Rattle.rv32im.specs.declared.instructions.Instr.{Instr}
use Rattle.rv32im.specs.declared.instructions.Instr.TheVariants.{Lui, Auipc, Jal, Jalr, Branch, Load, Store, OpImm, OpReg, Fence, FenceI, Ecall, Ebreak}
use Rattle.rv32im.specs.declared.instructions.BranchKind.{BranchKind}
use Rattle.rv32im.specs.declared.instructions.BranchKind.TheVariants.{Beq, Bne, Blt, Bge, Bltu, Bgeu}
use Rattle.rv32im.specs.declared.instructions.LoadKind.{LoadKind}
use Rattle.rv32im.specs.declared.instructions.LoadKind.TheVariants.{Lb, Lh, Lw, Lbu, Lhu}
use Rattle.rv32im.specs.declared.instructions.StoreKind.{StoreKind}
use Rattle.rv32im.specs.declared.instructions.StoreKind.TheVariants.{Sb, Sh, Sw}
use Rattle.rv32im.specs.declared.instructions.ImmKind.{ImmKind}
use Rattle.rv32im.specs.declared.instructions.ImmKind.TheVariants.{Addi, Slti, Sltiu, Xori, Ori, Andi, Slli, Srli, Srai}
use Rattle.rv32im.specs.declared.instructions.RegKind.{RegKind}
use Rattle.rv32im.specs.declared.instructions.RegKind.TheVariants.{Add, Sub, Sll, Slt, Sltu, Xor, Srl, Sra, Or, And, Mul, Mulh, Mulhsu, Mulhu, Div, Divu, Rem, Remu}

-- ---- kinds, by their numbers

abbrev branch_number : BranchKind → ℕ
branch_number Beq = 0
branch_number Bne = 1
branch_number Blt = 2
branch_number Bge = 3
branch_number Bltu = 4
branch_number Bgeu = 5

abbrev branch_kind : ℕ → BranchKind
branch_kind n =
    if n == 0 then Beq else (
    if n == 1 then Bne else (
    if n == 2 then Blt else (
    if n == 3 then Bge else (
    if n == 4 then Bltu else (
    Bgeu)))))

branch_back : (kind : BranchKind) → branch_kind (branch_number kind) ≡ kind
branch_back Beq = refl
branch_back Bne = refl
branch_back Blt = refl
branch_back Bge = refl
branch_back Bltu = refl
branch_back Bgeu = refl

abbrev load_number : LoadKind → ℕ
load_number Lb = 0
load_number Lh = 1
load_number Lw = 2
load_number Lbu = 3
load_number Lhu = 4

abbrev load_kind : ℕ → LoadKind
load_kind n =
    if n == 0 then Lb else (
    if n == 1 then Lh else (
    if n == 2 then Lw else (
    if n == 3 then Lbu else (
    Lhu))))

load_back : (kind : LoadKind) → load_kind (load_number kind) ≡ kind
load_back Lb = refl
load_back Lh = refl
load_back Lw = refl
load_back Lbu = refl
load_back Lhu = refl

abbrev store_number : StoreKind → ℕ
store_number Sb = 0
store_number Sh = 1
store_number Sw = 2

abbrev store_kind : ℕ → StoreKind
store_kind n =
    if n == 0 then Sb else (
    if n == 1 then Sh else (
    Sw))

store_back : (kind : StoreKind) → store_kind (store_number kind) ≡ kind
store_back Sb = refl
store_back Sh = refl
store_back Sw = refl

abbrev imm_number : ImmKind → ℕ
imm_number Addi = 0
imm_number Slti = 1
imm_number Sltiu = 2
imm_number Xori = 3
imm_number Ori = 4
imm_number Andi = 5
imm_number Slli = 6
imm_number Srli = 7
imm_number Srai = 8

abbrev imm_kind : ℕ → ImmKind
imm_kind n =
    if n == 0 then Addi else (
    if n == 1 then Slti else (
    if n == 2 then Sltiu else (
    if n == 3 then Xori else (
    if n == 4 then Ori else (
    if n == 5 then Andi else (
    if n == 6 then Slli else (
    if n == 7 then Srli else (
    Srai))))))))

imm_back : (kind : ImmKind) → imm_kind (imm_number kind) ≡ kind
imm_back Addi = refl
imm_back Slti = refl
imm_back Sltiu = refl
imm_back Xori = refl
imm_back Ori = refl
imm_back Andi = refl
imm_back Slli = refl
imm_back Srli = refl
imm_back Srai = refl

abbrev reg_number : RegKind → ℕ
reg_number Add = 0
reg_number Sub = 1
reg_number Sll = 2
reg_number Slt = 3
reg_number Sltu = 4
reg_number Xor = 5
reg_number Srl = 6
reg_number Sra = 7
reg_number Or = 8
reg_number And = 9
reg_number Mul = 10
reg_number Mulh = 11
reg_number Mulhsu = 12
reg_number Mulhu = 13
reg_number Div = 14
reg_number Divu = 15
reg_number Rem = 16
reg_number Remu = 17

abbrev reg_kind : ℕ → RegKind
reg_kind n =
    if n == 0 then Add else (
    if n == 1 then Sub else (
    if n == 2 then Sll else (
    if n == 3 then Slt else (
    if n == 4 then Sltu else (
    if n == 5 then Xor else (
    if n == 6 then Srl else (
    if n == 7 then Sra else (
    if n == 8 then Or else (
    if n == 9 then And else (
    if n == 10 then Mul else (
    if n == 11 then Mulh else (
    if n == 12 then Mulhsu else (
    if n == 13 then Mulhu else (
    if n == 14 then Div else (
    if n == 15 then Divu else (
    if n == 16 then Rem else (
    Remu)))))))))))))))))

reg_back : (kind : RegKind) → reg_kind (reg_number kind) ≡ kind
reg_back Add = refl
reg_back Sub = refl
reg_back Sll = refl
reg_back Slt = refl
reg_back Sltu = refl
reg_back Xor = refl
reg_back Srl = refl
reg_back Sra = refl
reg_back Or = refl
reg_back And = refl
reg_back Mul = refl
reg_back Mulh = refl
reg_back Mulhsu = refl
reg_back Mulhu = refl
reg_back Div = refl
reg_back Divu = refl
reg_back Rem = refl
reg_back Remu = refl

-- ---- instructions, by the number of their form, that of their kind, and their fields

abbrev Fields : Type 0
Fields = ℕ × (ℕ × (ℕ × (ℕ × (ℕ × ℤ))))

abbrev fields : Instr → Fields
fields (Lui rd imm) = (0, (0, (rd, (imm, (0, pos 0)))))
fields (Auipc rd imm) = (1, (0, (rd, (imm, (0, pos 0)))))
fields (Jal rd off) = (2, (0, (rd, (0, (0, off)))))
fields (Jalr rd rs1 imm) = (3, (0, (rd, (rs1, (0, imm)))))
fields (Branch kind rs1 rs2 off) = (4, (branch_number kind, (rs1, (rs2, (0, off)))))
fields (Load kind rd rs1 imm) = (5, (load_number kind, (rd, (rs1, (0, imm)))))
fields (Store kind rs1 rs2 imm) = (6, (store_number kind, (rs1, (rs2, (0, imm)))))
fields (OpImm kind rd rs1 imm) = (7, (imm_number kind, (rd, (rs1, (0, imm)))))
fields (OpReg kind rd rs1 rs2) = (8, (reg_number kind, (rd, (rs1, (rs2, pos 0)))))
fields (Fence bits) = (9, (0, (bits, (0, (0, pos 0)))))
fields (FenceI bits) = (10, (0, (bits, (0, (0, pos 0)))))
fields Ecall = (11, (0, (0, (0, (0, pos 0)))))
fields Ebreak = (12, (0, (0, (0, (0, pos 0)))))

abbrev instr : Fields → Instr
instr f =
    if f.0 == 0 then Lui f.1.1.0 f.1.1.1.0 else (
    if f.0 == 1 then Auipc f.1.1.0 f.1.1.1.0 else (
    if f.0 == 2 then Jal f.1.1.0 f.1.1.1.1.1 else (
    if f.0 == 3 then Jalr f.1.1.0 f.1.1.1.0 f.1.1.1.1.1 else (
    if f.0 == 4 then Branch (branch_kind f.1.0) f.1.1.0 f.1.1.1.0 f.1.1.1.1.1 else (
    if f.0 == 5 then Load (load_kind f.1.0) f.1.1.0 f.1.1.1.0 f.1.1.1.1.1 else (
    if f.0 == 6 then Store (store_kind f.1.0) f.1.1.0 f.1.1.1.0 f.1.1.1.1.1 else (
    if f.0 == 7 then OpImm (imm_kind f.1.0) f.1.1.0 f.1.1.1.0 f.1.1.1.1.1 else (
    if f.0 == 8 then OpReg (reg_kind f.1.0) f.1.1.0 f.1.1.1.0 f.1.1.1.1.0 else (
    if f.0 == 9 then Fence f.1.1.0 else (
    if f.0 == 10 then FenceI f.1.1.0 else (
    if f.0 == 11 then Ecall else (
    Ebreak))))))))))))

fields_back : (i : Instr) → instr (fields i) ≡ i
fields_back (Lui rd imm) = refl
fields_back (Auipc rd imm) = refl
fields_back (Jal rd off) = refl
fields_back (Jalr rd rs1 imm) = refl
fields_back (Branch kind rs1 rs2 off) = ap (λ k. Branch k rs1 rs2 off) (branch_back kind)
fields_back (Load kind rd rs1 imm) = ap (λ k. Load k rd rs1 imm) (load_back kind)
fields_back (Store kind rs1 rs2 imm) = ap (λ k. Store k rs1 rs2 imm) (store_back kind)
fields_back (OpImm kind rd rs1 imm) = ap (λ k. OpImm k rd rs1 imm) (imm_back kind)
fields_back (OpReg kind rd rs1 rs2) = ap (λ k. OpReg k rd rs1 rs2) (reg_back kind)
fields_back (Fence bits) = refl
fields_back (FenceI bits) = refl
fields_back Ecall = refl
fields_back Ebreak = refl

pub coded_instr : Coded Instr
coded_instr = code_by Fields (coded× coded_ℕ (coded× coded_ℕ (coded× coded_ℕ (coded× coded_ℕ (coded× coded_ℕ coded_ℤ))))) fields instr fields_back
