-- What one instruction does to the registers, the memory and the program counter of a hart
-- (RISC-V Unprivileged ISA, "RV32I Base Integer Instruction Set" and "\"M\" Extension for Integer
-- Multiplication and Division"). Nothing here says which addresses are mapped.
use Rattle.std.specs.Prelude.{◌≡◌, ℕ, ◌*◌, ◌/◌, ◌%◌, ◌^◌, ◌<◌, ◌==◌, Bool, true, false, not, ◌&&◌, nat_lt, if◌then◌else◌, bit_and, bit_or, bit_xor, List, [], ◌∷◌, filter, Contains, Option, Some, None, ℤ, pos, ◌*ℤ◌, int_lt, int_div, int_rem}
use Rattle.std.specs.Int.{cast_unsigned, cast_signed, int_shr, w32}
use Rattle.rv32im.specs.Words.{plus, minus, offset, sign_extended}
use Rattle.rv32im.specs.Memory.{Memory, put, half_at, word_at, put_byte, put_half, put_word}
use Rattle.rv32im.specs.Table.{IsInRange}
use Rattle.rv32im.specs.declared.instructions.Instr.{Instr}
use Rattle.rv32im.specs.declared.instructions.Instr.TheVariants.{Lui, Auipc, Jal, Jalr, Branch, Load, Store, OpImm, OpReg, Fence, FenceI, Ecall, Ebreak}
use Rattle.rv32im.specs.declared.instructions.BranchKind.{BranchKind}
use Rattle.rv32im.specs.declared.instructions.BranchKind.TheVariants.{Beq, Bne, Blt, Bge, Bltu, Bgeu}
use Rattle.rv32im.specs.declared.instructions.LoadKind.{LoadKind}
use Rattle.rv32im.specs.declared.instructions.LoadKind.TheVariants.{Lb, Lh, Lw, Lbu, Lhu}
use Rattle.rv32im.specs.declared.instructions.StoreKind.{StoreKind}
use Rattle.rv32im.specs.declared.instructions.StoreKind.TheVariants.{Sb, Sh, Sw}
use Rattle.rv32im.specs.declared.instructions.ImmKind.{ImmKind}
use Rattle.rv32im.specs.declared.instructions.ImmKind.TheVariants.{Addi, Slti, Sltiu, Xori, Ori, Andi, Slli, Srli, Srai}
use Rattle.rv32im.specs.declared.instructions.RegKind.{RegKind}
use Rattle.rv32im.specs.declared.instructions.RegKind.TheVariants.{Add, Sub, Sll, Slt, Sltu, Xor, Srl, Sra, Or, And, Mul, Mulh, Mulhsu, Mulhu, Div, Divu, Rem, Remu}

-- ---- values ("Integer Computational Instructions")

-- a test as the word 1 or 0
abbrev pub flag : Bool → ℕ
flag test = if test then 1 else 0

-- a word shifted by `k` places to the left, to the right, and to the right with its sign
abbrev pub shifted_left : ℕ → ℕ → ℕ
shifted_left a k = a * 2 ^ k % 4294967296

abbrev pub shifted_right : ℕ → ℕ → ℕ
shifted_right a k = a / 2 ^ k

abbrev pub shifted_right_signed : ℕ → ℕ → ℕ
shifted_right_signed a k = cast_unsigned w32 (int_shr (cast_signed w32 a) k)

-- the upper 32 bits of a signed product: its quotient by 2 ^ 32, rounded down
abbrev pub upper_word : ℤ → ℕ
upper_word product = cast_unsigned w32 (int_shr product 32)

-- the only signed quotient that overflows: -2 ^ 31 by -1
abbrev pub overflows : ℕ → ℕ → Bool
overflows a b = (a == 2147483648) && (b == 4294967295)

-- DIV and REM round towards zero; division by zero gives all ones and leaves the dividend
-- ("Division Operations", table of division by zero and overflow)
abbrev pub quotient : ℕ → ℕ → ℕ
quotient a b =
    if b == 0 then 4294967295
    else (if overflows a b then 2147483648
    else cast_unsigned w32 (int_div (cast_signed w32 a) (cast_signed w32 b)))

abbrev pub remainder : ℕ → ℕ → ℕ
remainder a b =
    if b == 0 then a
    else (if overflows a b then 0
    else cast_unsigned w32 (int_rem (cast_signed w32 a) (cast_signed w32 b)))

-- what OP-IMM leaves of a word and an immediate
abbrev pub imm_value : ImmKind → ℕ → ℤ → ℕ
imm_value Addi a imm = offset a imm
imm_value Slti a imm = flag (int_lt (cast_signed w32 a) imm)
imm_value Sltiu a imm = flag (nat_lt a (cast_unsigned w32 imm))
imm_value Xori a imm = bit_xor a (cast_unsigned w32 imm)
imm_value Ori a imm = bit_or a (cast_unsigned w32 imm)
imm_value Andi a imm = bit_and a (cast_unsigned w32 imm)
imm_value Slli a imm = shifted_left a (cast_unsigned w32 imm % 32)
imm_value Srli a imm = shifted_right a (cast_unsigned w32 imm % 32)
imm_value Srai a imm = shifted_right_signed a (cast_unsigned w32 imm % 32)

-- what OP leaves of two words
abbrev pub reg_value : RegKind → ℕ → ℕ → ℕ
reg_value Add a b = plus a b
reg_value Sub a b = minus a b
reg_value Sll a b = shifted_left a (b % 32)
reg_value Slt a b = flag (int_lt (cast_signed w32 a) (cast_signed w32 b))
reg_value Sltu a b = flag (nat_lt a b)
reg_value Xor a b = bit_xor a b
reg_value Srl a b = shifted_right a (b % 32)
reg_value Sra a b = shifted_right_signed a (b % 32)
reg_value Or a b = bit_or a b
reg_value And a b = bit_and a b
reg_value Mul a b = a * b % 4294967296
reg_value Mulh a b = upper_word (cast_signed w32 a *ℤ cast_signed w32 b)
reg_value Mulhsu a b = upper_word (cast_signed w32 a *ℤ pos b)
reg_value Mulhu a b = a * b / 4294967296
reg_value Div a b = quotient a b
reg_value Divu a b = if b == 0 then 4294967295 else a / b
reg_value Rem a b = remainder a b
reg_value Remu a b = if b == 0 then a else a % b

-- whether a branch is taken ("Conditional Branches")
abbrev pub is_taken : BranchKind → ℕ → ℕ → Bool
is_taken Beq a b = a == b
is_taken Bne a b = not (a == b)
is_taken Blt a b = int_lt (cast_signed w32 a) (cast_signed w32 b)
is_taken Bge a b = not (int_lt (cast_signed w32 a) (cast_signed w32 b))
is_taken Bltu a b = nat_lt a b
is_taken Bgeu a b = not (nat_lt a b)

-- ---- memory ("Load and Store Instructions")

-- the word that a load takes from an address
abbrev pub loaded : LoadKind → Memory → ℕ → ℕ
loaded Lb mem at = sign_extended (mem at) 8
loaded Lh mem at = sign_extended (half_at mem at) 16
loaded Lw mem at = word_at mem at
loaded Lbu mem at = mem at
loaded Lhu mem at = half_at mem at

-- the memory after a store of `value` at an address
abbrev pub stored : StoreKind → Memory → ℕ → ℕ → Memory
stored Sb mem at value = put_byte mem at value
stored Sh mem at value = put_half mem at value
stored Sw mem at value = put_word mem at value

-- how many bytes they touch
abbrev pub load_width : LoadKind → ℕ
load_width Lb = 1
load_width Lh = 2
load_width Lw = 4
load_width Lbu = 1
load_width Lhu = 2

abbrev pub store_width : StoreKind → ℕ
store_width Sb = 1
store_width Sh = 2
store_width Sw = 4

-- ---- registers ("Programmers' Model for Base Integer ISA")

-- the word in each register
abbrev pub Registers : Type 0
Registers = ℕ → ℕ

-- x0 reads 0
abbrev pub register : Registers → ℕ → ℕ
register regs k = if k == 0 then 0 else regs k

-- writes to x0 are dropped
abbrev pub with_register : Registers → ℕ → ℕ → Registers
with_register regs rd value = if rd == 0 then regs else put regs rd value

-- ---- instructions

-- one hardware thread and its memory
pub record Hart : Type 0 where
  pub pc : ℕ
  pub regs : Registers
  pub mem : Memory

-- the hart at the next word
abbrev pub at_next : Hart → Hart
at_next h = record { pc = plus h.pc 4; regs = h.regs; mem = h.mem }

-- the hart at the next word, with a value in a register
abbrev pub after_write : Hart → ℕ → ℕ → Hart
after_write h rd value =
    record { pc = plus h.pc 4; regs = with_register h.regs rd value; mem = h.mem }

-- the hart at another word, with the return address in a register
abbrev pub after_jump : Hart → ℕ → ℕ → Hart
after_jump h rd target =
    record { pc = target; regs = with_register h.regs rd (plus h.pc 4); mem = h.mem }

-- the effect of one instruction. ECALL, EBREAK and the fences only go to the next word:
-- what the environment does at ECALL and EBREAK is the machine's to say.
abbrev pub acts : Instr → Hart → Hart
acts (Lui rd imm) h = after_write h rd (imm * 4096 % 4294967296)
acts (Auipc rd imm) h = after_write h rd (plus h.pc (imm * 4096))
acts (Jal rd off) h = after_jump h rd (offset h.pc off)
acts (Jalr rd rs1 imm) h = after_jump h rd (offset (register h.regs rs1) imm / 2 * 2)
acts (Branch kind rs1 rs2 off) h =
    record {
      pc =
          if is_taken kind (register h.regs rs1) (register h.regs rs2) then offset h.pc off
          else plus h.pc 4;
      regs = h.regs;
      mem = h.mem;
    }
acts (Load kind rd rs1 imm) h =
    after_write h rd (loaded kind h.mem (offset (register h.regs rs1) imm))
acts (Store kind rs1 rs2 imm) h =
    record {
      pc = plus h.pc 4;
      regs = h.regs;
      mem = stored kind h.mem (offset (register h.regs rs1) imm) (register h.regs rs2);
    }
acts (OpImm kind rd rs1 imm) h = after_write h rd (imm_value kind (register h.regs rs1) imm)
acts (OpReg kind rd rs1 rs2) h =
    after_write h rd (reg_value kind (register h.regs rs1) (register h.regs rs2))
acts (Fence bits) h = at_next h
acts (FenceI bits) h = at_next h
acts Ecall h = at_next h
acts Ebreak h = at_next h

-- the bytes that a load or a store touches
pub record Access : Type 0 where
  pub at : ℕ
  pub width : ℕ
  pub write : Bool

abbrev pub access_of : Instr → Registers → Option Access
access_of (Load kind rd rs1 imm) regs =
    Some (record { at = offset (register regs rs1) imm; width = load_width kind; write = false })
access_of (Store kind rs1 rs2 imm) regs =
    Some (record { at = offset (register regs rs1) imm; width = store_width kind; write = true })
access_of (Lui rd imm) regs = None
access_of (Auipc rd imm) regs = None
access_of (Jal rd off) regs = None
access_of (Jalr rd rs1 imm) regs = None
access_of (Branch kind rs1 rs2 off) regs = None
access_of (OpImm kind rd rs1 imm) regs = None
access_of (OpReg kind rd rs1 rs2) regs = None
access_of (Fence bits) regs = None
access_of (FenceI bits) regs = None
access_of Ecall regs = None
access_of Ebreak regs = None

-- the registers among these that hold what is written to them: all but x0
abbrev pub without_zero : List ℕ → List ℕ
without_zero ks = filter (λ k. not (k == 0)) ks

-- the registers that an instruction reads. ECALL reads the arguments a0 to a2 and the call's
-- number in a7 (RISC-V psABI, "Integer Register Convention").
abbrev pub used : Instr → List ℕ
used (Lui rd imm) = []
used (Auipc rd imm) = []
used (Jal rd off) = []
used (Jalr rd rs1 imm) = without_zero (rs1 ∷ [])
used (Branch kind rs1 rs2 off) = without_zero (rs1 ∷ rs2 ∷ [])
used (Load kind rd rs1 imm) = without_zero (rs1 ∷ [])
used (Store kind rs1 rs2 imm) = without_zero (rs1 ∷ rs2 ∷ [])
used (OpImm kind rd rs1 imm) = without_zero (rs1 ∷ [])
used (OpReg kind rd rs1 rs2) = without_zero (rs1 ∷ rs2 ∷ [])
used (Fence bits) = []
used (FenceI bits) = []
used Ecall = 10 ∷ 11 ∷ 12 ∷ 17 ∷ []
used Ebreak = []

-- the registers that an instruction writes; ECALL answers in a0
abbrev pub defined : Instr → List ℕ
defined (Lui rd imm) = without_zero (rd ∷ [])
defined (Auipc rd imm) = without_zero (rd ∷ [])
defined (Jal rd off) = without_zero (rd ∷ [])
defined (Jalr rd rs1 imm) = without_zero (rd ∷ [])
defined (Branch kind rs1 rs2 off) = []
defined (Load kind rd rs1 imm) = without_zero (rd ∷ [])
defined (Store kind rs1 rs2 imm) = []
defined (OpImm kind rd rs1 imm) = without_zero (rd ∷ [])
defined (OpReg kind rd rs1 rs2) = without_zero (rd ∷ [])
defined (Fence bits) = []
defined (FenceI bits) = []
defined Ecall = 10 ∷ []
defined Ebreak = []

-- ---- laws

-- two harts have the same program counter, the same memory and the same words in some registers
abbrev pub AgreeOn : List ℕ → Hart → Hart → Type 0
AgreeOn ks g h =
    (g.pc ≡ h.pc) × (g.mem ≡ h.mem) × ((k : ℕ) → Contains ks k → g.regs k ≡ h.regs k)

-- harts that agree on the registers that an instruction reads agree, after it, on those that
-- it writes
abbrev pub ActsUsesOnly : Type 0
ActsUsesOnly =
    (i : Instr) (g h : Hart) → AgreeOn (used i) g h → AgreeOn (defined i) (acts i g) (acts i h)

-- an instruction leaves each register that it doesn't write
abbrev pub ActsDefinesOnly : Type 0
ActsDefinesOnly =
    (i : Instr) (h : Hart) (k : ℕ) → (Contains (defined i) k → ⊥) → (acts i h).regs k ≡ h.regs k

-- the program counter and the registers hold words, and the memory holds bytes
pub record HoldsWords (h : Hart) : Type 0 where
  pub pc : h.pc < 4294967296
  pub regs : (k : ℕ) → h.regs k < 4294967296
  pub mem : (a : ℕ) → h.mem a < 256

-- an instruction leaves words and bytes
abbrev pub ActsKeepsWords : Type 0
ActsKeepsWords = (i : Instr) (h : Hart) → IsInRange i → HoldsWords h → HoldsWords (acts i h)
