-- The names of units.
use Rattle.std.specs.Prelude.{◌≡◌, ℕ, ◌+◌, ◌<◌, Bool, true, false, ◌||◌, List, length, slice_index_or, is_some, Option, Some, None}
use Rattle.std.specs.Int.{cast_signed, w32}
use Rattle.std.specs.Coded.{Unit-prop, Coded-set, coded_bool, coded_ℕ, coded_option, le_prop}
use Rattle.rv32im.specs.declared.instructions.Instr.{Instr}
use Rattle.rv32im.specs.declared.instructions.Instr.TheVariants as instr
use Rattle.rv32im.specs.declared.instructions.BranchKind.TheVariants as branch
use Rattle.rv32im.specs.declared.instructions.LoadKind.TheVariants as load
use Rattle.rv32im.specs.declared.instructions.StoreKind.TheVariants as store
use Rattle.rv32im.specs.declared.instructions.ImmKind.TheVariants as imm_kind
use Rattle.rv32im.specs.declared.instructions.RegKind.TheVariants as reg_kind
use Rattle.code_blocks.specs.Early.{has}
use Rattle.object_machine.specs.declared.op.Op.{Op}
use Rattle.object_machine.specs.declared.op.Op.TheVariants.{Lui, Jal, Jalr, Beq, Bne, Blt, Bge, Bltu, Bgeu, Lb, Lh, Lw, Lbu, Lhu, Sb, Sh, Sw, Addi, Andi, Slli, Srli, OpImm, Add, Sub, Xor, Or, And, Mul, OpReg, Other}
use Rattle.object_machine.specs.declared.units.Prepared.{Prepared}
use Rattle.object_machine.specs.Units.{unit_in, IsUnitAt, leads_on}
use Rattle.object_machine.specs.InstrCode.{coded_instr}

-- the instruction that a name stands for
abbrev pub instr_of : Op → Option Instr
instr_of (Lui rd imm) = Some (instr.Lui rd imm)
instr_of (Jal rd n) = Some (instr.Jal rd (cast_signed w32 n))
instr_of (Jalr rd rs1 n) = Some (instr.Jalr rd rs1 (cast_signed w32 n))
instr_of (Beq rs1 rs2 n) = Some (instr.Branch branch.Beq rs1 rs2 (cast_signed w32 n))
instr_of (Bne rs1 rs2 n) = Some (instr.Branch branch.Bne rs1 rs2 (cast_signed w32 n))
instr_of (Blt rs1 rs2 n) = Some (instr.Branch branch.Blt rs1 rs2 (cast_signed w32 n))
instr_of (Bge rs1 rs2 n) = Some (instr.Branch branch.Bge rs1 rs2 (cast_signed w32 n))
instr_of (Bltu rs1 rs2 n) = Some (instr.Branch branch.Bltu rs1 rs2 (cast_signed w32 n))
instr_of (Bgeu rs1 rs2 n) = Some (instr.Branch branch.Bgeu rs1 rs2 (cast_signed w32 n))
instr_of (Lb rd rs1 n) = Some (instr.Load load.Lb rd rs1 (cast_signed w32 n))
instr_of (Lh rd rs1 n) = Some (instr.Load load.Lh rd rs1 (cast_signed w32 n))
instr_of (Lw rd rs1 n) = Some (instr.Load load.Lw rd rs1 (cast_signed w32 n))
instr_of (Lbu rd rs1 n) = Some (instr.Load load.Lbu rd rs1 (cast_signed w32 n))
instr_of (Lhu rd rs1 n) = Some (instr.Load load.Lhu rd rs1 (cast_signed w32 n))
instr_of (Sb rs1 rs2 n) = Some (instr.Store store.Sb rs1 rs2 (cast_signed w32 n))
instr_of (Sh rs1 rs2 n) = Some (instr.Store store.Sh rs1 rs2 (cast_signed w32 n))
instr_of (Sw rs1 rs2 n) = Some (instr.Store store.Sw rs1 rs2 (cast_signed w32 n))
instr_of (Addi rd rs1 n) = Some (instr.OpImm imm_kind.Addi rd rs1 (cast_signed w32 n))
instr_of (Andi rd rs1 n) = Some (instr.OpImm imm_kind.Andi rd rs1 (cast_signed w32 n))
instr_of (Slli rd rs1 n) = Some (instr.OpImm imm_kind.Slli rd rs1 (cast_signed w32 n))
instr_of (Srli rd rs1 n) = Some (instr.OpImm imm_kind.Srli rd rs1 (cast_signed w32 n))
instr_of (OpImm kind rd rs1 n) = Some (instr.OpImm kind rd rs1 (cast_signed w32 n))
instr_of (Add rd rs1 rs2) = Some (instr.OpReg reg_kind.Add rd rs1 rs2)
instr_of (Sub rd rs1 rs2) = Some (instr.OpReg reg_kind.Sub rd rs1 rs2)
instr_of (Xor rd rs1 rs2) = Some (instr.OpReg reg_kind.Xor rd rs1 rs2)
instr_of (Or rd rs1 rs2) = Some (instr.OpReg reg_kind.Or rd rs1 rs2)
instr_of (And rd rs1 rs2) = Some (instr.OpReg reg_kind.And rd rs1 rs2)
instr_of (Mul rd rs1 rs2) = Some (instr.OpReg reg_kind.Mul rd rs1 rs2)
instr_of (OpReg kind rd rs1 rs2) = Some (instr.OpReg kind rd rs1 rs2)
instr_of Other = None

-- unit `k` is no site, and the next one is of its block or begins another
pub record IsStraight (units : List Prepared) (starts : List ℕ) (k : ℕ) : Type 0 where
  pub site : is_some (unit_in units k).site ≡ false
  pub falls : ((unit_in units k).goes_on || has starts ((unit_in units k).at + 4)) ≡ true
  pub next : IsUnitAt units (k + 1) ((unit_in units k).at + 4)

-- and the next one begins a block
pub record IsLast (units : List Prepared) (starts : List ℕ) (k : ℕ) : Type 0 where
  pub straight : IsStraight units starts k
  pub behind : has starts ((unit_in units k).at + 4) ≡ true

abbrev pub is_branch : Instr → Bool
is_branch (instr.Branch kind rs1 rs2 off) = true
is_branch (instr.Lui rd imm) = false
is_branch (instr.Auipc rd imm) = false
is_branch (instr.Jal rd off) = false
is_branch (instr.Jalr rd rs1 imm) = false
is_branch (instr.Load kind rd rs1 imm) = false
is_branch (instr.Store kind rs1 rs2 imm) = false
is_branch (instr.OpImm kind rd rs1 imm) = false
is_branch (instr.OpReg kind rd rs1 rs2) = false
is_branch (instr.Fence bits) = false
is_branch (instr.FenceI bits) = false
is_branch instr.Ecall = false
is_branch instr.Ebreak = false

-- it is this instruction alone; one of those that lead to the next word is straight, and a branch is the last of its block
pub record IsNamed (units : List Prepared) (starts : List ℕ) (k : ℕ) (i : Instr) : Type 0 where
  pub instr : (unit_in units k).instr ≡ Some i
  pub pair : is_some (unit_in units k).pair ≡ false
  pub straight : leads_on i ≡ true → IsStraight units starts k
  pub last : is_branch i ≡ true → IsLast units starts k

abbrev pub NamedBy : List Prepared → List ℕ → ℕ → Option Instr → Type 0
NamedBy units starts k None = Unit {0}
NamedBy units starts k (Some i) = IsNamed units starts k i

straight_prop : (units : List Prepared) (starts : List ℕ) (k : ℕ) → IsProp (IsStraight units starts k)
straight_prop units starts k = λ a b z. record {
  site = Coded-set coded_bool _ _ a.site b.site z;
  falls = Coded-set coded_bool _ _ a.falls b.falls z;
  next = (le_prop a.next.0 b.next.0 z, Coded-set coded_ℕ _ _ a.next.1 b.next.1 z);
}

last_prop : (units : List Prepared) (starts : List ℕ) (k : ℕ) → IsProp (IsLast units starts k)
last_prop units starts k = λ a b z. record {
  straight = straight_prop units starts k a.straight b.straight z;
  behind = Coded-set coded_bool _ _ a.behind b.behind z;
}

named_prop : (units : List Prepared) (starts : List ℕ) (k : ℕ) (o : Option Instr) → IsProp (NamedBy units starts k o)
named_prop units starts k None = Unit-prop
named_prop units starts k (Some i) = λ a b z. record {
  instr = Coded-set (coded_option coded_instr) _ _ a.instr b.instr z;
  pair = Coded-set coded_bool _ _ a.pair b.pair z;
  straight = λ leads. straight_prop units starts k (a.straight leads) (b.straight leads) z;
  last = λ branches. last_prop units starts k (a.last branches) (b.last branches) z;
}

-- each unit has its name, of the first ones or of all
abbrev pub op_in : List Op → ℕ → Op
op_in ops k = slice_index_or ops k Other

pub record AreNamed (units : List Prepared) (starts : List ℕ) (n : ℕ) (ops : List Op) : Type 0 where
  pub count : length ops ≡ n
  pub each : (k : ℕ) → k < n → NamedBy units starts k (instr_of (op_in ops k))

unfoldable pub AreOps : List Prepared → List ℕ → List Op → Type 0
AreOps units starts ops = (k : ℕ) → k < length units → (k < length ops) × NamedBy units starts k (instr_of (op_in ops k))

pub AreOps-prop : (units : List Prepared) (starts : List ℕ) (ops : List Op) → IsProp (AreOps units starts ops)
unfolding AreOps
AreOps-prop units starts ops = λ a b z k below. (le_prop (a k below).0 (b k below).0 z, named_prop units starts k (instr_of (op_in ops k)) (a k below).1 (b k below).1 z)
