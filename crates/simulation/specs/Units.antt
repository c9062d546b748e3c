-- Which instruction of the flat machine stands for a unit at its home. Where the unit makes a part of an
-- object's address, it makes that of the object's place.
use Rattle.std.specs.Prelude.{◌≡◌, ◌⊎◌, ℕ, ◌+◌, ◌*◌, ◌%◌, ◌<◌, true, Option, Some, None, ℤ}
use Rattle.rv32im.specs.Words.{plus, offset}
use Rattle.rv32im.specs.Memory.{word_at}
use Rattle.rv32im.specs.Table.{Means, IsInRange}
use Rattle.rv32im.specs.declared.instructions.Instr.{Instr}
use Rattle.rv32im.specs.declared.instructions.Instr.TheVariants.{Lui, Auipc, Jalr, Load, Store, OpImm}
use Rattle.rv32im.specs.declared.instructions.ImmKind.TheVariants.{Addi}
use Rattle.flat_machine.specs.Mapping.{can_access}
use Rattle.cell_values.specs.Operations.{low_site}
use Rattle.cell_values.specs.declared.values.Val.{Val}
use Rattle.cell_values.specs.Origins.{Origin, ByLui, ByAuipc}
use Rattle.cell_values.specs.Stands.{Is, Stands}
use Rattle.object_machine.specs.Program.{Program, Target}
use Rattle.object_machine.specs.Step.{Reads}
use Rattle.object_machine.specs.Paired.{finds_named}
use Rattle.simulation.specs.Setups.{Setup}
use Rattle.simulation.specs.Made.{IsMade}

-- a word stands still at an address, and can be fetched there
pub record StandsAt (l : Setup) (r a w : ℕ) : Type 0 where
  pub fetched : can_access l.map a 4 ≡ true
  pub still : (i : ℕ) → i < 4 → l.is_still r (plus a i) ≡ true
  pub word : word_at (l.still r) a ≡ w

-- the immediate `z` completes each upper part that the low site at `u` may find
abbrev pub Completes : Program → Setup → ℕ → ℕ → Target → ℤ → Type 0
Completes p l r u t z =
    (m k : Origin) (x : Val) (w : ℕ) → w < 4294967296 → IsMade p m x → finds_named (p.named u) m x ≡ true
    → Stands p.objects (l.place r) (l.upper r) m x w
    → Stands p.objects (l.place r) (l.upper r) k (low_site p.objects x t.object t.offset) (offset w z)

-- a LUI makes the upper part that an upper site makes by a LUI
abbrev pub MakesUpper : Setup → ℕ → Target → ℕ → Type 0
MakesUpper l r t n = Is (l.upper r ByLui t.object t.offset) (n * 4096 % 4294967296)

-- an AUIPC at `u` makes the one that an upper site makes by this AUIPC, or a LUI does
abbrev pub MakesDistance : Setup → ℕ → ℕ → Target → ℕ → Type 0
MakesDistance l r u t n = Is (l.upper r (ByAuipc u) t.object t.offset) (plus u (n * 4096))

abbrev pub MakesInstead : Setup → ℕ → ℕ → Target → ℕ → Type 0
MakesInstead l r u t n = Is (l.upper r (ByAuipc u) t.object t.offset) (n * 4096 % 4294967296)

-- the instruction `j` stands for the instruction `i` of the unit at `u`, which is a site of `t`
abbrev pub StandsForSite : Program → Setup → ℕ → ℕ → Target → Instr → Instr → Type 0
StandsForSite p l r u t (Lui rd n) j = (z : ℕ) × ((j ≡ Lui rd z) × MakesUpper l r t z)
StandsForSite p l r u t (Auipc rd n) j =
    ((z : ℕ) × ((j ≡ Auipc rd z) × MakesDistance l r u t z)) ⊎ ((z : ℕ) × ((j ≡ Lui rd z) × MakesInstead l r u t z))
StandsForSite p l r u t (OpImm kind rd rs1 imm) j =
    (kind ≡ Addi) × ((z : ℤ) × ((j ≡ OpImm Addi rd rs1 z) × Completes p l r u t z))
StandsForSite p l r u t (Load kind rd rs1 imm) j =
    (z : ℤ) × ((j ≡ Load kind rd rs1 z) × Completes p l r u t z)
StandsForSite p l r u t (Store kind rs1 rs2 imm) j =
    (z : ℤ) × ((j ≡ Store kind rs1 rs2 z) × Completes p l r u t z)
StandsForSite p l r u t i j = j ≡ i

abbrev pub StandsFor : Program → Setup → ℕ → ℕ → Option Target → Instr → Instr → Type 0
StandsFor p l r u None i j = j ≡ i
StandsFor p l r u (Some t) i j = StandsForSite p l r u t i j

-- what stands at the home of a unit of one word: for an instruction one that stands for it, and for a word
-- that means nothing one that means nothing
abbrev pub OneWordAt : Program → Setup → ℕ → ℕ → Option Instr → Type 0
OneWordAt p l r u None = (w : ℕ) × (StandsAt l r u w × Reads w None)
OneWordAt p l r u (Some i) =
    (w : ℕ) × ((j : Instr) × (StandsAt l r u w × (Means w j × (IsInRange i × StandsFor p l r u (p.site u) i j))))

-- what stands at the home of a call of two words: an AUIPC and a JALR that uses what it makes, and writes
-- the same register or x0; together they go where the call goes
pub record PairAt (p : Program) (l : Setup) (r u : ℕ) : Type 0 where
  pub first : ℕ
  pub second : ℕ
  pub base : ℕ
  pub upper : ℕ
  pub link : ℕ
  pub lower : ℤ
  pub stands : StandsAt l r u first
  pub stands_behind : StandsAt l r (u + 4) second
  pub auipc : Means first (Auipc base upper)
  pub jalr : Means second (Jalr link base lower)
  pub word : p.word u ≡ first
  pub word_behind : p.word (u + 4) ≡ second
  pub based : 0 < base
  pub linked : (link ≡ base) ⊎ (link ≡ 0)
  pub goes : offset (plus u (upper * 4096)) lower ≡ p.goes u
  pub even : p.goes u % 2 ≡ 0
  pub below : u + 8 < 4294967296
