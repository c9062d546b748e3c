-- The forms in which a unit may stand elsewhere than at its home: the words of one unit at another address, or a row
-- of several words that does what the unit does. `live` are the registers that matter at a unit, and `arrive` the
-- addresses where the flat machine may come to one.
use Rattle.std.specs.Prelude.{◌≡◌, ◌⊎◌, ℕ, ◌+◌, ◌*◌, ◌<◌, ◌≤◌, true, false, List, [], ◌∷◌, length, map, Option, Some, None, ℤ}
use Rattle.rv32im.specs.Words.{plus, offset}
use Rattle.rv32im.specs.Acts.{Hart, Registers, register, acts}
use Rattle.rv32im.specs.Fields.{rd_of}
use Rattle.rv32im.specs.Table.{Means, IsInRange}
use Rattle.rv32im.specs.declared.instructions.Instr.{Instr}
use Rattle.rv32im.specs.declared.instructions.Instr.TheVariants.{Lui, Auipc, Jal, Jalr, Branch, Load, Store, OpImm, Ebreak}
use Rattle.flat_machine.specs.declared.events.FlatEvent.{FlatEvent}
use Rattle.flat_machine.specs.declared.events.FlatOutcome as flat
use Rattle.flat_machine.specs.Lines.{Ran, fetch_of}
use Rattle.flat_machine.specs.Sizes.{HasWords}
use Rattle.flat_machine.specs.State.{State}
use Rattle.flat_machine.specs.Step.{Step}
use Rattle.cell_values.specs.Origins.{ByAuipc}
use Rattle.cell_values.specs.Stands.{Is}
use Rattle.object_machine.specs.Program.{Program, Target}
use Rattle.object_machine.specs.Step.{Reads}
use Rattle.simulation.specs.Setups.{Setup}
use Rattle.simulation.specs.Units.{StandsAt, MakesInstead, StandsForSite, PairAt}

-- ---- where the flat machine is

-- it goes on at an address, and what stands still is in its memory
pub record IsAt (l : Setup) (r a : ℕ) (t : State) : Type 0 where
  pub at : t.hart.pc ≡ a
  pub map : t.map ≡ l.map
  pub going : t.outcome ≡ flat.TheVariants.GoesOn
  pub words : HasWords t
  pub still : (b : ℕ) → l.is_still r b ≡ true → t.hart.mem b ≡ l.still r b

-- ---- one word for one word

-- where control may go to a block, the flat machine may arrive at it there
abbrev pub BlockAt : Program → (ℕ → ℕ → Type 0) → ℕ → ℕ → Type 0
BlockAt p arrive v c = p.is_block v ≡ true → arrive v c

-- a jump by a register goes to home addresses
abbrev pub ReachedAt : Program → (ℕ → ℕ → Type 0) → Type 0
ReachedAt p arrive = (v : ℕ) → p.is_reached v ≡ true → arrive v v

-- a word that links stands at home, since the way back is the home of what follows
abbrev pub LinksAt : ℕ → ℕ → ℕ → Type 0
LinksAt u a rd = (rd ≡ 0) ⊎ (a ≡ u)

-- the instruction `j` at `a` does what `i` does at `u`, and leads where the flat machine may arrive
abbrev pub ActsFor : Program → (ℕ → ℕ → Type 0) → ℕ → ℕ → Instr → Instr → Type 0
ActsFor p arrive u a (Auipc rd n) j = (j ≡ Auipc rd n) × (a ≡ u)
ActsFor p arrive u a (Jal rd off) j =
    (z : ℤ) × ((j ≡ Jal rd z) × (LinksAt u a rd × BlockAt p arrive (offset u off) (offset a z)))
ActsFor p arrive u a (Jalr rd rs1 imm) j = (j ≡ Jalr rd rs1 imm) × (LinksAt u a rd × ReachedAt p arrive)
ActsFor p arrive u a (Branch kind rs1 rs2 off) j =
    (z : ℤ) × ((j ≡ Branch kind rs1 rs2 z)
    × (BlockAt p arrive (offset u off) (offset a z) × BlockAt p arrive (u + 4) (plus a 4)))
ActsFor p arrive u a i j = j ≡ i

-- an AUIPC at `a` makes the upper part that an upper site at `u` makes by the AUIPC there
abbrev pub MakesDistanceFrom : Setup → ℕ → ℕ → ℕ → Target → ℕ → Type 0
MakesDistanceFrom l r u a t n = Is (l.upper r (ByAuipc u) t.object t.offset) (plus a (n * 4096))

-- so does one at a site; what makes a part of an address makes that of the object's place
abbrev pub ActsAs : Program → Setup → (ℕ → ℕ → Type 0) → ℕ → ℕ → ℕ → Option Target → Instr → Instr → Type 0
ActsAs p l arrive r u a None i j = ActsFor p arrive u a i j
ActsAs p l arrive r u a (Some t) (Auipc rd n) j =
    ((z : ℕ) × ((j ≡ Auipc rd z) × MakesDistanceFrom l r u a t z)) ⊎ ((z : ℕ) × ((j ≡ Lui rd z) × MakesInstead l r u t z))
ActsAs p l arrive r u a (Some t) (Lui rd n) j = StandsForSite p l r u t (Lui rd n) j
ActsAs p l arrive r u a (Some t) (OpImm kind rd rs1 imm) j = StandsForSite p l r u t (OpImm kind rd rs1 imm) j
ActsAs p l arrive r u a (Some t) (Load kind rd rs1 imm) j = StandsForSite p l r u t (Load kind rd rs1 imm) j
ActsAs p l arrive r u a (Some t) (Store kind rs1 rs2 imm) j = StandsForSite p l r u t (Store kind rs1 rs2 imm) j
ActsAs p l arrive r u a (Some t) i j = ActsFor p arrive u a i j

-- what stands at `a` for the unit of one word at `u`: for an instruction one that does the same, and for a word that
-- means nothing one that means nothing
abbrev pub OneWordFor : Program → Setup → (ℕ → ℕ → Type 0) → ℕ → ℕ → ℕ → Option Instr → Type 0
OneWordFor p l arrive r u a None = (w : ℕ) × (StandsAt l r a w × Reads w None)
OneWordFor p l arrive r u a (Some i) =
    (w : ℕ) × ((j : Instr) × (StandsAt l r a w × (Means w j × (IsInRange i × ActsAs p l arrive r u a (p.site u) i j))))

-- a call of two words stands at home alone, and goes home
abbrev pub PairFor : Program → Setup → (ℕ → ℕ → Type 0) → ℕ → ℕ → ℕ → Type 0
PairFor p l arrive r u a = PairAt p l r u × ((a ≡ u) × BlockAt p arrive (p.goes u) (p.goes u))

-- a machine that goes on behind the instruction is at the next word
abbrev pub IsFollowed : Instr → Type 0
IsFollowed (Jal rd off) = ⊥
IsFollowed (Jalr rd rs1 imm) = ⊥
IsFollowed (Branch kind rs1 rs2 off) = ⊥
IsFollowed Ebreak = ⊥
IsFollowed i = Unit {0}

-- as many words as the unit at `u` has stand for it at `a`
pub record WordsAt (p : Program) (l : Setup) (arrive : ℕ → ℕ → Type 0) (r u a : ℕ) : Type 0 where
  pub one : (read : Option Instr) → p.is_pair u ≡ false → Reads (p.word u) read → OneWordFor p l arrive r u a read
  pub pair : p.is_pair u ≡ true → PairFor p l arrive r u a
  pub falls : (i : Instr) → p.is_pair u ≡ false → Reads (p.word u) (Some i) → IsFollowed i → p.falls u ≡ true
      → arrive (u + 4) (plus a 4)
  pub below : u + 4 < 4294967296

-- ---- a row of words

-- what the instruction does to the hart if it is performed at its home
abbrev pub home_of : ℕ → State → Instr → Hart
home_of u t i = acts i (record { pc = u; regs = t.hart.regs; mem = t.hart.mem })

-- the unit at `v` may come behind the instruction `i` of the unit at `u`: for a branch and a jump a block, for a jump
-- by a register an address that one may reach, and else what follows
abbrev pub CanCome : Program → ℕ → Instr → ℕ → Type 0
CanCome p u (Jal rd off) v = p.is_block v ≡ true
CanCome p u (Jalr rd rs1 imm) v = p.is_reached v ≡ true
CanCome p u (Branch kind rs1 rs2 off) v = p.is_block v ≡ true
CanCome p u i v = (v ≡ u + 4) × (p.falls u ≡ true)

-- Words run without an access, and leave in each register that matters behind it what the instruction `i` of the unit
-- at `u` leaves there at home; control is where the flat machine may arrive at the unit to which `i` leads.
pub record RunsFor (p : Program) (live arrive : ℕ → ℕ → Type 0) (u : ℕ) (t : State) (i : Instr) : Type 0 where
  pub fetched : List ℕ
  pub regs : Registers
  pub to : ℕ
  pub some : 1 ≤ length fetched
  pub few : length fetched ≤ 4
  pub ran : Ran t fetched regs to
  pub alike : (k : ℕ) → live (home_of u t i).pc k → register regs k ≡ register (home_of u t i).regs k
  pub arrives : CanCome p u i (home_of u t i).pc → arrive (home_of u t i).pc to

-- So they do for a call of two words: the registers that matter where it goes are as they were, but for that of the
-- AUIPC, which holds the way back if the JALR links, and else anything.
pub record PairRuns (p : Program) (live arrive : ℕ → ℕ → Type 0) (u : ℕ) (t : State) : Type 0 where
  pub fetched : List ℕ
  pub regs : Registers
  pub to : ℕ
  pub some : 1 ≤ length fetched
  pub few : length fetched ≤ 4
  pub ran : Ran t fetched regs to
  pub others : (k : ℕ) → live (p.goes u) k → (k ≡ rd_of (p.word u) → ⊥) → register regs k ≡ register t.hart.regs k
  pub links : 0 < rd_of (p.word (u + 4)) → live (p.goes u) (rd_of (p.word u)) → (rd_of (p.word u) ≡ 0 → ⊥)
      → register regs (rd_of (p.word u)) ≡ u + 8
  pub below : u + 8 < 4294967296
  pub arrives : BlockAt p arrive (p.goes u) to

-- the instructions for which a row may stand: those whose effect is a register and where control goes, and that have
-- to do with their own address
abbrev pub IsRowKind : Instr → Option Target → Type 0
IsRowKind (Auipc rd n) None = Unit {0}
IsRowKind (Jal rd off) site = Unit {0}
IsRowKind (Jalr rd rs1 imm) site = Unit {0}
IsRowKind (Branch kind rs1 rs2 off) site = Unit {0}
IsRowKind i site = ⊥

-- wherever the flat machine is at `a`, a row of words runs there for the unit at `u`
pub record RowAt (p : Program) (l : Setup) (live arrive : ℕ → ℕ → Type 0) (r u a : ℕ) : Type 0 where
  pub one : (i : Instr) → p.is_pair u ≡ false → Reads (p.word u) (Some i)
      → IsRowKind i (p.site u) × ((t : State) → IsAt l r a t → RunsFor p live arrive u t i)
  pub meant : p.is_pair u ≡ false → Reads (p.word u) None → ⊥
  pub pair : p.is_pair u ≡ true → (t : State) → IsAt l r a t → PairRuns p live arrive u t
  pub below : u + 4 < 4294967296

-- ---- any form

-- what stands at `a` for the unit at `u` while region `r` is current
pub data FormAt (p : Program) (l : Setup) (live arrive : ℕ → ℕ → Type 0) (r u a : ℕ) : Type 0 where
  InWords : WordsAt p l arrive r u a → FormAt p l live arrive r u a
  InRow : RowAt p l live arrive r u a → FormAt p l live arrive r u a

-- ---- what is told of a unit

-- of the events of its one or two words
pub record WordsTell (p : Program) (tells : List FlatEvent → Type 0) (u : ℕ) (t : State) : Type 0 where
  pub one : p.is_pair u ≡ false → (e : FlatEvent) (t' : State) → Step t e t' → tells (e ∷ [])
  pub two : p.is_pair u ≡ true → (e f : FlatEvent) (t' t'' : State) → Step t e t' → Step t' f t'' → tells (e ∷ f ∷ [])

-- of those of a row
pub record RowTells (p : Program) (l : Setup) (live arrive : ℕ → ℕ → Type 0) (tells : List FlatEvent → Type 0) (r u a : ℕ) (t : State) (row : RowAt p l live arrive r u a) : Type 0 where
  pub one : (i : Instr) (single : p.is_pair u ≡ false) (reads : Reads (p.word u) (Some i)) (at : IsAt l r a t)
      → tells (map (fetch_of t.hart.mem) ((row.one i single reads).1 t at).fetched)
  pub pair : (is : p.is_pair u ≡ true) (at : IsAt l r a t) → tells (map (fetch_of t.hart.mem) (row.pair is t at).fetched)

-- of those of any form
abbrev pub FormTells : (p : Program) (l : Setup) (live arrive : ℕ → ℕ → Type 0) (tells : List FlatEvent → Type 0) (r u a : ℕ) (t : State) → FormAt p l live arrive r u a → Type 0
FormTells p l live arrive tells r u a t (InWords words) = WordsTell p tells u t
FormTells p l live arrive tells r u a t (InRow row) = RowTells p l live arrive tells r u a t row
