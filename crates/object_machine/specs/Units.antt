-- Units as the machine keeps them.
use Rattle.std.specs.Prelude.{◌≡◌, ℕ, ◌+◌, ◌<◌, nat_lt, Bool, true, false, ◌&&◌, List, length, slice_index, slice_index_or, Option, Some, None}
use Rattle.rv32im.specs.declared.instructions.Instr.{Instr}
use Rattle.rv32im.specs.declared.instructions.Instr.TheVariants.{Lui, Auipc, Jal, Jalr, Branch, Load, Store, OpImm, OpReg, Fence, FenceI, Ecall, Ebreak}
use Rattle.object_graph.specs.declared.parts.Site.{Site}
use Rattle.object_machine.specs.Program.{Target}
use Rattle.object_machine.specs.declared.units.Pair.{Pair}
use Rattle.object_machine.specs.declared.units.Prepared.{Prepared}

-- unit `k` of a list; one of nothing behind the last
abbrev pub no_unit : Prepared
no_unit = record { at = 0; instr = None; pair = None; site = None; goes_on = false }

abbrev pub unit_in : List Prepared → ℕ → Prepared
unit_in units k = slice_index_or units k no_unit

-- unit `k` is at an address
abbrev pub IsUnitAt : List Prepared → ℕ → ℕ → Type 0
IsUnitAt units k a = (k < length units) × ((unit_in units k).at ≡ a)

-- the address that a site makes a part of
abbrev pub target_of : Option Site → Option Target
target_of None = None
target_of (Some s) = Some (record { object = s.object; offset = s.offset })

-- ---- fields that a machine has room for: registers below 32, and upper immediates of 20 bits

abbrev pub Fits : Instr → Type 0
Fits (Lui rd imm) = (rd < 32) × (imm < 1048576)
Fits (Auipc rd imm) = (rd < 32) × (imm < 1048576)
Fits (Jal rd off) = rd < 32
Fits (Jalr rd rs1 imm) = (rd < 32) × (rs1 < 32)
Fits (Branch kind rs1 rs2 off) = (rs1 < 32) × (rs2 < 32)
Fits (Load kind rd rs1 imm) = (rd < 32) × (rs1 < 32)
Fits (Store kind rs1 rs2 imm) = (rs1 < 32) × (rs2 < 32)
Fits (OpImm kind rd rs1 imm) = (rd < 32) × (rs1 < 32)
Fits (OpReg kind rd rs1 rs2) = (rd < 32) × (rs1 < 32) × (rs2 < 32)
Fits (Fence bits) = Unit {0}
Fits (FenceI bits) = Unit {0}
Fits Ecall = Unit {0}
Fits Ebreak = Unit {0}

abbrev pub FitsRead : Option Instr → Type 0
FitsRead None = Unit {0}
FitsRead (Some i) = Fits i

abbrev pub fits : Instr → Bool
fits (Lui rd imm) = nat_lt rd 32 && nat_lt imm 1048576
fits (Auipc rd imm) = nat_lt rd 32 && nat_lt imm 1048576
fits (Jal rd off) = nat_lt rd 32
fits (Jalr rd rs1 imm) = nat_lt rd 32 && nat_lt rs1 32
fits (Branch kind rs1 rs2 off) = nat_lt rs1 32 && nat_lt rs2 32
fits (Load kind rd rs1 imm) = nat_lt rd 32 && nat_lt rs1 32
fits (Store kind rs1 rs2 imm) = nat_lt rs1 32 && nat_lt rs2 32
fits (OpImm kind rd rs1 imm) = nat_lt rd 32 && nat_lt rs1 32
fits (OpReg kind rd rs1 rs2) = nat_lt rd 32 && nat_lt rs1 32 && nat_lt rs2 32
fits (Fence bits) = true
fits (FenceI bits) = true
fits Ecall = true
fits Ebreak = true

abbrev pub fits_read : Option Instr → Bool
fits_read None = true
fits_read (Some i) = fits i

-- a call ends below 2 ^ 32, as each word does
abbrev pub FitsPair : ℕ → Option Pair → Type 0
FitsPair a None = Unit {0}
FitsPair a (Some c) = (c.register < 32) × (a + 8 < 4294967296)

abbrev pub fits_pair : ℕ → Option Pair → Bool
fits_pair a None = true
fits_pair a (Some c) = nat_lt c.register 32 && nat_lt (a + 8) 4294967296

-- a site names one of so many objects
abbrev pub FitsSite : ℕ → Option Site → Type 0
FitsSite count None = Unit {0}
FitsSite count (Some s) = s.object < count

abbrev pub fits_site : ℕ → Option Site → Bool
fits_site count None = true
fits_site count (Some s) = nat_lt s.object count

pub record IsFit (count : ℕ) (u : Prepared) : Type 0 where
  pub instr : FitsRead u.instr
  pub pair : FitsPair u.at u.pair
  pub site : FitsSite count u.site
  pub below : u.at + 4 < 4294967296

abbrev pub is_fit : ℕ → Prepared → Bool
is_fit count u =
    fits_read u.instr && fits_pair u.at u.pair && fits_site count u.site && nat_lt (u.at + 4) 4294967296

-- ---- lists of units

abbrev pub AreFit : ℕ → List Prepared → Type 0
AreFit count units = (k : ℕ) → k < length units → is_fit count (unit_in units k) ≡ true

-- a unit that goes on is followed by the one behind it
abbrev pub AreJoined : List Prepared → Type 0
AreJoined units =
    (k : ℕ) → k < length units → (unit_in units k).goes_on ≡ true → IsUnitAt units (k + 1) ((unit_in units k).at + 4)

-- each start of a block has the place of its first unit
abbrev pub AreStarts : List Prepared → List ℕ → List ℕ → Type 0
AreStarts units starts places =
    (k : ℕ) → k < length starts
    → (k < length places) × IsUnitAt units (slice_index places k) (slice_index starts k)

-- ---- units of one word that lead to the next word: all but jumps, EBREAK and words that mean nothing

abbrev pub leads_on : Instr → Bool
leads_on (Lui rd imm) = true
leads_on (Auipc rd imm) = true
leads_on (Jal rd off) = false
leads_on (Jalr rd rs1 imm) = false
leads_on (Branch kind rs1 rs2 off) = false
leads_on (Load kind rd rs1 imm) = true
leads_on (Store kind rs1 rs2 imm) = true
leads_on (OpImm kind rd rs1 imm) = true
leads_on (OpReg kind rd rs1 rs2) = true
leads_on (Fence bits) = true
leads_on (FenceI bits) = true
leads_on Ecall = true
leads_on Ebreak = false

abbrev pub may_lead : Option Instr → Option Pair → Bool
may_lead None pair = false
may_lead (Some i) None = leads_on i
may_lead (Some i) (Some c) = false

abbrev pub may_fall : Prepared → Bool
may_fall u = may_lead u.instr u.pair
