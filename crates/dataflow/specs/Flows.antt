-- Where what a register holds may go until a block ends, by the units that are left.
use Rattle.std.specs.Prelude.{◌≡◌, ◌≢◌, ◌⊎◌, ℕ, Bool, true, false, List, [], ◌∷◌, Option, Some, None, if◌then◌else◌}
use Rattle.rv32im.specs.declared.instructions.Instr.{Instr}
use Rattle.rv32im.specs.declared.instructions.Instr.TheVariants.{Lui, Auipc, Jal, Jalr, Load, Store, OpImm, OpReg, Ecall}
use Rattle.rv32im.specs.declared.instructions.LoadKind.TheVariants.{Lw}
use Rattle.rv32im.specs.declared.instructions.ImmKind.TheVariants.{Addi}
use Rattle.object_graph.specs.declared.parts.SiteKind.{SiteKind}
use Rattle.object_graph.specs.declared.parts.SiteKind.TheVariants.{Hi, LowI}
use Rattle.object_graph.specs.declared.parts.Site.{Site}
use Rattle.object_graph.specs.declared.parts.DataWord.{DataWord}
use Rattle.code_blocks.specs.declared.parts.Unit.{Unit}
use Rattle.rv32im.specs.Operations.{takes_low_bits}
use Rattle.dataflow.specs.Points.{IsHolder, site_at, is_move}

-- the register that an instruction writes; 0 where it writes none
abbrev pub written : Option Instr → ℕ
written (Some (Lui rd imm)) = rd
written (Some (Auipc rd imm)) = rd
written (Some (Jal rd off)) = rd
written (Some (Jalr rd rs1 imm)) = rd
written (Some (Load kind rd rs1 imm)) = rd
written (Some (OpImm kind rd rs1 imm)) = rd
written (Some (OpReg kind rd rs1 rs2)) = rd
written (Some Ecall) = 10
written other = 0

-- the registers of which it makes what it writes, as far as addresses go; 0 for none
abbrev pub first_source : Option Site → Option Instr → ℕ
first_source None (Some (OpImm kind rd rs1 imm)) = if is_move kind then rs1 else 0
first_source site (Some (OpReg kind rd rs1 rs2)) = if takes_low_bits kind then rs1 else 0
first_source site other = 0

abbrev pub second_source : Option Instr → ℕ
second_source (Some (OpReg kind rd rs1 rs2)) = if takes_low_bits kind then rs2 else 0
second_source other = 0

-- the register that it stores; 0 for none
abbrev pub stored : Option Instr → ℕ
stored (Some (Store kind rs1 rs2 imm)) = rs2
stored other = 0

-- the object of whose address it makes a part
abbrev pub made_in : SiteKind → ℕ → Option Instr → Option ℕ
made_in Hi o (Some (Lui rd imm)) = Some o
made_in Hi o (Some (Auipc rd imm)) = Some o
made_in LowI o (Some (OpImm Addi rd rs1 imm)) = Some o
made_in kind o instr = None

abbrev pub made : Option Site → Option Instr → Option ℕ
made None instr = None
made (Some s) instr = made_in s.kind s.object instr

-- it loads a word
abbrev pub loads : Option Instr → Bool
loads (Some (Load Lw rd rs1 imm)) = true
loads instr = false

-- what `x` holds before, `z` holds behind an instruction that writes `to`, made of `first` and `second`
abbrev pub Passes : ℕ → ℕ → ℕ → ℕ → ℕ → Type 0
Passes to first second x z = ((x ≡ z) × (x ≢ to)) ⊎ ((z ≡ to) × ((x ≡ first) ⊎ (x ≡ second)))

abbrev pub PassesAt : List Site → Unit → ℕ → ℕ → Type 0
PassesAt sites u x z =
    Passes (written u.instr) (first_source (site_at sites u.at) u.instr) (second_source u.instr) x z

-- what register `x` holds before these units, place `y` may hold behind them: a register, or memory, which is
-- place 0
abbrev pub Leads : List Site → List Unit → ℕ → ℕ → Type 0
Leads sites [] x y = x ≡ y
Leads sites (u ∷ us) x y =
    ((y ≡ 0) × (x ≡ stored u.instr)) ⊎ ((z : ℕ) × IsHolder z × PassesAt sites u x z × Leads sites us z y)

-- what stands behind the last word of data
abbrev pub no_word : DataWord
no_word = record { at = 0; object = 0; offset = 0 }
