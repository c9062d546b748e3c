-- Runs in which each low part of an address finds the upper part that its relocation names. Beside each upper
-- part of an address the instruction that made it is kept, also in memory; it decides nothing of the run.
use Rattle.std.specs.Prelude.{◌≡◌, ℕ, zero, suc, ◌+◌, ◌==◌, Bool, true, false, not, ◌&&◌, ◌||◌, [], Option, Some, None, if◌then◌else◌}
use Rattle.rv32im.specs.declared.instructions.Instr.{Instr}
use Rattle.rv32im.specs.declared.instructions.Instr.TheVariants.{Lui, Auipc, Load, Store, OpImm, OpReg}
use Rattle.rv32im.specs.declared.instructions.RegKind.{RegKind}
use Rattle.rv32im.specs.declared.instructions.LoadKind.{LoadKind}
use Rattle.rv32im.specs.declared.instructions.LoadKind.TheVariants.{Lw}
use Rattle.rv32im.specs.Acts.{store_width}
use Rattle.cell_values.specs.Cells.{put_at}
use Rattle.rv32im.specs.Operations.{operation_of}
use Rattle.cell_values.specs.declared.values.Val.{Val}
use Rattle.cell_values.specs.declared.values.Val.TheVariants.{Int, Hi}
use Rattle.cell_values.specs.Origins.{Origin, ByLui, ByAuipc, Mixed, joined_origin, is_by_auipc, takes_low}
use Rattle.object_machine.specs.declared.events.Outcome.{Outcome}
use Rattle.object_machine.specs.declared.events.Outcome.TheVariants.{GoesOn}
use Rattle.object_machine.specs.Program.{Program, Target}
use Rattle.object_machine.specs.State.{SourceState, value}
use Rattle.object_machine.specs.Places.{Where, InFixed, InObject, Nowhere}
use Rattle.object_machine.specs.Step.{load_place, store_place, next_state, Reads}

-- the origins of what registers and cells hold; they tell nothing of what is no upper part
pub record Origins : Type 0 where
  pub regs : ℕ → Origin
  pub fixed : ℕ → Origin
  pub cells : ℕ → ℕ → Origin

abbrev pub at_start : Origins
at_start = record { regs = λ _. ByLui; fixed = λ _. ByLui; cells = λ _ _. ByLui }

-- ---- what a step does with them

abbrev pub origin_at : Origins → Where → ℕ → Origin
origin_at m (InFixed a) i = m.fixed (a + i)
origin_at m (InObject o d) i = m.cells o (d + i)
origin_at m (Nowhere why) i = Mixed

-- the origin of a word that four cells make
abbrev pub word_origin : Origins → Where → Origin
word_origin m w = joined_origin (origin_at m w 0) (origin_at m w 1) (origin_at m w 2) (origin_at m w 3)

abbrev pub loaded_origin : LoadKind → Origins → Where → Origin
loaded_origin Lw m w = word_origin m w
loaded_origin kind m w = origin_at m w 0

abbrev pub put_origins : (ℕ → Origin) → ℕ → Origin → ℕ → ℕ → Origin
put_origins table k origin zero = table
put_origins table k origin (suc n) = put_origins (put_at table k origin) (k + 1) origin n

abbrev pub stored_origin : Origins → Where → Origin → ℕ → Origins
stored_origin m (InFixed a) origin n = record m { fixed = put_origins m.fixed a origin n }
stored_origin m (InObject o d) origin n = record m { cells = put_at m.cells o (put_origins (m.cells o) d origin n) }
stored_origin m (Nowhere why) origin n = m

abbrev pub made_in : Origins → ℕ → Origin → Origins
made_in m rd origin = record m { regs = put_at m.regs rd origin }

abbrev pub origins_by : Program → SourceState → Origins → Instr → Origins
origins_by p s m (Lui rd imm) = made_in m rd ByLui
origins_by p s m (Auipc rd imm) = made_in m rd (ByAuipc s.pc)
origins_by p s m (Load kind rd rs1 imm) =
    made_in m rd (loaded_origin kind m (load_place p s kind rs1 imm (p.site s.pc)))
origins_by p s m (Store kind rs1 rs2 imm) =
    stored_origin m (store_place p s kind rs1 imm (p.site s.pc)) (m.regs rs2) (store_width kind)
origins_by p s m i = m

abbrev pub origins_after : Program → SourceState → Origins → Option Instr → Origins
origins_after p s m (Some i) = if p.is_pair s.pc then m else origins_by p s m i
origins_after p s m None = m

-- ---- what a paired step may not do

-- the AUIPC that made an upper part
abbrev pub auipc_of : Origin → Val → Option ℕ
auipc_of (ByAuipc a) (Hi o d) = Some a
auipc_of origin x = None

abbrev pub same_place : Option ℕ → Option ℕ → Bool
same_place (Some a) (Some b) = a == b
same_place None None = true
same_place one other = false

-- a low site finds the upper part of the AUIPC that its relocation names, or one of a LUI where it names none
abbrev pub finds_named : Option ℕ → Origin → Val → Bool
finds_named (Some a) origin x = same_place (auipc_of origin x) (Some a)
finds_named None origin x = not (is_by_auipc origin x)

abbrev pub is_paired_site : Program → SourceState → Origins → ℕ → Option Target → Bool
is_paired_site p s m rs1 None = true
is_paired_site p s m rs1 (Some t) = finds_named (p.named s.pc) (m.regs rs1) (value s.regs rs1)

-- the base of a load or a store, and the operand of an operation with an immediate, are used as they are
-- where there is no site: an address of what is no number, or an operation on it
abbrev pub uses_base : Program → SourceState → Origins → RegKind → ℕ → Option Target → Bool
uses_base p s m kind rs1 None = takes_low p.objects kind (m.regs rs1) (value s.regs rs1) ByLui (Int 0)
uses_base p s m kind rs1 (Some t) = false

abbrev pub is_paired_by : Program → SourceState → Origins → Instr → Bool
is_paired_by p s m (OpImm kind rd rs1 imm) =
    is_paired_site p s m rs1 (p.site s.pc) && not (uses_base p s m (operation_of kind) rs1 (p.site s.pc))
is_paired_by p s m (OpReg kind rd rs1 rs2) =
    not (takes_low p.objects kind (m.regs rs1) (value s.regs rs1) (m.regs rs2) (value s.regs rs2))
is_paired_by p s m (Load kind rd rs1 imm) = is_paired_site p s m rs1 (p.site s.pc)
is_paired_by p s m (Store kind rs1 rs2 imm) = is_paired_site p s m rs1 (p.site s.pc)
is_paired_by p s m i = true

abbrev pub is_paired_step : Program → SourceState → Origins → Option Instr → Bool
is_paired_step p s m (Some i) = p.is_pair s.pc || is_paired_by p s m i
is_paired_step p s m None = true

-- ---- runs

-- `n` paired steps lead from `s` with the origins `m` to `t`; a machine that has ended stays
abbrev pub PairedFrom : Outcome → (SourceState → Origins → SourceState → Type 0) → Program → SourceState → Origins → SourceState → Type 0
PairedFrom GoesOn rest p s m t =
    (read : Option Instr)
    × (Reads (p.word s.pc) read
    × ((is_paired_step p s m read ≡ true) × rest (next_state p s read) (origins_after p s m read) t))
PairedFrom outcome rest p s m t = t ≡ s

abbrev pub PairedSteps : Program → ℕ → SourceState → Origins → SourceState → Type 0
PairedSteps p zero s m t = t ≡ s
PairedSteps p (suc n) s m t = PairedFrom s.outcome (PairedSteps p n) p s m t
