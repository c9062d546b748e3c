-- One step of the machine: one unit, which is an instruction or a call of two words. What a word means is
-- said by the instruction table alone.
use Rattle.std.specs.Prelude.{◌≡◌, ℕ, ◌+◌, ◌*◌, ◌%◌, if◌then◌else◌, true, false, Bool, Option, Some, None, ℤ}
use Rattle.rv32im.specs.Words.{plus, offset}
use Rattle.rv32im.specs.Acts.{load_width, store_width}
use Rattle.rv32im.specs.Table.{Means, MeansNothing}
use Rattle.rv32im.specs.declared.instructions.Instr.{Instr}
use Rattle.rv32im.specs.declared.instructions.Instr.TheVariants.{Lui, Auipc, Jal, Jalr, Branch, Load, Store, OpImm, OpReg, Fence, FenceI, Ecall, Ebreak}
use Rattle.rv32im.specs.declared.instructions.ImmKind.{ImmKind}
use Rattle.rv32im.specs.declared.instructions.ImmKind.TheVariants.{Addi}
use Rattle.rv32im.specs.declared.instructions.LoadKind.{LoadKind}
use Rattle.rv32im.specs.declared.instructions.StoreKind.{StoreKind}
use Rattle.cell_values.specs.Operations.{op_imm, op_reg, low_site}
use Rattle.cell_values.specs.Comparisons.{compare}
use Rattle.cell_values.specs.declared.values.Val.{Val}
use Rattle.cell_values.specs.declared.values.Val.TheVariants.{Int, Hi}
use Rattle.object_machine.specs.declared.events.Outcome.{Outcome}
use Rattle.object_machine.specs.declared.events.Outcome.TheVariants.{GoesOn, Exited, Trapped, AddressFault}
use Rattle.object_machine.specs.declared.events.Access.{Access}
use Rattle.object_machine.specs.declared.events.Event.{Event}
use Rattle.object_machine.specs.Program.{Program, Target}
use Rattle.object_machine.specs.State.{SourceState, value, wrote, trapped, faulted}
use Rattle.object_machine.specs.Places.{Where, InFixed, InObject, Nowhere, located, read_fault, write_fault, address_of}
use Rattle.object_machine.specs.Memory.{loaded_value, stored_at, stored_cells}
use Rattle.object_machine.specs.Flow.{falls_on, jumps, jumps_by, branches, calls_pair}
use Rattle.object_machine.specs.Calls.{a7, calls_by}

-- ---- values of sites

-- a LUI or an AUIPC makes a number, or at a site the upper part of an address
abbrev pub upper_value : Option Target → ℕ → Val
upper_value None n = Int n
upper_value (Some t) n = Hi t.object t.offset

-- an operation with an immediate, or the low part of an address
abbrev pub imm_result : Program → ImmKind → Val → ℤ → Option Target → Val
imm_result p kind x imm None = op_imm p.objects kind x imm
imm_result p kind x imm (Some t) = low_site p.objects x t.object t.offset

-- ---- loads and stores

abbrev pub loads_from : Program → SourceState → LoadKind → ℕ → Where → Option ℕ → SourceState
loads_from p s kind rd w None = falls_on p s (wrote s rd (loaded_value kind s w))
loads_from p s kind rd w (Some why) = faulted s why

abbrev pub stores_to : Program → SourceState → StoreKind → Val → Where → Option ℕ → SourceState
stores_to p s kind x w None = falls_on p s (stored_at s w (stored_cells kind x))
stores_to p s kind x w (Some why) = faulted s why

abbrev pub load_place : Program → SourceState → LoadKind → ℕ → ℤ → Option Target → Where
load_place p s kind rs1 imm site = located p (load_width kind) (address_of p site (value s.regs rs1) imm)

abbrev pub store_place : Program → SourceState → StoreKind → ℕ → ℤ → Option Target → Where
store_place p s kind rs1 imm site = located p (store_width kind) (address_of p site (value s.regs rs1) imm)

-- ---- instructions

abbrev pub acts : Program → SourceState → Instr → Option Target → SourceState
acts p s (Lui rd imm) site = falls_on p s (wrote s rd (upper_value site (imm * 4096 % 4294967296)))
acts p s (Auipc rd imm) site = falls_on p s (wrote s rd (upper_value site (plus s.pc (imm * 4096))))
acts p s (Jal rd off) site = jumps p s (offset s.pc off) (wrote s rd (Int (s.pc + 4)))
acts p s (Jalr rd rs1 imm) site =
    jumps_by p s (op_imm p.objects Addi (value s.regs rs1) imm) (wrote s rd (Int (s.pc + 4)))
acts p s (Branch kind rs1 rs2 off) site =
    branches p s off (compare p.objects kind (value s.regs rs1) (value s.regs rs2))
acts p s (Load kind rd rs1 imm) site =
    loads_from p s kind rd (load_place p s kind rs1 imm site) (read_fault (load_place p s kind rs1 imm site))
acts p s (Store kind rs1 rs2 imm) site =
    stores_to p s kind (value s.regs rs2) (store_place p s kind rs1 imm site)
    (write_fault p (store_place p s kind rs1 imm site))
acts p s (OpImm kind rd rs1 imm) site =
    falls_on p s (wrote s rd (imm_result p kind (value s.regs rs1) imm site))
acts p s (OpReg kind rd rs1 rs2) site =
    falls_on p s (wrote s rd (op_reg p.objects kind (value s.regs rs1) (value s.regs rs2)))
acts p s (Fence bits) site = falls_on p s s
acts p s (FenceI bits) site = falls_on p s s
acts p s Ecall site = calls_by p s (a7 s)
acts p s Ebreak site = trapped s

-- a word means an instruction, or none
abbrev pub Reads : ℕ → Option Instr → Type 0
Reads w None = MeansNothing w
Reads w (Some i) = Means w i

-- the unit that begins with a word of this meaning
abbrev pub one_word : Program → SourceState → Option Instr → SourceState
one_word p s None = trapped s
one_word p s (Some i) = acts p s i (p.site s.pc)

abbrev pub next_state : Program → SourceState → Option Instr → SourceState
next_state p s read = if p.is_pair s.pc then calls_pair p s else one_word p s read

-- ---- events

-- a place in an object is an access
abbrev pub access_in : Where → Bool → Option Access
access_in (InFixed a) write = None
access_in (InObject o d) write = Some (record { object = o; offset = d; write = write })
access_in (Nowhere why) write = None

abbrev pub access_by : Program → SourceState → Option Instr → Option Access
access_by p s (Some (Load kind rd rs1 imm)) = access_in (load_place p s kind rs1 imm (p.site s.pc)) false
access_by p s (Some (Store kind rs1 rs2 imm)) = access_in (store_place p s kind rs1 imm (p.site s.pc)) true
access_by p s read = None

-- that of a step which went on; a call of two words has none
abbrev pub access_of : Program → SourceState → Outcome → Option Instr → Option Access
access_of p s GoesOn read = if p.is_pair s.pc then None else access_by p s read
access_of p s outcome read = None

abbrev pub event_of : Program → SourceState → SourceState → Option Instr → Event
event_of p s t read = record { at = s.pc; outcome = t.outcome; access = access_of p s t.outcome read }

-- ---- the step

-- the machine performs the unit at the pc
pub record Performs (p : Program) (s : SourceState) (e : Event) (t : SourceState) (read : Option Instr) : Type 0 where
  pub meant : Reads (p.word s.pc) read
  pub state : t ≡ next_state p s read
  pub event : e ≡ event_of p s t read

-- a machine that has ended stays as it is
abbrev pub stays_event : SourceState → Event
stays_event s = record { at = s.pc; outcome = s.outcome; access = None }

abbrev pub StepFrom : Outcome → Program → SourceState → Event → SourceState → Type 0
StepFrom GoesOn p s e t = (read : Option Instr) × Performs p s e t read
StepFrom outcome p s e t = (t ≡ s) × (e ≡ stays_event s)

abbrev pub Step : Program → SourceState → Event → SourceState → Type 0
Step p s e t = StepFrom s.outcome p s e t
