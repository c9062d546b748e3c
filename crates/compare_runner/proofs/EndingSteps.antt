-- A step by which a program ends in no fault is that of one word: a call of the environment, EBREAK, or a word without a meaning.
use Rattle.std.proofs.Common.{◌≡◌, ℕ, ◌+◌, ◌*◌, ◌/◌, ◌%◌, Bool, true, false, if◌then◌else◌, Option, Some, None, refl, subst, ℤ}
use Rattle.std.proofs.lemmas.Bool.{cond_both}
use Rattle.rv32im.specs.Words.{offset, plus}
use Rattle.rv32im.specs.declared.instructions.Instr.{Instr}
use Rattle.rv32im.specs.declared.instructions.Instr.TheVariants.{Lui, Auipc, Jal, Jalr, Branch, Load, Store, OpImm, OpReg, Fence, FenceI, Ecall, Ebreak}
use Rattle.rv32im.specs.declared.instructions.ImmKind.TheVariants.{Addi}
use Rattle.rv32im.specs.Fields.{rd_of}
use Rattle.cell_values.specs.Operations.{op_imm, op_reg}
use Rattle.cell_values.specs.Comparisons.{compare}
use Rattle.cell_values.specs.declared.values.Val.{Val}
use Rattle.cell_values.specs.declared.values.Val.TheVariants.{Int, Addr, Hi, Low, Piece, Unknown}
use Rattle.object_machine.specs.declared.events.Outcome.{Outcome}
use Rattle.object_machine.specs.declared.events.Outcome.TheVariants.{GoesOn, Exited, Trapped, AddressFault}
use Rattle.object_machine.specs.Flow.{falls_on, jumps, jumps_by, branches, calls_pair, pair_link}
use Rattle.object_machine.specs.Program.{Program}
use Rattle.object_machine.specs.State.{SourceState, value, wrote, faulted}
use Rattle.object_machine.specs.Step.{next_state, one_word, upper_value, imm_result}

-- the run is over, by no fault
abbrev pub IsOver : Outcome → Type 0
IsOver GoesOn = ⊥
IsOver (Exited code) = Unit {0}
IsOver (Trapped pc) = Unit {0}
IsOver (AddressFault pc why) = ⊥

-- a word that is one at each form, which may end a run or access an object
abbrev pub IsAlone : Option Instr → Type 0
IsAlone None = Unit {0}
IsAlone (Some (Load kind rd rs1 imm)) = Unit {0}
IsAlone (Some (Store kind rs1 rs2 imm)) = Unit {0}
IsAlone (Some Ecall) = Unit {0}
IsAlone (Some Ebreak) = Unit {0}
IsAlone other = ⊥

over_by : (o : Outcome) → o ≡ GoesOn → IsOver o → ⊥
over_by o going over = subst IsOver going over

module _ (p : Program) (s : SourceState) (going : s.outcome ≡ GoesOn) where
  abbrev Ends : SourceState → Type 0
  Ends t = IsOver t.outcome

  falls_not : (t : SourceState) → t.outcome ≡ GoesOn → Ends (falls_on p s t) → ⊥
  falls_not t on =
      cond_both (p.falls s.pc) (record t { pc = s.pc + 4 }) (faulted s 6) (λ (x : SourceState). Ends x → ⊥) (λ falls ends. over_by t.outcome on ends) (λ other ends. ends)

  jumps_not : (a : ℕ) (t : SourceState) → t.outcome ≡ GoesOn → Ends (jumps p s a t) → ⊥
  jumps_not a t on =
      cond_both (p.is_block a) (record t { pc = a }) (faulted s 6) (λ (x : SourceState). Ends x → ⊥) (λ leads ends. over_by t.outcome on ends) (λ other ends. ends)

  jumps_by_not : (x : Val) (t : SourceState) → t.outcome ≡ GoesOn → Ends (jumps_by p s x t) → ⊥
  jumps_by_not (Int a) t on ends =
      cond_both (p.is_reached (a / 2 * 2)) (record t { pc = a / 2 * 2 }) (faulted s 6) (λ (y : SourceState). Ends y → ⊥) (λ leads there. over_by t.outcome on there) (λ other there. there) ends
  jumps_by_not (Addr o d) t on ends = ends
  jumps_by_not (Hi o d) t on ends = ends
  jumps_by_not (Low n) t on ends = ends
  jumps_by_not (Piece hi o d k) t on ends = ends
  jumps_by_not Unknown t on ends = ends

  branches_not : (off : ℤ) (taken : Option Bool) → Ends (branches p s off taken) → ⊥
  branches_not off (Some true) ends = jumps_not (offset s.pc off) s going ends
  branches_not off (Some false) ends = jumps_not (s.pc + 4) s going ends
  branches_not off None ends = ends

  one_ends : (read : Option Instr) → Ends (one_word p s read) → IsAlone read
  one_ends None ends = tt
  one_ends (Some Ecall) ends = tt
  one_ends (Some Ebreak) ends = tt
  one_ends (Some (Load kind rd rs1 imm)) ends = tt
  one_ends (Some (Store kind rs1 rs2 imm)) ends = tt
  one_ends (Some (Lui rd imm)) ends = falls_not (wrote s rd (upper_value (p.site s.pc) (imm * 4096 % 4294967296))) going ends
  one_ends (Some (Auipc rd imm)) ends = falls_not (wrote s rd (upper_value (p.site s.pc) (plus s.pc (imm * 4096)))) going ends
  one_ends (Some (Jal rd off)) ends = jumps_not (offset s.pc off) (wrote s rd (Int (s.pc + 4))) going ends
  one_ends (Some (Jalr rd rs1 imm)) ends = jumps_by_not (op_imm p.objects Addi (value s.regs rs1) imm) (wrote s rd (Int (s.pc + 4))) going ends
  one_ends (Some (Branch kind rs1 rs2 off)) ends = branches_not off (compare p.objects kind (value s.regs rs1) (value s.regs rs2)) ends
  one_ends (Some (OpImm kind rd rs1 imm)) ends = falls_not (wrote s rd (imm_result p kind (value s.regs rs1) imm (p.site s.pc))) going ends
  one_ends (Some (OpReg kind rd rs1 rs2)) ends = falls_not (wrote s rd (op_reg p.objects kind (value s.regs rs1) (value s.regs rs2))) going ends
  one_ends (Some (Fence bits)) ends = falls_not s going ends
  one_ends (Some (FenceI bits)) ends = falls_not s going ends

  ends_by : (read : Option Instr) (pair : Bool) → p.is_pair s.pc ≡ pair → Ends (if pair then calls_pair p s else one_word p s read) → (p.is_pair s.pc ≡ false) × IsAlone read
  ends_by read true is ends = absurd (jumps_not (p.goes s.pc) (wrote s (rd_of (p.word s.pc)) (pair_link p s)) going ends)
  ends_by read false is ends = (is, one_ends read ends)

  pub ends_alone : (read : Option Instr) → Ends (next_state p s read) → (p.is_pair s.pc ≡ false) × IsAlone read
  ends_alone read ends = ends_by read (p.is_pair s.pc) refl ends
