-- A step by which a program exits is an environment call.
use Rattle.std.proofs.Common.{◌≡◌, ℕ, ◌+◌, ◌*◌, ◌/◌, ◌%◌, Bool, true, false, if◌then◌else◌, Option, Some, None, refl, ℤ}
use Rattle.std.proofs.lemmas.Bool.{cond_both}
use Rattle.rv32im.specs.Words.{offset, plus}
use Rattle.rv32im.specs.declared.instructions.Instr.{Instr}
use Rattle.rv32im.specs.declared.instructions.Instr.TheVariants.{Lui, Auipc, Jal, Jalr, Branch, Load, Store, OpImm, OpReg, Fence, FenceI, Ecall, Ebreak}
use Rattle.rv32im.specs.declared.instructions.ImmKind.TheVariants.{Addi}
use Rattle.rv32im.specs.declared.instructions.LoadKind.{LoadKind}
use Rattle.rv32im.specs.declared.instructions.StoreKind.{StoreKind}
use Rattle.rv32im.specs.Fields.{rd_of}
use Rattle.cell_values.specs.Operations.{op_imm, op_reg}
use Rattle.cell_values.specs.Comparisons.{compare}
use Rattle.cell_values.specs.declared.values.Val.{Val}
use Rattle.cell_values.specs.declared.values.Val.TheVariants.{Int, Addr, Hi, Low, Piece, Unknown}
use Rattle.object_machine.specs.declared.events.Outcome.TheVariants.{GoesOn, Exited}
use Rattle.object_machine.specs.Flow.{falls_on, jumps, jumps_by, branches, calls_pair, pair_link}
use Rattle.object_machine.specs.Memory.{loaded_value, stored_at, stored_cells}
use Rattle.object_machine.specs.Places.{Where, InFixed, InObject, Nowhere, read_fault, write_fault}
use Rattle.object_machine.specs.Program.{Program}
use Rattle.object_machine.specs.State.{SourceState, value, wrote, faulted}
use Rattle.object_machine.specs.Step.{next_state, one_word, loads_from, stores_to, load_place, store_place, upper_value, imm_result}

module _ (p : Program) (s : SourceState) (going : s.outcome ≡ GoesOn) (code : ℕ) where
  abbrev Exits : SourceState → Type 0
  Exits t = t.outcome ≡ Exited code

  falls_not : (t : SourceState) → t.outcome ≡ GoesOn → Exits (falls_on p s t) → ⊥
  falls_not t on =
      cond_both (p.falls s.pc) (record t { pc = s.pc + 4 }) (faulted s 6) (λ (x : SourceState). Exits x → ⊥) (λ falls exits. cc) (λ other exits. cc)

  jumps_not : (a : ℕ) (t : SourceState) → t.outcome ≡ GoesOn → Exits (jumps p s a t) → ⊥
  jumps_not a t on =
      cond_both (p.is_block a) (record t { pc = a }) (faulted s 6) (λ (x : SourceState). Exits x → ⊥) (λ leads exits. cc) (λ other exits. cc)

  jumps_by_not : (x : Val) (t : SourceState) → t.outcome ≡ GoesOn → Exits (jumps_by p s x t) → ⊥
  jumps_by_not (Int a) t on exits =
      cond_both (p.is_reached (a / 2 * 2)) (record t { pc = a / 2 * 2 }) (faulted s 6) (λ (y : SourceState). Exits y → ⊥) (λ leads there. cc) (λ other there. cc) exits
  jumps_by_not (Addr o d) t on exits = cc
  jumps_by_not (Hi o d) t on exits = cc
  jumps_by_not (Low n) t on exits = cc
  jumps_by_not (Piece hi o d k) t on exits = cc
  jumps_by_not Unknown t on exits = cc

  branches_not : (off : ℤ) (taken : Option Bool) → Exits (branches p s off taken) → ⊥
  branches_not off (Some true) exits = jumps_not (offset s.pc off) s going exits
  branches_not off (Some false) exits = jumps_not (s.pc + 4) s going exits
  branches_not off None exits = cc

  loads_not : (kind : LoadKind) (rd : ℕ) (w : Where) → Exits (loads_from p s kind rd w (read_fault w)) → ⊥
  loads_not kind rd (InFixed a) exits = falls_not (wrote s rd (loaded_value kind s (InFixed a))) going exits
  loads_not kind rd (InObject o d) exits = falls_not (wrote s rd (loaded_value kind s (InObject o d))) going exits
  loads_not kind rd (Nowhere why) exits = cc

  stores_not : (kind : StoreKind) (x : Val) (w : Where) → Exits (stores_to p s kind x w (write_fault p w)) → ⊥
  stores_not kind x (InFixed a) exits = falls_not (stored_at s (InFixed a) (stored_cells kind x)) going exits
  stores_not kind x (InObject o d) exits =
      cond_both (p.objects.writable o) None (Some 9) (λ (f : Option ℕ). Exits (stores_to p s kind x (InObject o d) f) → ⊥)
      (λ writable there. falls_not (stored_at s (InObject o d) (stored_cells kind x)) going there) (λ other there. cc) exits
  stores_not kind x (Nowhere why) exits = cc

  one_exits : (read : Option Instr) → Exits (one_word p s read) → read ≡ Some Ecall
  one_exits None exits = cc
  one_exits (Some Ecall) exits = refl
  one_exits (Some Ebreak) exits = cc
  one_exits (Some (Lui rd imm)) exits = absurd (falls_not (wrote s rd (upper_value (p.site s.pc) (imm * 4096 % 4294967296))) going exits)
  one_exits (Some (Auipc rd imm)) exits = absurd (falls_not (wrote s rd (upper_value (p.site s.pc) (plus s.pc (imm * 4096)))) going exits)
  one_exits (Some (Jal rd off)) exits = absurd (jumps_not (offset s.pc off) (wrote s rd (Int (s.pc + 4))) going exits)
  one_exits (Some (Jalr rd rs1 imm)) exits =
      absurd (jumps_by_not (op_imm p.objects Addi (value s.regs rs1) imm) (wrote s rd (Int (s.pc + 4))) going exits)
  one_exits (Some (Branch kind rs1 rs2 off)) exits =
      absurd (branches_not off (compare p.objects kind (value s.regs rs1) (value s.regs rs2)) exits)
  one_exits (Some (Load kind rd rs1 imm)) exits = absurd (loads_not kind rd (load_place p s kind rs1 imm (p.site s.pc)) exits)
  one_exits (Some (Store kind rs1 rs2 imm)) exits =
      absurd (stores_not kind (value s.regs rs2) (store_place p s kind rs1 imm (p.site s.pc)) exits)
  one_exits (Some (OpImm kind rd rs1 imm)) exits = absurd (falls_not (wrote s rd (imm_result p kind (value s.regs rs1) imm (p.site s.pc))) going exits)
  one_exits (Some (OpReg kind rd rs1 rs2)) exits = absurd (falls_not (wrote s rd (op_reg p.objects kind (value s.regs rs1) (value s.regs rs2))) going exits)
  one_exits (Some (Fence bits)) exits = absurd (falls_not s going exits)
  one_exits (Some (FenceI bits)) exits = absurd (falls_not s going exits)

  exits_by : (read : Option Instr) (pair : Bool) → p.is_pair s.pc ≡ pair → Exits (if pair then calls_pair p s else one_word p s read) → (p.is_pair s.pc ≡ false) × (read ≡ Some Ecall)
  exits_by read true is exits = absurd (jumps_not (p.goes s.pc) (wrote s (rd_of (p.word s.pc)) (pair_link p s)) going exits)
  exits_by read false is exits = (is, one_exits read exits)

  pub exits_call : (read : Option Instr) → Exits (next_state p s read) → (p.is_pair s.pc ≡ false) × (read ≡ Some Ecall)
  exits_call read exits = exits_by read (p.is_pair s.pc) refl exits
