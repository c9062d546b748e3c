-- Instructions that have to do with their own address, in one word or in a row: an AUIPC that is no site, branches and
-- jumps.
use Rattle.std.proofs.Common.{◌≡◌, ◌∙◌, ℕ, ◌+◌, ◌*◌, ◌/◌, ◌<◌, Bool, true, false, if◌then◌else◌, List, map, Option, Some, None, ℤ, refl, ap, subst, arith}
use Rattle.std.proofs.lemmas.Bool.{cond_both}
use Rattle.rv32im.specs.Words.{plus, offset}
use Rattle.rv32im.specs.Acts.{register, is_taken}
use Rattle.rv32im.specs.declared.instructions.Instr.{Instr}
use Rattle.rv32im.specs.declared.instructions.Instr.TheVariants.{Lui, Auipc, Jal, Jalr, Branch, Load, Store, OpImm, OpReg, Fence, FenceI, Ecall, Ebreak}
use Rattle.rv32im.specs.declared.instructions.BranchKind.{BranchKind}
use Rattle.rv32im.specs.declared.instructions.ImmKind.TheVariants.{Addi}
use Rattle.flat_machine.specs.declared.events.FlatEvent.{FlatEvent}
use Rattle.flat_machine.specs.Lines.{fetch_of}
use Rattle.flat_machine.specs.State.{State}
use Rattle.cell_values.specs.Operations.{op_imm}
use Rattle.cell_values.specs.Comparisons.{compare}
use Rattle.cell_values.specs.declared.values.Val.{Val}
use Rattle.cell_values.specs.declared.values.Val.TheVariants.{Int}
use Rattle.cell_values.specs.Origins.{ByAuipc}
use Rattle.cell_values.specs.Cells.{put_at}
use Rattle.cell_values.specs.Stands.{Stands}
use Rattle.cell_values.proofs.Branches.{comparisons_stand}
use Rattle.object_machine.specs.Program.{Program, Target}
use Rattle.object_machine.specs.State.{SourceState, value, wrote, faulted}
use Rattle.object_machine.specs.Flow.{jumps, jumps_by, branches}
use Rattle.object_machine.specs.Step.{Reads, acts, next_state}
use Rattle.object_machine.specs.Paired.{Origins, origins_after}
use Rattle.simulation.specs.Setups.{Setup}
use Rattle.simulation.specs.Relation.{LeadsTold}
use Rattle.simulation.specs.Forms.{RunsFor, IsRowKind, home_of}
use Rattle.simulation.proofs.OneUnit.{Before}
use Rattle.simulation.proofs.Steps.{WritesAt, Operand, reads_on, one_read, first_read, second_read, one_written, none_written, put_other, with_writes, faults_both}
use Rattle.simulation.proofs.Effects.{no_writes, falls_so, jumps_so, lands_so}

-- what words run for the instruction `i` of the unit where the other machine is
module _ (p : Program) (l : Setup) (live arrive : ℕ → ℕ → Type 0) (tells : List FlatEvent → Type 0) (r : ℕ) (s : SourceState) (m : Origins) (t : State) (before : Before p l live r s m t) (single : p.is_pair s.pc ≡ false) (below : s.pc + 4 < 4294967296) where
  -- they lead on
  abbrev pub RunLeads : Instr → Type 0
  RunLeads i =
      Reads (p.word s.pc) (Some i) → (run : RunsFor p live arrive s.pc t i) → tells (map (fetch_of t.hart.mem) run.fetched)
      → LeadsTold tells p l live arrive r (next_state p s (Some i)) (origins_after p s m (Some i)) t

  -- they write what the instruction writes at home
  wrote_at : (i : Instr) (run : RunsFor p live arrive s.pc t i) (v rd w : ℕ) → (home_of s.pc t i).pc ≡ v → WritesAt (live v) rd w t.hart.regs (home_of s.pc t i).regs → WritesAt (live v) rd w t.hart.regs run.regs
  wrote_at i run v rd w at home =
      let alike : (k : ℕ) → live v k → register run.regs k ≡ register (home_of s.pc t i).regs k =
      subst (λ q. (k : ℕ) → live q k → register run.regs k ≡ register (home_of s.pc t i).regs k) at run.alike in
      record {
        here = λ other lives. alike rd lives ∙ home.here other lives;
        others = λ k lives other. alike k lives ∙ home.others k lives other;
      }

  next_pc : plus s.pc 4 ≡ s.pc + 4
  next_pc = omega arith

  -- ---- AUIPC
  auipc_runs : (rd n : ℕ) → p.site s.pc ≡ None → RunLeads (Auipc rd n)
  auipc_runs rd n none reads run told =
      let i : Instr = Auipc rd n in
      let w : ℕ = plus s.pc (n * 4096) in
      falls_so p l live arrive tells r s m t i before single reads rd w (Int w) (put_at m.regs rd (ByAuipc s.pc))
      (map (fetch_of t.hart.mem) run.fetched) run.regs run.to run.ran told (one_written rd)
      (put_other m.regs rd (ByAuipc s.pc)) refl refl (omega arith) (ap (λ q. acts p s i q) none)
      (wrote_at i run (s.pc + 4) rd w next_pc (with_writes (live (s.pc + 4)) t.hart.regs rd w))
      (λ falls. subst (λ v. arrive v run.to) next_pc (run.arrives (next_pc, falls)))

  -- ---- branches

  -- one of which is known whether it is taken, and so where both machines go
  branch_known : (kind : BranchKind) (rs1 rs2 : ℕ) (off : ℤ) → Reads (p.word s.pc) (Some (Branch kind rs1 rs2 off)) → (run : RunsFor p live arrive s.pc t (Branch kind rs1 rs2 off)) → tells (map (fetch_of t.hart.mem) run.fetched) → Operand p l r rs1 s m t → Operand p l r rs2 s m t → (taken : Bool) (v : ℕ) → compare p.objects kind (value s.regs rs1) (value s.regs rs2) ≡ Some taken → branches p s off (Some taken) ≡ jumps p s v s → (if taken then offset s.pc off else plus s.pc 4) ≡ v → LeadsTold tells p l live arrive r (next_state p s (Some (Branch kind rs1 rs2 off))) (origins_after p s m (Some (Branch kind rs1 rs2 off))) t
  branch_known kind rs1 rs2 off reads run told first second taken v known leads lands =
      let i : Instr = Branch kind rs1 rs2 off in
      let alike : is_taken kind (register t.hart.regs rs1) (register t.hart.regs rs2) ≡ taken =
      comparisons_stand p.objects (l.place r) (l.upper r) before.sound.fit kind (m.regs rs1) (m.regs rs2)
      (value s.regs rs1) (value s.regs rs2) (register t.hart.regs rs1) (register t.hart.regs rs2) taken first.holds
      second.holds known first.stands second.stands in
      let same : (home_of s.pc t i).pc ≡ v = rw alike lands in
      jumps_so p l live arrive tells r s m t i before single reads 0 0 (Int 0) m.regs (map (fetch_of t.hart.mem) run.fetched)
      run.regs run.to run.ran told (λ k has. absurd (none_written k has)) (λ k other. refl) refl refl (omega arith) v
      (ap (branches p s off) known ∙ leads)
      (wrote_at i run v 0 0 same (no_writes (live v) t.hart.regs))
      (subst (λ q. p.is_block q ≡ true → arrive q run.to) same run.arrives)

  branch_by : (kind : BranchKind) (rs1 rs2 : ℕ) (off : ℤ) → Reads (p.word s.pc) (Some (Branch kind rs1 rs2 off)) → (run : RunsFor p live arrive s.pc t (Branch kind rs1 rs2 off)) → tells (map (fetch_of t.hart.mem) run.fetched) → Operand p l r rs1 s m t → Operand p l r rs2 s m t → (known : Option Bool) → compare p.objects kind (value s.regs rs1) (value s.regs rs2) ≡ known → LeadsTold tells p l live arrive r (next_state p s (Some (Branch kind rs1 rs2 off))) (origins_after p s m (Some (Branch kind rs1 rs2 off))) t
  branch_by kind rs1 rs2 off reads run told first second None known =
      faults_both p l live arrive tells r s m t (Branch kind rs1 rs2 off) before single reads 7 (ap (branches p s off) known)
  branch_by kind rs1 rs2 off reads run told first second (Some true) known =
      branch_known kind rs1 rs2 off reads run told first second true (offset s.pc off) known refl refl
  branch_by kind rs1 rs2 off reads run told first second (Some false) known =
      branch_known kind rs1 rs2 off reads run told first second false (s.pc + 4) known refl next_pc

  branch_runs : (kind : BranchKind) (rs1 rs2 : ℕ) (off : ℤ) → RunLeads (Branch kind rs1 rs2 off)
  branch_runs kind rs1 rs2 off reads run told =
      let i : Instr = Branch kind rs1 rs2 off in
      branch_by kind rs1 rs2 off reads run told (reads_on p l live r s m t i before single reads rs1 (first_read rs1 rs2))
      (reads_on p l live r s m t i before single reads rs2 (second_read rs1 rs2))
      (compare p.objects kind (value s.regs rs1) (value s.regs rs2)) refl

  -- ---- jumps

  jal_runs : (rd : ℕ) (off : ℤ) → RunLeads (Jal rd off)
  jal_runs rd off reads run told =
      let i : Instr = Jal rd off in
      let v : ℕ = offset s.pc off in
      let w : ℕ = plus s.pc 4 in
      jumps_so p l live arrive tells r s m t i before single reads rd w (Int (s.pc + 4)) m.regs
      (map (fetch_of t.hart.mem) run.fetched) run.regs run.to run.ran told (one_written rd) (λ k other. refl) refl next_pc
      below v refl (wrote_at i run v rd w refl (with_writes (live v) t.hart.regs rd w)) run.arrives

  jalr_by : (rd rs1 : ℕ) (imm : ℤ) → Reads (p.word s.pc) (Some (Jalr rd rs1 imm)) → (run : RunsFor p live arrive s.pc t (Jalr rd rs1 imm)) → tells (map (fetch_of t.hart.mem) run.fetched) → (x : Val) → value s.regs rs1 ≡ x → Stands p.objects (l.place r) (l.upper r) (m.regs rs1) x (register t.hart.regs rs1) → LeadsTold tells p l live arrive r (next_state p s (Some (Jalr rd rs1 imm))) (origins_after p s m (Some (Jalr rd rs1 imm))) t
  jalr_by rd rs1 imm reads run told (Int n) known is =
      let i : Instr = Jalr rd rs1 imm in
      let v : ℕ = offset n imm / 2 * 2 in
      let w : ℕ = plus s.pc 4 in
      let same : (home_of s.pc t i).pc ≡ v = ap (λ a. offset a imm / 2 * 2) is in
      let effect = ap (λ y. jumps_by p s (op_imm p.objects Addi y imm) (wrote s rd (Int (s.pc + 4)))) known in
      cond_both (p.is_reached v) (record (wrote s rd (Int (s.pc + 4))) { pc = v }) (faulted s 6)
      (λ n. acts p s i (p.site s.pc) ≡ n → LeadsTold tells p l live arrive r (next_state p s (Some i)) (origins_after p s m (Some i)) t)
      (λ reached goes.
      lands_so p l live arrive tells r s m t i before single reads rd w (Int (s.pc + 4)) m.regs
      (map (fetch_of t.hart.mem) run.fetched) run.regs run.to run.ran told (one_written rd) (λ k other. refl) refl next_pc
      below v goes (wrote_at i run v rd w same (with_writes (live v) t.hart.regs rd w))
      (subst (λ q. p.is_reached q ≡ true → arrive q run.to) same run.arrives reached))
      (λ other goes. faults_both p l live arrive tells r s m t i before single reads 6 goes) effect
  jalr_by rd rs1 imm reads run told x known is =
      faults_both p l live arrive tells r s m t (Jalr rd rs1 imm) before single reads 6
      (ap (λ y. jumps_by p s (op_imm p.objects Addi y imm) (wrote s rd (Int (s.pc + 4)))) known)

  jalr_runs : (rd rs1 : ℕ) (imm : ℤ) → RunLeads (Jalr rd rs1 imm)
  jalr_runs rd rs1 imm reads run told =
      let base = reads_on p l live r s m t (Jalr rd rs1 imm) before single reads rs1 (one_read rs1) in
      jalr_by rd rs1 imm reads run told (value s.regs rs1) refl base.stands

  -- ---- all of these kinds

  auipc_none : (rd n : ℕ) (site : Option Target) → p.site s.pc ≡ site → IsRowKind (Auipc rd n) site → p.site s.pc ≡ None
  auipc_none rd n None at kind = at
  auipc_none rd n (Some g) at kind = absurd kind

  pub run_leads : (i : Instr) → IsRowKind i (p.site s.pc) → RunLeads i
  run_leads (Auipc rd n) kind = auipc_runs rd n (auipc_none rd n (p.site s.pc) refl kind)
  run_leads (Jal rd off) kind = jal_runs rd off
  run_leads (Jalr rd rs1 imm) kind = jalr_runs rd rs1 imm
  run_leads (Branch kind rs1 rs2 off) row = branch_runs kind rs1 rs2 off
  run_leads (Lui rd n) kind = absurd kind
  run_leads (Load kind rd rs1 imm) row = absurd row
  run_leads (Store kind rs1 rs2 imm) row = absurd row
  run_leads (OpImm kind rd rs1 imm) row = absurd row
  run_leads (OpReg kind rd rs1 rs2) row = absurd row
  run_leads (Fence bits) kind = absurd kind
  run_leads (FenceI bits) kind = absurd kind
  run_leads Ecall kind = absurd kind
  run_leads Ebreak kind = absurd kind
