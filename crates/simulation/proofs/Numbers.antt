-- Operations on registers and immediates, and fences.
use Rattle.std.proofs.Common.{◌≡◌, ℕ, true, false, not, ◌&&◌, List, Option, Some, None, ℤ, refl, ap, subst, arith, ◌+◌}
use Rattle.list_checks.proofs.TestLemmas.{both, not_true}
use Rattle.std.specs.Prelude.{Contains}
use Rattle.rv32im.specs.Words.{plus, offset}
use Rattle.rv32im.specs.Table.{Means, IsImmInRange}
use Rattle.rv32im.specs.Acts.{register, with_register, imm_value, reg_value, defined}
use Rattle.rv32im.specs.declared.instructions.Instr.{Instr}
use Rattle.rv32im.specs.declared.instructions.Instr.TheVariants.{OpImm, OpReg, Fence, FenceI}
use Rattle.rv32im.specs.declared.instructions.ImmKind.{ImmKind}
use Rattle.rv32im.specs.declared.instructions.ImmKind.TheVariants.{Addi}
use Rattle.rv32im.specs.declared.instructions.RegKind.{RegKind}
use Rattle.rv32im.proofs.WordLemmas.{keeps_words}
use Rattle.rv32im.proofs.WordLemmas.{imm_fits}
use Rattle.flat_machine.specs.declared.events.FlatEvent.{FlatEvent}
use Rattle.flat_machine.specs.Lines.{went}
use Rattle.flat_machine.specs.State.{State}
use Rattle.flat_machine.specs.Step.{performed}
use Rattle.rv32im.specs.Operations.{operation_of}
use Rattle.cell_values.specs.Operations.{op_imm, op_reg, low_site}
use Rattle.cell_values.specs.declared.values.Val.TheVariants.{Int}
use Rattle.cell_values.proofs.Words.{operations_keep}
use Rattle.cell_values.specs.Origins.{ByLui, takes_low}
use Rattle.cell_values.proofs.OperationWords.{operations_stand}
use Rattle.cell_values.proofs.ImmediateWords.{immediates_stand}
use Rattle.cell_values.proofs.Keeps.{sites_keep_words}
use Rattle.object_machine.specs.Program.{Program, Target}
use Rattle.object_machine.specs.State.{SourceState, value, wrote}
use Rattle.object_machine.specs.Flow.{falls_on}
use Rattle.object_machine.specs.Step.{Reads, acts, next_state}
use Rattle.object_machine.specs.Paired.{Origins, origins_by, origins_after, finds_named, is_paired_site, uses_base}
use Rattle.simulation.specs.Setups.{Setup}
use Rattle.simulation.specs.Units.{StandsAt}
use Rattle.simulation.specs.Relation.{LeadsTold}
use Rattle.simulation.specs.Forms.{ActsFor, ActsAs, IsFollowed}
use Rattle.simulation.proofs.OneUnit.{StepPremises, StepsAs}
use Rattle.simulation.proofs.Steps.{Operand, reads_on, one_read, first_read, second_read, one_written, none_written, paired_by, with_writes}
use Rattle.simulation.proofs.Effects.{itself, no_writes, falls_both}

module _ (p : Program) (l : Setup) (live arrive : ℕ → ℕ → Type 0) (tells : List FlatEvent → Type 0) (r : ℕ) (s : SourceState) (m : Origins) (t : State) where
  imm_at : (kind : ImmKind) (rd rs1 : ℕ) (imm : ℤ) → StepPremises p l live arrive tells r s m t → p.is_pair s.pc ≡ false → Reads (p.word s.pc) (Some (OpImm kind rd rs1 imm)) → Operand p l r rs1 s m t → IsImmInRange kind imm → (site : Option Target) → p.site s.pc ≡ site → (code : ℕ) (j : Instr) → StandsAt l r t.hart.pc code → Means code j → ActsAs p l arrive r s.pc t.hart.pc site (OpImm kind rd rs1 imm) j → is_paired_site p s m rs1 site && not (uses_base p s m (operation_of kind) rs1 site) ≡ true → LeadsTold tells p l live arrive r (next_state p s (Some (OpImm kind rd rs1 imm))) (origins_after p s m (Some (OpImm kind rd rs1 imm))) t
  imm_at kind rd rs1 imm premises single reads operand range None at code j stands means for paired =
      let here : Means code (OpImm kind rd rs1 imm) = subst (λ y. Means code y) for means in
      let disjoint : takes_low p.objects (operation_of kind) (m.regs rs1) (value s.regs rs1) ByLui (Int 0) ≡ false =
      not_true (takes_low p.objects (operation_of kind) (m.regs rs1) (value s.regs rs1) ByLui (Int 0)) paired in
      let w : ℕ = imm_value kind (register t.hart.regs rs1) imm in
      let is =
      immediates_stand p.objects (l.place r) (l.upper r) premises.before.sound.fit premises.before.sound.lui kind (m.regs rs1) (m.regs rd)
      (value s.regs rs1) imm (register t.hart.regs rs1) operand.word range disjoint operand.stands in
      let holds =
      (operations_keep keeps_words).1 p.objects kind (value s.regs rs1) imm premises.before.sound.fit.grain operand.holds
      (imm_fits kind imm range) in
      falls_both p l live arrive tells r s m t (OpImm kind rd rs1 imm) premises single reads tt rd w
      (op_imm p.objects kind (value s.regs rs1) imm) m.regs code (OpImm kind rd rs1 imm) (with_register t.hart.regs rd w)
      (one_written rd) (λ k other. refl) refl stands here (with_writes (live (s.pc + 4)) t.hart.regs rd w) is holds
      (ap (λ q. acts p s (OpImm kind rd rs1 imm) q) at) refl
  imm_at kind rd rs1 imm premises single reads operand range (Some g) at code j stands means for paired =
      let z = for.1.0 in
      let here : Means code (OpImm Addi rd rs1 z) = subst (λ y. Means code y) for.1.1.0 means in
      let found = (both (finds_named (p.named s.pc) (m.regs rs1) (value s.regs rs1)) true paired).0 in
      let w : ℕ = offset (register t.hart.regs rs1) z in
      let is =
      for.1.1.1 (m.regs rs1) (m.regs rd) (value s.regs rs1) (register t.hart.regs rs1) operand.word (premises.before.made.regs rs1) found operand.stands in
      let holds = sites_keep_words p.objects (value s.regs rs1) g.object g.offset (premises.before.sound.sites s.pc g at) in
      falls_both p l live arrive tells r s m t (OpImm kind rd rs1 imm) premises single reads tt rd w
      (low_site p.objects (value s.regs rs1) g.object g.offset) m.regs code (OpImm Addi rd rs1 z)
      (with_register t.hart.regs rd w) (one_written rd) (λ k other. refl) refl stands here
      (with_writes (live (s.pc + 4)) t.hart.regs rd w) is holds (ap (λ q. acts p s (OpImm kind rd rs1 imm) q) at) refl

  pub imm_steps : (kind : ImmKind) (rd rs1 : ℕ) (imm : ℤ) → StepsAs p l live arrive tells r s m t (OpImm kind rd rs1 imm)
  imm_steps kind rd rs1 imm single premises reads paired =
      let i : Instr = OpImm kind rd rs1 imm in
      let there = premises.unit.one (Some i) single reads in
      let operand = reads_on p l live r s m t i premises.before single reads rs1 (one_read rs1) in
      imm_at kind rd rs1 imm premises single reads operand there.1.1.1.1.0.2 (p.site s.pc) refl there.0 there.1.0 there.1.1.0
      there.1.1.1.0 there.1.1.1.1.1 (paired_by p s m i single paired)

  pub reg_steps : (kind : RegKind) (rd rs1 rs2 : ℕ) → StepsAs p l live arrive tells r s m t (OpReg kind rd rs1 rs2)
  reg_steps kind rd rs1 rs2 single premises reads paired =
      let i : Instr = OpReg kind rd rs1 rs2 in
      let there = premises.unit.one (Some i) single reads in
      let first = reads_on p l live r s m t i premises.before single reads rs1 (first_read rs1 rs2) in
      let second = reads_on p l live r s m t i premises.before single reads rs2 (second_read rs1 rs2) in
      let same = itself p l arrive r s.pc t.hart.pc i (λ j. j ≡ i) (λ j e. e) (λ g j e. e) (p.site s.pc) there.1.0 there.1.1.1.1.1 in
      let here : Means there.0 i = subst (λ y. Means there.0 y) same there.1.1.1.0 in
      let disjoint =
      not_true (takes_low p.objects kind (m.regs rs1) (value s.regs rs1) (m.regs rs2) (value s.regs rs2))
      (paired_by p s m i single paired) in
      let w : ℕ = reg_value kind (register t.hart.regs rs1) (register t.hart.regs rs2) in
      let is =
      operations_stand p.objects (l.place r) (l.upper r) premises.before.sound.fit premises.before.sound.lui kind (m.regs rs1) (m.regs rs2)
      (m.regs rd) (value s.regs rs1) (value s.regs rs2) (register t.hart.regs rs1) (register t.hart.regs rs2) first.word
      second.word disjoint first.stands second.stands in
      let holds =
      (operations_keep keeps_words).0 p.objects kind (value s.regs rs1) (value s.regs rs2) premises.before.sound.fit.grain
      first.holds second.holds in
      falls_both p l live arrive tells r s m t i premises single reads tt rd w
      (op_reg p.objects kind (value s.regs rs1) (value s.regs rs2)) m.regs there.0 i (with_register t.hart.regs rd w)
      (one_written rd) (λ k other. refl) refl there.1.1.0 here (with_writes (live (s.pc + 4)) t.hart.regs rd w) is holds refl refl

  -- an instruction that stands for itself and writes nothing: both go to the next word
  idle_steps : (i : Instr) → IsFollowed i → ((k : ℕ) → Contains (defined i) k → ⊥)
      → ((j : Instr) → ActsFor p arrive s.pc t.hart.pc i j → j ≡ i)
      → ((g : Target) (j : Instr) → ActsAs p l arrive r s.pc t.hart.pc (Some g) i j → j ≡ i)
      → origins_by p s m i ≡ m
      → acts p s i (p.site s.pc) ≡ falls_on p s (wrote s 0 (Int 0))
      → performed t i ≡ went t t.hart.regs (plus t.hart.pc 4)
      → StepsAs p l live arrive tells r s m t i
  idle_steps i follows none plain sited by effect does single premises reads paired =
      let there = premises.unit.one (Some i) single reads in
      let same = itself p l arrive r s.pc t.hart.pc i (λ j. j ≡ i) plain sited (p.site s.pc) there.1.0 there.1.1.1.1.1 in
      let here : Means there.0 i = subst (λ y. Means there.0 y) same there.1.1.1.0 in
      falls_both p l live arrive tells r s m t i premises single reads follows 0 0 (Int 0) m.regs there.0 i t.hart.regs
      (λ k has. absurd (none k has)) (λ k other. refl) by there.1.1.0 here (no_writes (live (s.pc + 4)) t.hart.regs) refl
      (omega arith) effect does

  pub fence_steps : (bits : ℕ) → StepsAs p l live arrive tells r s m t (Fence bits)
  fence_steps bits = idle_steps (Fence bits) tt (λ k has. none_written k has) (λ j e. e) (λ g j e. e) refl refl refl

  pub fence_i_steps : (bits : ℕ) → StepsAs p l live arrive tells r s m t (FenceI bits)
  fence_i_steps bits = idle_steps (FenceI bits) tt (λ k has. none_written k has) (λ j e. e) (λ g j e. e) refl refl refl
