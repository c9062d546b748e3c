-- Instructions that make a number or the upper part of an address: LUI and AUIPC.
use Rattle.std.proofs.Common.{◌≡◌, inl, inr, ℕ, ◌*◌, ◌%◌, false, List, Option, Some, None, refl, ap, subst, arith, ◌+◌}
use Rattle.rv32im.specs.Words.{plus}
use Rattle.rv32im.specs.Table.{Means}
use Rattle.rv32im.specs.Acts.{with_register}
use Rattle.rv32im.specs.declared.instructions.Instr.{Instr}
use Rattle.rv32im.specs.declared.instructions.Instr.TheVariants.{Lui, Auipc}
use Rattle.flat_machine.specs.declared.events.FlatEvent.{FlatEvent}
use Rattle.flat_machine.specs.Lines.{went}
use Rattle.flat_machine.specs.State.{State}
use Rattle.flat_machine.specs.Step.{performed}
use Rattle.cell_values.specs.declared.values.Val.TheVariants.{Int, Hi}
use Rattle.cell_values.specs.Origins.{ByLui, ByAuipc}
use Rattle.cell_values.specs.Stands.{Stands}
use Rattle.cell_values.specs.Cells.{put_at}
use Rattle.object_machine.specs.Program.{Program, Target}
use Rattle.object_machine.specs.State.{SourceState}
use Rattle.object_machine.specs.Step.{Reads, acts, next_state}
use Rattle.object_machine.specs.Paired.{Origins, origins_after}
use Rattle.simulation.specs.Setups.{Setup}
use Rattle.simulation.specs.Units.{StandsAt}
use Rattle.simulation.specs.Relation.{LeadsTold}
use Rattle.simulation.specs.Forms.{ActsAs}
use Rattle.simulation.proofs.OneUnit.{StepPremises, StepsAs}
use Rattle.simulation.proofs.Steps.{with_writes, put_there, put_other, one_written}
use Rattle.simulation.proofs.Effects.{falls_both}
use Rattle.simulation.proofs.Controls.{auipc_none}

module _ (p : Program) (l : Setup) (live arrive : ℕ → ℕ → Type 0) (tells : List FlatEvent → Type 0) (r : ℕ) (s : SourceState) (m : Origins) (t : State) where
  lui_at : (rd n : ℕ) → StepPremises p l live arrive tells r s m t → p.is_pair s.pc ≡ false → Reads (p.word s.pc) (Some (Lui rd n)) → (site : Option Target) → p.site s.pc ≡ site → (code : ℕ) (j : Instr) → StandsAt l r t.hart.pc code → Means code j → ActsAs p l arrive r s.pc t.hart.pc site (Lui rd n) j → LeadsTold tells p l live arrive r (next_state p s (Some (Lui rd n))) (origins_after p s m (Some (Lui rd n))) t
  lui_at rd n premises single reads None at code j stands means for =
      let means : Means code (Lui rd n) = subst (λ y. Means code y) for means in
      falls_both p l live arrive tells r s m t (Lui rd n) premises single reads tt rd (n * 4096 % 4294967296) (Int (n * 4096 % 4294967296))
      (put_at m.regs rd ByLui) code (Lui rd n) (with_register t.hart.regs rd (n * 4096 % 4294967296)) (one_written rd)
      (put_other m.regs rd ByLui) refl stands means (with_writes (live (s.pc + 4)) t.hart.regs rd (n * 4096 % 4294967296)) refl (omega arith)
      (ap (λ q. acts p s (Lui rd n) q) at) refl
  lui_at rd n premises single reads (Some g) at code j stands means for =
      let z = for.0 in
      let means : Means code (Lui rd z) = subst (λ y. Means code y) for.1.0 means in
      let is : Stands p.objects (l.place r) (l.upper r) (put_at m.regs rd ByLui rd) (Hi g.object g.offset) (z * 4096 % 4294967296) =
      rw (put_there m.regs rd ByLui) for.1.1 in
      falls_both p l live arrive tells r s m t (Lui rd n) premises single reads tt rd (z * 4096 % 4294967296) (Hi g.object g.offset)
      (put_at m.regs rd ByLui) code (Lui rd z) (with_register t.hart.regs rd (z * 4096 % 4294967296)) (one_written rd)
      (put_other m.regs rd ByLui) refl stands means (with_writes (live (s.pc + 4)) t.hart.regs rd (z * 4096 % 4294967296)) is
      (premises.before.sound.sites s.pc g at) (ap (λ q. acts p s (Lui rd n) q) at) refl

  pub lui_steps : (rd n : ℕ) → StepsAs p l live arrive tells r s m t (Lui rd n)
  lui_steps rd n single premises reads paired =
      let there = premises.unit.one (Some (Lui rd n)) single reads in
      lui_at rd n premises single reads (p.site s.pc) refl there.0 there.1.0 there.1.1.0 there.1.1.1.0 there.1.1.1.1.1

  -- where one word makes the upper part of an address
  auipc_made : (rd n : ℕ) → StepPremises p l live arrive tells r s m t → p.is_pair s.pc ≡ false → Reads (p.word s.pc) (Some (Auipc rd n)) → (g : Target) → p.site s.pc ≡ Some g → (code : ℕ) (j : Instr) (w : ℕ) → StandsAt l r t.hart.pc code → Means code j → Stands p.objects (l.place r) (l.upper r) (ByAuipc s.pc) (Hi g.object g.offset) w → performed t j ≡ went t (with_register t.hart.regs rd w) (plus t.hart.pc 4) → LeadsTold tells p l live arrive r (next_state p s (Some (Auipc rd n))) (origins_after p s m (Some (Auipc rd n))) t
  auipc_made rd n premises single reads g at code j w stands means here does =
      let is : Stands p.objects (l.place r) (l.upper r) (put_at m.regs rd (ByAuipc s.pc) rd) (Hi g.object g.offset) w =
      rw (put_there m.regs rd (ByAuipc s.pc)) here in
      falls_both p l live arrive tells r s m t (Auipc rd n) premises single reads tt rd w (Hi g.object g.offset)
      (put_at m.regs rd (ByAuipc s.pc)) code j (with_register t.hart.regs rd w) (one_written rd)
      (put_other m.regs rd (ByAuipc s.pc)) refl stands means (with_writes (live (s.pc + 4)) t.hart.regs rd w) is
      (premises.before.sound.sites s.pc g at) (ap (λ q. acts p s (Auipc rd n) q) at) does

  auipc_at : (rd n : ℕ) → StepPremises p l live arrive tells r s m t → p.is_pair s.pc ≡ false → Reads (p.word s.pc) (Some (Auipc rd n)) → (site : Option Target) → p.site s.pc ≡ site → (code : ℕ) (j : Instr) → StandsAt l r t.hart.pc code → Means code j → ActsAs p l arrive r s.pc t.hart.pc site (Auipc rd n) j → LeadsTold tells p l live arrive r (next_state p s (Some (Auipc rd n))) (origins_after p s m (Some (Auipc rd n))) t
  auipc_at rd n premises single reads None at code j stands means for =
      auipc_none p l live arrive tells r s m t rd n at premises single reads code stands
      (subst (λ y. Means code y) for.0 means) for.1
  auipc_at rd n premises single reads (Some g) at code j stands means (inl for) =
      auipc_made rd n premises single reads g at code (Auipc rd for.0) (plus t.hart.pc (for.0 * 4096)) stands
      (subst (λ y. Means code y) for.1.0 means) for.1.1 refl
  auipc_at rd n premises single reads (Some g) at code j stands means (inr for) =
      auipc_made rd n premises single reads g at code (Lui rd for.0) (for.0 * 4096 % 4294967296) stands
      (subst (λ y. Means code y) for.1.0 means) for.1.1 refl

  pub auipc_steps : (rd n : ℕ) → StepsAs p l live arrive tells r s m t (Auipc rd n)
  auipc_steps rd n single premises reads paired =
      let there = premises.unit.one (Some (Auipc rd n)) single reads in
      auipc_at rd n premises single reads (p.site s.pc) refl there.0 there.1.0 there.1.1.0 there.1.1.1.0 there.1.1.1.1.1
