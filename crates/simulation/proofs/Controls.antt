-- One word that stands for a branch, a jump or an AUIPC that is no site; and what traps.
use Rattle.std.proofs.Common.{◌≡◌, inl, inr, ℕ, ◌+◌, ◌*◌, ◌<◌, ◌/◌, Bool, true, false, if◌then◌else◌, List, [], ◌∷◌, Some, None, ℤ, refl, sym, ap, subst, arith}
use Rattle.rv32im.specs.Words.{plus, offset}
use Rattle.rv32im.specs.Table.{Means}
use Rattle.rv32im.specs.Acts.{Registers, register, with_register, is_taken, acts}
use Rattle.rv32im.specs.declared.instructions.Instr.{Instr}
use Rattle.rv32im.specs.declared.instructions.Instr.TheVariants.{Auipc, Jal, Jalr, Branch, Ebreak}
use Rattle.rv32im.specs.declared.instructions.BranchKind.{BranchKind}
use Rattle.flat_machine.specs.declared.events.FlatEvent.{FlatEvent}
use Rattle.flat_machine.specs.Lines.{Ran, fetch_of}
use Rattle.flat_machine.specs.State.{State, trap}
use Rattle.flat_machine.proofs.SilentLines.{IsSilent, one_ran}
use Rattle.object_machine.specs.Program.{Program}
use Rattle.object_machine.specs.State.{SourceState, trapped}
use Rattle.object_machine.specs.Step.{Reads, next_state}
use Rattle.object_machine.specs.Paired.{Origins, origins_after}
use Rattle.simulation.specs.Setups.{Setup}
use Rattle.simulation.specs.Units.{StandsAt}
use Rattle.simulation.specs.Relation.{LeadsTold}
use Rattle.simulation.specs.Forms.{BlockAt, ReachedAt, LinksAt, ActsFor, RunsFor, IsRowKind, IsAt}
use Rattle.simulation.proofs.OneUnit.{StepPremises, StepsOn, StepsAs}
use Rattle.simulation.proofs.Steps.{acts_leads, performs_leads, leads_does, fetched_at, fetches_nothing, is_at, falls_home}
use Rattle.simulation.proofs.Effects.{itself}
use Rattle.simulation.proofs.Jumps.{run_leads}

-- one word is fetched, makes no access, and goes on
pub word_runs : (l : Setup) (r a w : ℕ) (t : State) (j : Instr) (to : ℕ) → IsAt l r a t → StandsAt l r a w → Means w j → IsSilent j → (acts j t.hart).pc ≡ to → Ran t (a ∷ []) (acts j t.hart).regs to
word_runs l r a w t j to here stands means silent goes =
    one_ran t j a to here.going here.at (fetched_at l r a w t here stands j means) silent goes

-- a way back is linked at home, or nowhere
linked_so : (u a rd : ℕ) (f : Registers) (k : ℕ) → LinksAt u a rd → register (with_register f rd (plus a 4)) k ≡ register (with_register f rd (plus u 4)) k
linked_so u a rd f k (inl none) =
    subst (λ q. register (with_register f q (plus a 4)) k ≡ register (with_register f q (plus u 4)) k) (sym none) refl
linked_so u a rd f k (inr same) = ap (λ q. register (with_register f rd (plus q 4)) k) same

-- ---- what one word runs for

module _ (p : Program) (l : Setup) (live arrive : ℕ → ℕ → Type 0) (r u : ℕ) (t : State) (here : IsAt l r t.hart.pc t) (w : ℕ) (stands : StandsAt l r t.hart.pc w) where
  pub auipc_word : (rd n : ℕ) → Means w (Auipc rd n) → t.hart.pc ≡ u → (p.falls u ≡ true → arrive (u + 4) (plus t.hart.pc 4)) → RunsFor p live arrive u t (Auipc rd n)
  auipc_word rd n means at falls = record {
    fetched = t.hart.pc ∷ [];
    regs = with_register t.hart.regs rd (plus t.hart.pc (n * 4096));
    to = plus t.hart.pc 4;
    some = omega arith;
    few = omega arith;
    ran = word_runs l r t.hart.pc w t (Auipc rd n) _ here stands means tt refl;
    alike = λ k lives. ap (λ q. register (with_register t.hart.regs rd (plus q (n * 4096))) k) at;
    arrives = λ comes. subst (λ v. arrive v (plus t.hart.pc 4)) (sym comes.0) (falls comes.1);
  }

  pub jal_word : (rd : ℕ) (off z : ℤ) → Means w (Jal rd z) → LinksAt u t.hart.pc rd → BlockAt p arrive (offset u off) (offset t.hart.pc z) → RunsFor p live arrive u t (Jal rd off)
  jal_word rd off z means links block = record {
    fetched = t.hart.pc ∷ [];
    regs = with_register t.hart.regs rd (plus t.hart.pc 4);
    to = offset t.hart.pc z;
    some = omega arith;
    few = omega arith;
    ran = word_runs l r t.hart.pc w t (Jal rd z) _ here stands means tt refl;
    alike = λ k lives. linked_so u t.hart.pc rd t.hart.regs k links;
    arrives = block;
  }

  pub jalr_word : (rd rs1 : ℕ) (imm : ℤ) → Means w (Jalr rd rs1 imm) → LinksAt u t.hart.pc rd → ReachedAt p arrive → RunsFor p live arrive u t (Jalr rd rs1 imm)
  jalr_word rd rs1 imm means links reached = record {
    fetched = t.hart.pc ∷ [];
    regs = with_register t.hart.regs rd (plus t.hart.pc 4);
    to = offset (register t.hart.regs rs1) imm / 2 * 2;
    some = omega arith;
    few = omega arith;
    ran = word_runs l r t.hart.pc w t (Jalr rd rs1 imm) _ here stands means tt refl;
    alike = λ k lives. linked_so u t.hart.pc rd t.hart.regs k links;
    arrives = reached (offset (register t.hart.regs rs1) imm / 2 * 2);
  }

  taken_or : (taken : Bool) (off z : ℤ) → u + 4 < 4294967296 → BlockAt p arrive (offset u off) (offset t.hart.pc z) → BlockAt p arrive (u + 4) (plus t.hart.pc 4) → BlockAt p arrive (if taken then offset u off else plus u 4) (if taken then offset t.hart.pc z else plus t.hart.pc 4)
  taken_or true off z below goes falls = goes
  taken_or false off z below goes falls =
      let next : u + 4 ≡ plus u 4 = omega arith in subst (λ v. BlockAt p arrive v (plus t.hart.pc 4)) next falls

  pub branch_word : (kind : BranchKind) (rs1 rs2 : ℕ) (off z : ℤ) → u + 4 < 4294967296 → Means w (Branch kind rs1 rs2 z) → BlockAt p arrive (offset u off) (offset t.hart.pc z) → BlockAt p arrive (u + 4) (plus t.hart.pc 4) → RunsFor p live arrive u t (Branch kind rs1 rs2 off)
  branch_word kind rs1 rs2 off z below means goes falls =
      let taken = is_taken kind (register t.hart.regs rs1) (register t.hart.regs rs2) in
      record {
        fetched = t.hart.pc ∷ [];
        regs = t.hart.regs;
        to = if taken then offset t.hart.pc z else plus t.hart.pc 4;
        some = omega arith;
        few = omega arith;
        ran = word_runs l r t.hart.pc w t (Branch kind rs1 rs2 z) _ here stands means tt refl;
        alike = λ k lives. refl;
        arrives = taken_or taken off z below goes falls;
      }

-- ---- the units

module _ (p : Program) (l : Setup) (live arrive : ℕ → ℕ → Type 0) (tells : List FlatEvent → Type 0) (r : ℕ) (s : SourceState) (m : Origins) (t : State) where
  here : StepPremises p l live arrive tells r s m t → IsAt l r t.hart.pc t
  here premises = is_at p l live r s.pc s m t premises.before.alike

  told_here : StepPremises p l live arrive tells r s m t → p.is_pair s.pc ≡ false → (f : Registers) (c : ℕ) → Ran t (t.hart.pc ∷ []) f c → tells (fetch_of t.hart.mem t.hart.pc ∷ [])
  told_here premises single f c ran = premises.told.one single (fetch_of t.hart.mem t.hart.pc) ran.0 ran.1.0

  pub auipc_none : (rd n : ℕ) → p.site s.pc ≡ None → StepPremises p l live arrive tells r s m t → p.is_pair s.pc ≡ false → Reads (p.word s.pc) (Some (Auipc rd n)) → (code : ℕ) → StandsAt l r t.hart.pc code → Means code (Auipc rd n) → t.hart.pc ≡ s.pc → LeadsTold tells p l live arrive r (next_state p s (Some (Auipc rd n))) (origins_after p s m (Some (Auipc rd n))) t
  unfolding auipc_word
  auipc_none rd n none premises single reads code stands means at =
      let i : Instr = Auipc rd n in
      let run : RunsFor p live arrive s.pc t i =
      auipc_word p l live arrive r s.pc t (here premises) code stands rd n means at
      (falls_home p l live arrive tells r s m t i premises single reads tt) in
      run_leads p l live arrive tells r s m t premises.before single premises.unit.below i
      (subst (IsRowKind i) (sym none) tt) reads run (told_here premises single run.regs run.to run.ran)

  pub jal_steps : (rd : ℕ) (off : ℤ) → StepsAs p l live arrive tells r s m t (Jal rd off)
  unfolding jal_word
  jal_steps rd off single premises reads paired =
      let i : Instr = Jal rd off in
      let there = premises.unit.one (Some i) single reads in
      let for =
      itself p l arrive r s.pc t.hart.pc i (ActsFor p arrive s.pc t.hart.pc i) (λ j e. e) (λ g j e. e) (p.site s.pc) there.1.0
      there.1.1.1.1.1 in
      let means : Means there.0 (Jal rd for.0) = subst (λ y. Means there.0 y) for.1.0 there.1.1.1.0 in
      let run : RunsFor p live arrive s.pc t i =
      jal_word p l live arrive r s.pc t (here premises) there.0 there.1.1.0 rd off for.0 means for.1.1.0 for.1.1.1 in
      run_leads p l live arrive tells r s m t premises.before single premises.unit.below i tt reads run
      (told_here premises single run.regs run.to run.ran)

  pub jalr_steps : (rd rs1 : ℕ) (imm : ℤ) → StepsAs p l live arrive tells r s m t (Jalr rd rs1 imm)
  unfolding jalr_word
  jalr_steps rd rs1 imm single premises reads paired =
      let i : Instr = Jalr rd rs1 imm in
      let there = premises.unit.one (Some i) single reads in
      let for =
      itself p l arrive r s.pc t.hart.pc i (ActsFor p arrive s.pc t.hart.pc i) (λ j e. e) (λ g j e. e) (p.site s.pc) there.1.0
      there.1.1.1.1.1 in
      let means : Means there.0 i = subst (λ y. Means there.0 y) for.0 there.1.1.1.0 in
      let run : RunsFor p live arrive s.pc t i =
      jalr_word p l live arrive r s.pc t (here premises) there.0 there.1.1.0 rd rs1 imm means for.1.0 for.1.1 in
      run_leads p l live arrive tells r s m t premises.before single premises.unit.below i tt reads run
      (told_here premises single run.regs run.to run.ran)

  pub branch_steps : (kind : BranchKind) (rs1 rs2 : ℕ) (off : ℤ) → StepsAs p l live arrive tells r s m t (Branch kind rs1 rs2 off)
  unfolding branch_word
  branch_steps kind rs1 rs2 off single premises reads paired =
      let i : Instr = Branch kind rs1 rs2 off in
      let there = premises.unit.one (Some i) single reads in
      let for =
      itself p l arrive r s.pc t.hart.pc i (ActsFor p arrive s.pc t.hart.pc i) (λ j e. e) (λ g j e. e) (p.site s.pc) there.1.0
      there.1.1.1.1.1 in
      let means : Means there.0 (Branch kind rs1 rs2 for.0) = subst (λ y. Means there.0 y) for.1.0 there.1.1.1.0 in
      let run : RunsFor p live arrive s.pc t i =
      branch_word p l live arrive r s.pc t (here premises) there.0 there.1.1.0 kind rs1 rs2 off for.0 premises.unit.below
      means for.1.1.0 for.1.1.1 in
      run_leads p l live arrive tells r s m t premises.before single premises.unit.below i tt reads run
      (told_here premises single run.regs run.to run.ran)

  -- ---- what traps

  pub ebreak_steps : StepsAs p l live arrive tells r s m t Ebreak
  ebreak_steps single premises reads paired =
      let there = premises.unit.one (Some Ebreak) single reads in
      let same =
      itself p l arrive r s.pc t.hart.pc Ebreak (λ j. j ≡ Ebreak) (λ j e. e) (λ g j e. e) (p.site s.pc) there.1.0 there.1.1.1.1.1 in
      let means : Means there.0 Ebreak = subst (λ y. Means there.0 y) same there.1.1.1.0 in
      acts_leads p l live arrive tells r s m t Ebreak premises.before single reads
      (performs_leads p l live arrive tells r s m t Ebreak premises single reads there.0 Ebreak (trapped s) m there.1.1.0 means
      ((t.hart.pc, refl), premises.before.alike.output))

  pub nothing_steps : p.is_pair s.pc ≡ false → StepsOn p l live arrive tells r s m t None
  nothing_steps single premises reads paired =
      let there = premises.unit.one None single reads in
      let fetched = fetches_nothing l r t.hart.pc there.0 t (here premises) there.1.0 there.1.1 in
      let leads : LeadsTold tells p l live arrive r (trapped s) m t =
      leads_does p l live arrive tells r t (trapped s) m (fetched.0 ∷ []) (trap t) (trap t, (fetched.1, refl))
      (premises.told.one single fetched.0 (trap t) fetched.1) ((t.hart.pc, refl), premises.before.alike.output) in
      rw single leads
