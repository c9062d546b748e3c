-- Which accesses the words of a unit make: those of the unit, where objects stand.
use Rattle.std.proofs.Common.{◌≡◌, ◌∙◌, inl, inr, ℕ, ◌+◌, ◌<◌, ◌%◌, ◌==◌, Bool, true, false, [], ◌∷◌, Option, Some, None, refl, sym, ap, subst, arith, ℤ}
use Rattle.std.specs.Bool.{MatchBool}
use Rattle.std.proofs.lemmas.Bool.{eqb-true}
use Rattle.list_checks.proofs.TestLemmas.{both}
use Rattle.rv32im.specs.Words.{plus, offset}
use Rattle.rv32im.specs.Memory.{word_at}
use Rattle.rv32im.specs.Acts.{register, load_width, store_width}
use Rattle.rv32im.specs.declared.instructions.Instr.{Instr}
use Rattle.rv32im.specs.declared.instructions.Instr.TheVariants.{Lui, Auipc, Jal, Jalr, Branch, Load, Store, OpImm, OpReg, Fence, FenceI, Ecall, Ebreak}
use Rattle.rv32im.specs.declared.instructions.LoadKind.{LoadKind}
use Rattle.rv32im.specs.declared.instructions.StoreKind.{StoreKind}
use Rattle.rv32im.specs.declared.instructions.ImmKind.TheVariants.{Addi}
use Rattle.rv32im.proofs.Meaning.{same_instruction}
use Rattle.flat_machine.specs.declared.events.FlatEvent.{FlatEvent}
use Rattle.flat_machine.specs.Mapping.{can_access}
use Rattle.flat_machine.specs.State.{State, trap}
use Rattle.flat_machine.specs.Step.{accessed, next_access, Performs, ReadsNothing, StepAt, Step}
use Rattle.flat_machine.specs.Step.{Reads as FlatReads}
use Rattle.patch_code.specs.Told.{access_in}
use Rattle.object_machine.specs.declared.events.Outcome.{Outcome}
use Rattle.object_machine.specs.Places.{Where, InFixed, InObject, Nowhere, read_fault, write_fault}
use Rattle.object_machine.specs.Program.{Program, Target}
use Rattle.object_machine.specs.State.{SourceState, value, faulted}
use Rattle.object_machine.specs.Step.{Reads, next_state, load_place, store_place, loads_from, stores_to}
use Rattle.object_machine.specs.Paired.{Origins, is_paired_step}
use Rattle.simulation.specs.Setups.{Setup}
use Rattle.simulation.specs.Units.{StandsAt}
use Rattle.simulation.specs.Forms.{IsAt, ActsFor, ActsAs, OneWordFor}
use Rattle.simulation.proofs.OneUnit.{Before}
use Rattle.simulation.proofs.Steps.{is_at, fetches, one_read, first_read, paired_by, Operand, reads_on, next_acts}
use Rattle.simulation.proofs.Places.{Goes, Offsets, load_is_width, store_is_width, goes_access, reached_access}
use Rattle.simulation.proofs.Loads.{named_base}
use Rattle.result_laws.proofs.Words.{same_word}
use Rattle.result_laws.specs.Walks.{accesses_at, word_accesses, IsNoFault}

-- ---- one step

-- a machine that goes on and may fetch performs what it reads
performs : (t t' : State) (e : FlatEvent) → (l : Setup) (r : ℕ) → IsAt l r t.hart.pc t → can_access t.map t.hart.pc 4 ≡ true → Step t e t' → (q : Option Instr) × Performs t e t' q
performs t t' e l r here fetches step =
    subst (λ (b : Bool). MatchBool b ((q : Option Instr) × Performs t e t' q) (ReadsNothing t e t' (trap t))) fetches
    (subst (λ o. StepAt o t e t') here.going step)

reads_alike : (w : ℕ) (q k : Option Instr) → FlatReads w q → FlatReads w k → q ≡ k
reads_alike w None None one other = refl
reads_alike w None (Some j) one other = absurd (one j other)
reads_alike w (Some i) None one other = absurd (other i one)
reads_alike w (Some i) (Some j) one other = ap Some (same_instruction w i j one other)

module _ (l : Setup) (r w : ℕ) (t : State) (here : IsAt l r t.hart.pc t) (stands : StandsAt l r t.hart.pc w) where
  may_fetch : can_access t.map t.hart.pc 4 ≡ true
  may_fetch = subst (λ q. can_access q t.hart.pc 4 ≡ true) (sym here.map) stands.fetched

  low : t.hart.pc + 3 < 4294967296
  low =
      let aligned = (both (t.hart.pc % 4 == 0) _ stands.fetched).0 in
      let small = here.words.hart.pc in
      four (t.hart.pc) aligned small
    where
      four : (a : ℕ) → (a % 4 == 0) ≡ true → a < 4294967296 → a + 3 < 4294967296
      four a aligned small = let even : a % 4 ≡ 0 = eqb-true (a % 4) 0 aligned in omega (arith, even, small)

  word_there : word_at t.hart.mem t.hart.pc ≡ w
  word_there =
      same_word t.hart.mem (l.still r) t.hart.pc t.hart.pc low low
      (λ i small.
      let low_there = low in
      let at : plus t.hart.pc i ≡ t.hart.pc + i = omega (arith, low_there, small) in
      here.still (t.hart.pc + i) (subst (λ (a : ℕ). l.is_still r a ≡ true) at (stands.still i small)))
      ∙ stands.word

  -- what a step tells that reads the word there
  pub record TellsWord (q : Option Instr) (e : FlatEvent) : Type 0 where
    pub at : e.at ≡ t.hart.pc
    pub access : e.access ≡ next_access t q

  pub tells_word : (q : Option Instr) → FlatReads w q → (e : FlatEvent) (t' : State) → Step t e t' → TellsWord q e
  tells_word q reads e t' step =
      let by = performs t t' e l r here may_fetch step in
      let same : by.0 ≡ q = reads_alike w by.0 q (subst (λ (x : ℕ). FlatReads x by.0) word_there by.1.reads) reads in
      record {
        at = ap (λ (x : FlatEvent). x.at) by.1.event;
        access = ap (λ (x : FlatEvent). x.access) by.1.event ∙ ap (next_access t) same;
      }

-- ---- what makes no access

abbrev IsSilent : Instr → Type 0
IsSilent (Load kind rd rs1 imm) = ⊥
IsSilent (Store kind rs1 rs2 imm) = ⊥
IsSilent i = Unit {0}

silent : (t : State) (i : Instr) → IsSilent i → accessed t i ≡ None
silent t (Load kind rd rs1 imm) is = absurd is
silent t (Store kind rs1 rs2 imm) is = absurd is
silent t i is = refl

silent_as : (i j : Instr) → j ≡ i → IsSilent i → IsSilent j
silent_as i j same is = subst IsSilent (sym same) is

module _ (p : Program) (l : Setup) (arrive : ℕ → ℕ → Type 0) (r u a : ℕ) where
  silent_for : (i j : Instr) → IsSilent i → ActsFor p arrive u a i j → IsSilent j
  silent_for (Auipc rd n) j is acts = silent_as (Auipc rd n) j acts.0 tt
  silent_for (Jal rd off) j is acts = silent_as (Jal rd acts.0) j acts.1.0 tt
  silent_for (Jalr rd rs1 imm) j is acts = silent_as (Jalr rd rs1 imm) j acts.0 tt
  silent_for (Branch kind rs1 rs2 off) j is acts = silent_as (Branch kind rs1 rs2 acts.0) j acts.1.0 tt
  silent_for (Load kind rd rs1 imm) j is acts = absurd is
  silent_for (Store kind rs1 rs2 imm) j is acts = absurd is
  silent_for (Lui rd n) j is acts = silent_as (Lui rd n) j acts tt
  silent_for (OpImm kind rd rs1 imm) j is acts = silent_as (OpImm kind rd rs1 imm) j acts tt
  silent_for (OpReg kind rd rs1 rs2) j is acts = silent_as (OpReg kind rd rs1 rs2) j acts tt
  silent_for (Fence bits) j is acts = silent_as (Fence bits) j acts tt
  silent_for (FenceI bits) j is acts = silent_as (FenceI bits) j acts tt
  silent_for Ecall j is acts = silent_as Ecall j acts tt
  silent_for Ebreak j is acts = silent_as Ebreak j acts tt

  silent_acts : (o : Option Target) (i j : Instr) → IsSilent i → ActsAs p l arrive r u a o i j → IsSilent j
  silent_acts None i j is acts = silent_for i j is acts
  silent_acts (Some t) (Auipc rd n) j is (inl acts) = silent_as (Auipc rd acts.0) j acts.1.0 tt
  silent_acts (Some t) (Auipc rd n) j is (inr acts) = silent_as (Lui rd acts.0) j acts.1.0 tt
  silent_acts (Some t) (Lui rd n) j is acts = silent_as (Lui rd acts.0) j acts.1.0 tt
  silent_acts (Some t) (OpImm kind rd rs1 imm) j is acts = silent_as (OpImm Addi rd rs1 acts.1.0) j acts.1.1.0 tt
  silent_acts (Some t) (Load kind rd rs1 imm) j is acts = absurd is
  silent_acts (Some t) (Store kind rs1 rs2 imm) j is acts = absurd is
  silent_acts (Some t) (Jal rd off) j is acts = silent_for (Jal rd off) j is acts
  silent_acts (Some t) (Jalr rd rs1 imm) j is acts = silent_for (Jalr rd rs1 imm) j is acts
  silent_acts (Some t) (Branch kind rs1 rs2 off) j is acts = silent_for (Branch kind rs1 rs2 off) j is acts
  silent_acts (Some t) (OpReg kind rd rs1 rs2) j is acts = silent_for (OpReg kind rd rs1 rs2) j is acts
  silent_acts (Some t) (Fence bits) j is acts = silent_for (Fence bits) j is acts
  silent_acts (Some t) (FenceI bits) j is acts = silent_for (FenceI bits) j is acts
  silent_acts (Some t) Ecall j is acts = silent_for Ecall j is acts
  silent_acts (Some t) Ebreak j is acts = silent_for Ebreak j is acts

  -- what stands for a load or a store is one with another immediate
  load_for : (o : Option Target) (kind : LoadKind) (rd rs1 : ℕ) (imm : ℤ) (j : Instr) → ActsAs p l arrive r u a o (Load kind rd rs1 imm) j → (z : ℤ) × ((j ≡ Load kind rd rs1 z) × Offsets p l r u o imm z)
  load_for None kind rd rs1 imm j acts = (imm, (acts, refl))
  load_for (Some t) kind rd rs1 imm j acts = acts

  store_for : (o : Option Target) (kind : StoreKind) (rs1 rs2 : ℕ) (imm : ℤ) (j : Instr) → ActsAs p l arrive r u a o (Store kind rs1 rs2 imm) j → (z : ℤ) × ((j ≡ Store kind rs1 rs2 z) × Offsets p l r u o imm z)
  store_for None kind rs1 rs2 imm j acts = (imm, (acts, refl))
  store_for (Some t) kind rs1 rs2 imm j acts = acts

-- ---- a unit of one word

module _ (p : Program) (l : Setup) (live arrive : ℕ → ℕ → Type 0) (r : ℕ) (s : SourceState) (m : Origins) (t : State) (before : Before p l live r s m t) (single : p.is_pair s.pc ≡ false) where
  here : IsAt l r t.hart.pc t
  here = is_at p l live r s.pc s m t before.alike

  -- an access goes to its place
  goes_there : (width : ℕ) (write : Bool) (x : Where) (at : ℕ) (o : Outcome) → Goes p l r width x at → ((why : ℕ) → x ≡ Nowhere why → IsNoFault o → ⊥) → IsNoFault o → (can_access l.map at width ≡ true) × (record { at = at; write = write } ∷ [] ≡ accesses_at (l.place r) write x)
  goes_there width write (InFixed a) at o goes faults none =
      (reached_access p l r before.sound width (InFixed a) at goes.0 goes.1, ap (λ (b : ℕ). record { at = b; write = write } ∷ []) goes.1.0)
  goes_there width write (InObject k d) at o goes faults none =
      (reached_access p l r before.sound width (InObject k d) at goes.0 goes.1, ap (λ (b : ℕ). record { at = b; write = write } ∷ []) goes.1.0)
  goes_there width write (Nowhere why) at o goes faults none = absurd (faults why refl none)

  load_accessed : (kind : LoadKind) (rd rs1 : ℕ) (z : ℤ) → can_access l.map (offset (register t.hart.regs rs1) z) (load_width kind) ≡ true → access_in (accessed t (Load kind rd rs1 z)) ≡ record { at = offset (register t.hart.regs rs1) z; write = false } ∷ []
  load_accessed kind rd rs1 z may =
      let access : can_access t.map (offset (register t.hart.regs rs1) z) (load_width kind) ≡ true =
      subst (λ q. can_access q (offset (register t.hart.regs rs1) z) (load_width kind) ≡ true) (sym before.alike.map) may in
      rw (access) refl

  store_accessed : (kind : StoreKind) (rs1 rs2 : ℕ) (z : ℤ) → can_access l.map (offset (register t.hart.regs rs1) z) (store_width kind) ≡ true → access_in (accessed t (Store kind rs1 rs2 z)) ≡ record { at = offset (register t.hart.regs rs1) z; write = true } ∷ []
  store_accessed kind rs1 rs2 z may =
      let access : can_access t.map (offset (register t.hart.regs rs1) z) (store_width kind) ≡ true =
      subst (λ q. can_access q (offset (register t.hart.regs rs1) z) (store_width kind) ≡ true) (sym before.alike.map) may in
      rw (access) refl

  -- a load or a store from nowhere is a fault
  load_faults : (kind : LoadKind) (rd rs1 : ℕ) (imm : ℤ) (reads : Reads (p.word s.pc) (Some (Load kind rd rs1 imm))) (why : ℕ) → load_place p s kind rs1 imm (p.site s.pc) ≡ Nowhere why → IsNoFault (next_state p s (Some (Load kind rd rs1 imm))).outcome → ⊥
  load_faults kind rd rs1 imm reads why nowhere none =
      let acted = next_acts p l live r s m t (Load kind rd rs1 imm) before single reads in
      let leads : next_state p s (Some (Load kind rd rs1 imm)) ≡ faulted s why =
      acted ∙ ap (λ (x : Where). loads_from p s kind rd x (read_fault x)) nowhere in
      subst (λ (n : SourceState). IsNoFault n.outcome) leads none

  store_faults : (kind : StoreKind) (rs1 rs2 : ℕ) (imm : ℤ) (reads : Reads (p.word s.pc) (Some (Store kind rs1 rs2 imm))) (why : ℕ) → store_place p s kind rs1 imm (p.site s.pc) ≡ Nowhere why → IsNoFault (next_state p s (Some (Store kind rs1 rs2 imm))).outcome → ⊥
  store_faults kind rs1 rs2 imm reads why nowhere none =
      let acted = next_acts p l live r s m t (Store kind rs1 rs2 imm) before single reads in
      let leads : next_state p s (Some (Store kind rs1 rs2 imm)) ≡ faulted s why =
      acted ∙ ap (λ (x : Where). stores_to p s kind (value s.regs rs2) x (write_fault p x)) nowhere in
      subst (λ (n : SourceState). IsNoFault n.outcome) leads none

  load_accesses : (kind : LoadKind) (rd rs1 : ℕ) (imm : ℤ) (j : Instr) → Reads (p.word s.pc) (Some (Load kind rd rs1 imm)) → is_paired_step p s m (Some (Load kind rd rs1 imm)) ≡ true → ActsAs p l arrive r s.pc t.hart.pc (p.site s.pc) (Load kind rd rs1 imm) j → IsNoFault (next_state p s (Some (Load kind rd rs1 imm))).outcome → access_in (accessed t j) ≡ accesses_at (l.place r) false (load_place p s kind rs1 imm (p.site s.pc))
  load_accesses kind rd rs1 imm j reads paired acts none =
      let i : Instr = Load kind rd rs1 imm in
      let found = load_for p l arrive r s.pc t.hart.pc (p.site s.pc) kind rd rs1 imm j acts in
      let at : ℕ = offset (register t.hart.regs rs1) found.0 in
      let base : Operand p l r rs1 s m t = reads_on p l live r s m t i before single reads rs1 (one_read rs1) in
      let named = named_base p s m rs1 (p.site s.pc) (before.made.regs rs1) (paired_by p s m i single paired) in
      let goes =
      goes_access p l r before.sound (load_width kind) (load_is_width kind) s.pc (p.site s.pc) (m.regs rs1) (value s.regs rs1)
      (register t.hart.regs rs1) imm found.0 base.word found.1.1 named base.stands in
      let there =
      goes_there (load_width kind) false (load_place p s kind rs1 imm (p.site s.pc)) at (next_state p s (Some i)).outcome goes
      (load_faults kind rd rs1 imm reads) none in
      ap (λ (x : Instr). access_in (accessed t x)) found.1.0 ∙ (load_accessed kind rd rs1 found.0 there.0 ∙ there.1)

  store_accesses : (kind : StoreKind) (rs1 rs2 : ℕ) (imm : ℤ) (j : Instr) → Reads (p.word s.pc) (Some (Store kind rs1 rs2 imm)) → is_paired_step p s m (Some (Store kind rs1 rs2 imm)) ≡ true → ActsAs p l arrive r s.pc t.hart.pc (p.site s.pc) (Store kind rs1 rs2 imm) j → IsNoFault (next_state p s (Some (Store kind rs1 rs2 imm))).outcome → access_in (accessed t j) ≡ accesses_at (l.place r) true (store_place p s kind rs1 imm (p.site s.pc))
  store_accesses kind rs1 rs2 imm j reads paired acts none =
      let i : Instr = Store kind rs1 rs2 imm in
      let found = store_for p l arrive r s.pc t.hart.pc (p.site s.pc) kind rs1 rs2 imm j acts in
      let at : ℕ = offset (register t.hart.regs rs1) found.0 in
      let base : Operand p l r rs1 s m t = reads_on p l live r s m t i before single reads rs1 (first_read rs1 rs2) in
      let named = named_base p s m rs1 (p.site s.pc) (before.made.regs rs1) (paired_by p s m i single paired) in
      let goes =
      goes_access p l r before.sound (store_width kind) (store_is_width kind) s.pc (p.site s.pc) (m.regs rs1) (value s.regs rs1)
      (register t.hart.regs rs1) imm found.0 base.word found.1.1 named base.stands in
      let there =
      goes_there (store_width kind) true (store_place p s kind rs1 imm (p.site s.pc)) at (next_state p s (Some i)).outcome goes
      (store_faults kind rs1 rs2 imm reads) none in
      ap (λ (x : Instr). access_in (accessed t x)) found.1.0 ∙ (store_accessed kind rs1 rs2 found.0 there.0 ∙ there.1)

  silent_accesses : (i j : Instr) → IsSilent i → ActsAs p l arrive r s.pc t.hart.pc (p.site s.pc) i j → access_in (accessed t j) ≡ []
  silent_accesses i j is acts = ap access_in (silent t j (silent_acts p l arrive r s.pc t.hart.pc (p.site s.pc) i j is acts))

  acts_access : (i j : Instr) → Reads (p.word s.pc) (Some i) → is_paired_step p s m (Some i) ≡ true → ActsAs p l arrive r s.pc t.hart.pc (p.site s.pc) i j → IsNoFault (next_state p s (Some i)).outcome → access_in (accessed t j) ≡ word_accesses p s (l.place r) (Some i)
  acts_access (Load kind rd rs1 imm) j reads paired acts none = load_accesses kind rd rs1 imm j reads paired acts none
  acts_access (Store kind rs1 rs2 imm) j reads paired acts none = store_accesses kind rs1 rs2 imm j reads paired acts none
  acts_access (Lui rd n) j reads paired acts none = silent_accesses (Lui rd n) j tt acts
  acts_access (Auipc rd n) j reads paired acts none = silent_accesses (Auipc rd n) j tt acts
  acts_access (Jal rd off) j reads paired acts none = silent_accesses (Jal rd off) j tt acts
  acts_access (Jalr rd rs1 imm) j reads paired acts none = silent_accesses (Jalr rd rs1 imm) j tt acts
  acts_access (Branch kind rs1 rs2 off) j reads paired acts none = silent_accesses (Branch kind rs1 rs2 off) j tt acts
  acts_access (OpImm kind rd rs1 imm) j reads paired acts none = silent_accesses (OpImm kind rd rs1 imm) j tt acts
  acts_access (OpReg kind rd rs1 rs2) j reads paired acts none = silent_accesses (OpReg kind rd rs1 rs2) j tt acts
  acts_access (Fence bits) j reads paired acts none = silent_accesses (Fence bits) j tt acts
  acts_access (FenceI bits) j reads paired acts none = silent_accesses (FenceI bits) j tt acts
  acts_access Ecall j reads paired acts none = silent_accesses Ecall j tt acts
  acts_access Ebreak j reads paired acts none = silent_accesses Ebreak j tt acts

  -- the event of its word
  pub record TellsUnit (read : Option Instr) (e : FlatEvent) : Type 0 where
    pub at : e.at ≡ t.hart.pc
    pub accesses : IsNoFault (next_state p s read).outcome → access_in e.access ≡ word_accesses p s (l.place r) read

  pub tells_unit : (read : Option Instr) → Reads (p.word s.pc) read → is_paired_step p s m read ≡ true → OneWordFor p l arrive r s.pc t.hart.pc read → (e : FlatEvent) (t' : State) → Step t e t' → TellsUnit read e
  tells_unit None reads paired (w, (stands, none)) e t' step =
      let told = tells_word l r w t here stands None none e t' step in
      record { at = told.at; accesses = λ fine. ap access_in told.access }
  tells_unit (Some i) reads paired (w, (j, (stands, (means, (range, acts))))) e t' step =
      let told = tells_word l r w t here stands (Some j) means e t' step in
      record { at = told.at; accesses = λ fine. ap access_in told.access ∙ acts_access i j reads paired acts fine }
