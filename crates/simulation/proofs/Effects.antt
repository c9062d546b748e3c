-- Instructions whose effect is a register and the next pc.
use Rattle.std.proofs.Common.{◌≡◌, ℕ, ◌+◌, true, false, List, [], ◌∷◌, Option, Some, None, refl, sym, ◌∙◌, subst}
use Rattle.std.specs.Prelude.{Contains}
use Rattle.rv32im.specs.Words.{plus}
use Rattle.rv32im.specs.Table.{Means}
use Rattle.rv32im.specs.Acts.{Registers, defined}
use Rattle.rv32im.specs.declared.instructions.Instr.{Instr}
use Rattle.flat_machine.specs.declared.events.FlatEvent.{FlatEvent}
use Rattle.flat_machine.specs.Lines.{went}
use Rattle.flat_machine.specs.Runs.{Does}
use Rattle.flat_machine.specs.State.{State}
use Rattle.flat_machine.specs.Step.{Step, performed, event_of}
use Rattle.cell_values.specs.Laws.{HoldsWord}
use Rattle.cell_values.specs.declared.values.Val.{Val}
use Rattle.cell_values.specs.Origins.{Origin}
use Rattle.cell_values.specs.Stands.{Stands}
use Rattle.object_machine.specs.Program.{Program, Target}
use Rattle.object_machine.specs.State.{SourceState, wrote}
use Rattle.object_machine.specs.Flow.{falls_on, jumps}
use Rattle.object_machine.specs.Step.{Reads, acts, next_state}
use Rattle.object_machine.specs.Paired.{Origins, origins_by, origins_after}
use Rattle.simulation.specs.Setups.{Setup}
use Rattle.simulation.specs.Units.{StandsAt}
use Rattle.simulation.specs.Relation.{LeadsTold}
use Rattle.simulation.specs.Forms.{ActsFor, ActsAs, IsFollowed}
use Rattle.simulation.proofs.OneUnit.{Before, StepPremises}
use Rattle.simulation.proofs.Steps.{WritesAt, fetches, does_words, is_at, falls_leads, jumps_leads, leads_does, after_going, wrote_on, keeps_on, acts_leads, falls_home}

-- an instruction that stands for itself, site or not
pub itself : (p : Program) (l : Setup) (arrive : ℕ → ℕ → Type 0) (r u a : ℕ) (i : Instr) (P : Instr → Type 0) → ((j : Instr) → ActsFor p arrive u a i j → P j) → ((g : Target) (j : Instr) → ActsAs p l arrive r u a (Some g) i j → P j) → (site : Option Target) (j : Instr) → ActsAs p l arrive r u a site i j → P j
itself p l arrive r u a i P plain at None j stands = plain j stands
itself p l arrive r u a i P plain at (Some g) j stands = at g j stands

-- the registers that no instruction writes stay
pub no_writes : (lives : ℕ → Type 0) (f : Registers) → WritesAt lives 0 0 f f
no_writes lives f = record { here = λ other. absurd (other refl); others = λ k lives other. refl }

-- both machines write a register and go on, the flat one by these events
module _ (p : Program) (l : Setup) (live arrive : ℕ → ℕ → Type 0) (tells : List FlatEvent → Type 0) (r : ℕ) (s : SourceState) (m : Origins) (t : State) (i : Instr) (before : Before p l live r s m t) (single : p.is_pair s.pc ≡ false) (reads : Reads (p.word s.pc) (Some i)) (rd w : ℕ) (x : Val) (origins : ℕ → Origin) (es : List FlatEvent) (f : Registers) (c : ℕ) (does : Does es t (went t f c)) (told : tells es) (writes : (k : ℕ) → Contains (defined i) k → k ≡ rd) (made : (k : ℕ) → (k ≡ rd → ⊥) → origins k ≡ m.regs k) (by : origins_by p s m i ≡ record m { regs = origins }) (is : Stands p.objects (l.place r) (l.upper r) (origins rd) x w) (holds : HoldsWord x) where
  lands : (v : ℕ) → acts p s i (p.site s.pc) ≡ record (wrote s rd x) { pc = v } → WritesAt (live v) rd w t.hart.regs f → arrive v c → LeadsTold tells p l live arrive r (record (wrote s rd x) { pc = v }) (record m { regs = origins }) t
  lands v effect changed arrives =
      let n : SourceState = record (wrote s rd x) { pc = v } in
      let alike =
      wrote_on p l live r s.pc v s m t before.alike rd w x origins f
      (λ k lives other.
      keeps_on p l live r s m t i before single reads n effect before.alike.source_going k lives
      (λ has. other (writes k has)))
      made changed is holds c (does_words es t (went t f c) before.alike.words does) in
      leads_does p l live arrive tells r t n (record m { regs = origins }) es (went t f c) does told
      (after_going p l live arrive tells r t n (record m { regs = origins }) (went t f c) before.alike.source_going alike arrives)

  leads_by : (n : SourceState) → acts p s i (p.site s.pc) ≡ n → LeadsTold tells p l live arrive r n (record m { regs = origins }) t → LeadsTold tells p l live arrive r (next_state p s (Some i)) (origins_after p s m (Some i)) t
  leads_by n effect leads =
      acts_leads p l live arrive tells r s m t i before single reads
      (subst (λ y. LeadsTold tells p l live arrive r (acts p s i (p.site s.pc)) y t) (sym by)
      (subst (λ y. LeadsTold tells p l live arrive r y (record m { regs = origins }) t) (sym effect) leads))

  -- at the next word
  pub falls_so : acts p s i (p.site s.pc) ≡ falls_on p s (wrote s rd x) → WritesAt (live (s.pc + 4)) rd w t.hart.regs f → (p.falls s.pc ≡ true → arrive (s.pc + 4) c) → LeadsTold tells p l live arrive r (next_state p s (Some i)) (origins_after p s m (Some i)) t
  falls_so effect changed arrives =
      leads_by (falls_on p s (wrote s rd x)) effect
      (falls_leads p l live arrive tells r t s (wrote s rd x) (record m { regs = origins })
      (λ falls on. lands (s.pc + 4) (effect ∙ on) changed (arrives falls)))

  -- at a block
  pub jumps_so : (v : ℕ) → acts p s i (p.site s.pc) ≡ jumps p s v (wrote s rd x) → WritesAt (live v) rd w t.hart.regs f → (p.is_block v ≡ true → arrive v c) → LeadsTold tells p l live arrive r (next_state p s (Some i)) (origins_after p s m (Some i)) t
  jumps_so v effect changed arrives =
      leads_by (jumps p s v (wrote s rd x)) effect
      (jumps_leads p l live arrive tells r t s (wrote s rd x) v (record m { regs = origins })
      (λ block on. lands v (effect ∙ on) changed (arrives block)))

  -- where both are known to go
  pub lands_so : (v : ℕ) → acts p s i (p.site s.pc) ≡ record (wrote s rd x) { pc = v } → WritesAt (live v) rd w t.hart.regs f → arrive v c → LeadsTold tells p l live arrive r (next_state p s (Some i)) (origins_after p s m (Some i)) t
  lands_so v effect changed arrives = leads_by (record (wrote s rd x) { pc = v }) effect (lands v effect changed arrives)

-- by one word that stands for the unit, and goes to the next
module _ (p : Program) (l : Setup) (live arrive : ℕ → ℕ → Type 0) (tells : List FlatEvent → Type 0) (r : ℕ) (s : SourceState) (m : Origins) (t : State) (i : Instr) (premises : StepPremises p l live arrive tells r s m t) (single : p.is_pair s.pc ≡ false) (reads : Reads (p.word s.pc) (Some i)) (follows : IsFollowed i) (rd w : ℕ) (x : Val) (origins : ℕ → Origin) (code : ℕ) (j : Instr) (f : Registers) where
  pub falls_both : (writes : (k : ℕ) → Contains (defined i) k → k ≡ rd) (made : (k : ℕ) → (k ≡ rd → ⊥) → origins k ≡ m.regs k) (by : origins_by p s m i ≡ record m { regs = origins }) (stands : StandsAt l r t.hart.pc code) (means : Means code j) (changed : WritesAt (live (s.pc + 4)) rd w t.hart.regs f) (is : Stands p.objects (l.place r) (l.upper r) (origins rd) x w) (holds : HoldsWord x) → acts p s i (p.site s.pc) ≡ falls_on p s (wrote s rd x) → performed t j ≡ went t f (plus t.hart.pc 4) → LeadsTold tells p l live arrive r (next_state p s (Some i)) (origins_after p s m (Some i)) t
  falls_both writes made by stands means changed is holds effect does =
      let t' : State = went t f (plus t.hart.pc 4) in
      let step : Step t (event_of t j) t' =
      subst (λ y. Step t (event_of t j) y) does
      (fetches l r t.hart.pc code t (is_at p l live r s.pc s m t premises.before.alike) stands j means) in
      falls_so p l live arrive tells r s m t i premises.before single reads rd w x origins (event_of t j ∷ []) f
      (plus t.hart.pc 4) (t', (step, refl)) (premises.told.one single (event_of t j) t' step) writes made by is holds effect
      changed (falls_home p l live arrive tells r s m t i premises single reads follows)
