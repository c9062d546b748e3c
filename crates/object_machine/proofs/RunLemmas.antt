-- Runs of the machine.
use Rattle.std.proofs.Common.{◌≡◌, ℕ, zero, suc, ◌+◌, ◌-◌, ◌≤◌, List, [], ◌++◌, append_assoc, refl, sym, ◌∙◌, ap, subst, arith, Option, Some, None}
use Rattle.std.proofs.lemmas.List.{append-nil}
use Rattle.rv32im.specs.Table.{OneInstruction}
use Rattle.rv32im.specs.declared.instructions.Instr.{Instr}
use Rattle.object_machine.specs.declared.events.Event.{Event}
use Rattle.object_machine.specs.declared.events.Outcome.{Outcome}
use Rattle.object_machine.specs.declared.events.Outcome.TheVariants.{GoesOn, Exited, Trapped, AddressFault}
use Rattle.object_machine.specs.Program.{Program}
use Rattle.object_machine.specs.State.{SourceState}
use Rattle.object_machine.specs.Step.{Reads, next_state, event_of, stays_event, Performs, StepFrom, Step}
use Rattle.object_machine.specs.Runs.{Steps, HasEnded}

pub steps_joined : (p : Program) (j k : ℕ) (s m t : SourceState) → Steps p j s m → Steps p k m t → Steps p (j + k) s t
steps_joined p zero k s m t r q =
    let e : k ≡ zero + k = omega arith in subst (λ n. Steps p n s t) e (subst (λ x. Steps p k x t) r q)
steps_joined p (suc j) k s m t r q =
    let e : suc (j + k) ≡ suc j + k = omega arith in
    subst (λ n. Steps p n s t) e (r.0, (r.1.0, steps_joined p j k r.0 m t r.1.1 q))

-- one step more at the end
pub steps_more : (p : Program) (n : ℕ) (s m t : SourceState) (e : Event) → Steps p n s m → Step p m e t → Steps p (n + 1) s t
steps_more p n s m t e r q = steps_joined p n 1 s m t r (t, ((e, q), refl))

-- ---- a machine that has ended

ended_from : (o : Outcome) (p : Program) (s t : SourceState) (e : Event) → HasEnded o → StepFrom o p s e t → (t ≡ s) × (e ≡ stays_event s)
ended_from GoesOn p s t e h q = absurd h
ended_from (Exited code) p s t e h q = q
ended_from (Trapped pc) p s t e h q = q
ended_from (AddressFault pc why) p s t e h q = q

pub ended_stays : (p : Program) (s t : SourceState) (e : Event) → HasEnded s.outcome → Step p s e t → (t ≡ s) × (e ≡ stays_event s)
ended_stays p s t e h q = ended_from s.outcome p s t e h q

pub ended_steps : (p : Program) (n : ℕ) (s t : SourceState) → HasEnded s.outcome → Steps p n s t → t ≡ s
ended_steps p zero s t h r = r
ended_steps p (suc n) s t h r =
    let first = (ended_stays p s r.0 r.1.0.0 h r.1.0.1).0 in
    ended_steps p n s t h (subst (λ x. Steps p n x t) first r.1.1)

ended_takes : (o : Outcome) (p : Program) (s : SourceState) → HasEnded o → StepFrom o p s (stays_event s) s
ended_takes GoesOn p s h = absurd h
ended_takes (Exited code) p s h = (refl, refl)
ended_takes (Trapped pc) p s h = (refl, refl)
ended_takes (AddressFault pc why) p s h = (refl, refl)

pub ended_any_steps : (p : Program) (n : ℕ) (s : SourceState) → HasEnded s.outcome → Steps p n s s
ended_any_steps p zero s h = refl
ended_any_steps p (suc n) s h = (s, ((stays_event s, ended_takes s.outcome p s h), ended_any_steps p n s h))

-- as many steps as were asked for, of which those behind the end change nothing
pub steps_to_end : (p : Program) (k n : ℕ) (s t : SourceState) → k ≤ n → HasEnded t.outcome → Steps p k s t → Steps p n s t
steps_to_end p k n s t le ended steps =
    let all : k + (n - k) ≡ n = omega (arith, le) in
    subst (λ j. Steps p j s t) all (steps_joined p k (n - k) s t t steps (ended_any_steps p (n - k) t ended))

-- ---- the machine has no choice

pub one_reading : OneInstruction → (w : ℕ) (q r : Option Instr) → Reads w q → Reads w r → q ≡ r
one_reading one w None None a b = refl
one_reading one w None (Some j) a b = absurd (a j b)
one_reading one w (Some i) None a b = absurd (b i a)
one_reading one w (Some i) (Some j) a b = ap Some (one w i j a b)

record SameStep (t u : SourceState) (e f : Event) : Type 0 where
  state : t ≡ u
  event : e ≡ f

performs_same : OneInstruction → (p : Program) (s t u : SourceState) (e f : Event) (q r : Option Instr) → Performs p s e t q → Performs p s f u r → SameStep t u e f
performs_same one p s t u e f q r a b =
    let read : q ≡ r = one_reading one (p.word s.pc) q r a.meant b.meant in
    let same : t ≡ u = a.state ∙ (ap (next_state p s) read ∙ sym b.state) in
    record {
      state = same;
      event = a.event ∙ (ap (λ (x : SourceState). event_of p s x q) same ∙ (ap (event_of p s u) read ∙ sym b.event));
    }

stays_same : (s t u : SourceState) (e f : Event) → (t ≡ s) × (e ≡ stays_event s) → (u ≡ s) × (f ≡ stays_event s) → SameStep t u e f
stays_same s t u e f a b = record { state = a.0 ∙ sym b.0; event = a.1 ∙ sym b.1 }

step_same : OneInstruction → (o : Outcome) (p : Program) (s t u : SourceState) (e f : Event) → StepFrom o p s e t → StepFrom o p s f u → SameStep t u e f
step_same one GoesOn p s t u e f a b = performs_same one p s t u e f a.0 b.0 a.1 b.1
step_same one (Exited code) p s t u e f a b = stays_same s t u e f a b
step_same one (Trapped pc) p s t u e f a b = stays_same s t u e f a b
step_same one (AddressFault pc why) p s t u e f a b = stays_same s t u e f a b

pub one_event : OneInstruction → (p : Program) (s t u : SourceState) (e f : Event) → Step p s e t → Step p s f u → e ≡ f
one_event one p s t u e f a b = (step_same one s.outcome p s t u e f a b).event

pub one_state : OneInstruction → (p : Program) (s t u : SourceState) (e f : Event) → Step p s e t → Step p s f u → t ≡ u
one_state one p s t u e f a b = (step_same one s.outcome p s t u e f a b).state

pub one_run : OneInstruction → (p : Program) (n : ℕ) (s t u : SourceState) → Steps p n s t → Steps p n s u → t ≡ u
one_run one p zero s t u a b = a ∙ sym b
one_run one p (suc n) s t u a b =
    let same : a.0 ≡ b.0 = one_state one p s a.0 b.0 a.1.0.0 b.1.0.0 a.1.0.1 b.1.0.1 in
    one_run one p n b.0 t u (subst (λ x. Steps p n x t) same a.1.1) b.1.1
