-- Laws of runs.
use Rattle.std.proofs.Common.{◌≡◌, ℕ, zero, suc, ◌+◌, ◌-◌, ◌<◌, ◌≤◌, List, [], ◌∷◌, ◌++◌, length, refl, sym, ◌∙◌, ap, subst, arith}
use Rattle.std.specs.Prelude.{Bool, IsTrue, true, false, Option, Some, None}
use Rattle.std.specs.Bool.{MatchBool}
use Rattle.rv32im.specs.Memory.{word_at}
use Rattle.rv32im.specs.declared.instructions.Instr.{Instr}
use Rattle.rv32im.specs.Table.{Means, OneInstruction}
use Rattle.flat_machine.specs.declared.events.FlatOutcome.{FlatOutcome}
use Rattle.flat_machine.specs.declared.events.FlatOutcome.TheVariants.{GoesOn, Exited, Trapped}
use Rattle.flat_machine.specs.declared.events.FlatEvent.{FlatEvent}
use Rattle.flat_machine.specs.Mapping.{can_access}
use Rattle.flat_machine.specs.State.{State, trap}
use Rattle.flat_machine.specs.Step.{performed, event_of, Reads, next_state, next_access, Performs, ReadsNothing, StepAt, Step}
use Rattle.flat_machine.specs.Runs.{Does, Steps, HasEnded}
use Rattle.flat_machine.specs.Known.{TakesStep}

-- ---- a step by what the word means

pub performs_meaning : (s : State) (i : Instr) → s.outcome ≡ GoesOn → IsTrue (can_access s.map s.hart.pc 4) → Means (word_at s.hart.mem s.hart.pc) i → Step s (event_of s i) (performed s i)
performs_meaning s i going fetches means =
    let e : FlatEvent = event_of s i in
    let t : State = performed s i in
    let step : Performs s e t (Some i) = record { reads = means; state = refl; event = refl } in
    subst (λ o. StepAt o s e t) (sym going)
    (subst (λ b. MatchBool b ((read : Option Instr) × Performs s e t read) (ReadsNothing s e t (trap s))) (sym fetches) (Some i, step))

-- ---- runs compose

pub does_joined : (es fs : List FlatEvent) (s m t : State) → Does es s m → Does fs m t → Does (es ++ fs) s t
does_joined [] fs s m t d f = subst (λ x. Does fs x t) d f
does_joined (e ∷ es) fs s m t d f = (d.0, (d.1.0, does_joined es fs d.0 m t d.1.1 f))

pub does_cut : (es fs : List FlatEvent) (s t : State) → Does (es ++ fs) s t → (m : State) × (Does es s m × Does fs m t)
does_cut [] fs s t d = (s, (refl, d))
does_cut (e ∷ es) fs s t d = let r = does_cut es fs d.0 t d.1.1 in (r.0, ((d.0, (d.1.0, r.1.0)), r.1.1))

pub steps_joined : (j k : ℕ) (s m t : State) → Steps j s m → Steps k m t → Steps (j + k) s t
steps_joined zero k s m t r q =
    let e : k ≡ zero + k = omega arith in subst (λ n. Steps n s t) e (subst (λ x. Steps k x t) r q)
steps_joined (suc j) k s m t r q =
    let e : suc (j + k) ≡ suc j + k = omega arith in
    subst (λ n. Steps n s t) e (r.0, (r.1.0, steps_joined j k r.0 m t r.1.1 q))

pub steps_cut : (j k : ℕ) (s t : State) → Steps (j + k) s t → (m : State) × (Steps j s m × Steps k m t)
steps_cut zero k s t r = let e : zero + k ≡ k = omega arith in (s, (refl, subst (λ n. Steps n s t) e r))
steps_cut (suc j) k s t r =
    let e : suc j + k ≡ suc (j + k) = omega arith in
    let whole : Steps (suc (j + k)) s t = subst (λ n. Steps n s t) e r in
    let rest = steps_cut j k whole.0 t whole.1.1 in
    (rest.0, ((whole.0, (whole.1.0, rest.1.0)), rest.1.1))

-- one step more at the end
pub steps_more : (n : ℕ) (s m t : State) (e : FlatEvent) → Steps n s m → Step m e t → Steps (n + 1) s t
steps_more n s m t e r q = steps_joined n 1 s m t r (t, ((e, q), refl))

-- ---- a loop over the number of steps that are left

-- the steps so far, and those of a stretch that leaves fewer
pub steps_left : (n before left : ℕ) (s m t : State) → before ≤ n → left ≤ before → Steps (n - before) s m → Steps (before - left) m t → Steps (n - left) s t
steps_left n before left s m t few fewer so_far more =
    let sum : (n - before) + (before - left) ≡ n - left = omega arith in
    subst (λ k. Steps k s t) sum (steps_joined (n - before) (before - left) s m t so_far more)

-- the steps so far, and the next one
pub next_left : (n left : ℕ) (s m t : State) → 0 < left → left ≤ n → Steps (n - left) s m → TakesStep m t → Steps (n - (left - 1)) s t
next_left n left s m t some few so_far step =
    let sum : (n - left) + 1 ≡ n - (left - 1) = omega arith in
    subst (λ k. Steps k s t) sum (steps_more (n - left) s m t step.1.event so_far step.1.step)

-- ---- events and steps

pub steps_of_events : (es : List FlatEvent) (s t : State) → Does es s t → Steps (length es) s t
steps_of_events [] s t d = d
steps_of_events (e ∷ es) s t d = (d.0, ((e, d.1.0), steps_of_events es d.0 t d.1.1))

pub events_of_steps : (n : ℕ) (s t : State) → Steps n s t → (es : List FlatEvent) × ((length es ≡ n) × Does es s t)
events_of_steps zero s t r = ([], (refl, r))
events_of_steps (suc n) s t r =
    let rest = events_of_steps n r.0 t r.1.1 in
    (r.1.0.0 ∷ rest.0, (ap suc rest.1.0, (r.0, (r.1.0.1, rest.1.1))))

-- ---- a machine that has ended

ended_step : (o : FlatOutcome) (s t : State) (e : FlatEvent) → HasEnded o → StepAt o s e t → ReadsNothing s e t s
ended_step GoesOn s t e h q = absurd h
ended_step (Exited code) s t e h q = q
ended_step (Trapped pc) s t e h q = q

pub ended_state : (s t : State) (e : FlatEvent) → HasEnded s.outcome → Step s e t → t ≡ s
ended_state s t e h q = (ended_step s.outcome s t e h q).state

pub ended_event : (s t : State) (e : FlatEvent) → HasEnded s.outcome → Step s e t → e ≡ record { at = s.hart.pc; outcome = s.outcome; word = 0; access = None }
ended_event s t e h q =
    let r = ended_step s.outcome s t e h q in
    r.event ∙ ap (λ (x : State). record { at = s.hart.pc; outcome = x.outcome; word = 0; access = None }) r.state

pub ended_steps : (n : ℕ) (s t : State) → HasEnded s.outcome → Steps n s t → t ≡ s
ended_steps zero s t h r = r
ended_steps (suc n) s t h r =
    let first = ended_state s r.0 r.1.0.0 h r.1.0.1 in
    ended_steps n s t h (subst (λ x. Steps n x t) first r.1.1)

-- the step that such a machine takes
ended_takes : (o : FlatOutcome) (s : State) → HasEnded o → StepAt o s (record { at = s.hart.pc; outcome = s.outcome; word = 0; access = None }) s
ended_takes GoesOn s h = absurd h
ended_takes (Exited code) s h = record { state = refl; event = refl }
ended_takes (Trapped pc) s h = record { state = refl; event = refl }

pub ended_any_steps : (n : ℕ) (s : State) → HasEnded s.outcome → Steps n s s
ended_any_steps zero s h = refl
ended_any_steps (suc n) s h =
    (s, ((record { at = s.hart.pc; outcome = s.outcome; word = 0; access = None }, ended_takes s.outcome s h), ended_any_steps n s h))

-- it takes those that are left and stays as it is
pub ended_left : (n left : ℕ) (s t : State) → left ≤ n → Steps (n - left) s t → HasEnded t.outcome → Steps n s t
ended_left n left s t few so_far ended =
    let sum : (n - left) + left ≡ n = omega arith in
    subst (λ k. Steps k s t) sum (steps_joined (n - left) left s t t so_far (ended_any_steps left t ended))

-- ---- the machine has no choice

one_reading : OneInstruction → (w : ℕ) (q r : Option Instr) → Reads w q → Reads w r → q ≡ r
one_reading one w None None a b = refl
one_reading one w None (Some j) a b = absurd (a j b)
one_reading one w (Some i) None a b = absurd (b i a)
one_reading one w (Some i) (Some j) a b = ap Some (one w i j a b)

-- two steps from one state that read alike
record SameStep (t u : State) (e f : FlatEvent) : Type 0 where
  state : t ≡ u
  event : e ≡ f

nothing_same : (s t u next : State) (e f : FlatEvent) → ReadsNothing s e t next → ReadsNothing s f u next → SameStep t u e f
nothing_same s t u next e f a b =
    let same : t ≡ u = a.state ∙ sym b.state in
    record {
      state = same;
      event = a.event ∙ (ap (λ (x : State). record { at = s.hart.pc; outcome = x.outcome; word = 0; access = None }) same ∙ sym b.event);
    }

performs_same : OneInstruction → (s t u : State) (e f : FlatEvent) (q r : Option Instr) → Performs s e t q → Performs s f u r → SameStep t u e f
performs_same one s t u e f q r a b =
    let read : q ≡ r = one_reading one (word_at s.hart.mem s.hart.pc) q r a.reads b.reads in
    let same : t ≡ u = a.state ∙ (ap (next_state s) read ∙ sym b.state) in
    let told : FlatEvent = record { at = s.hart.pc; outcome = u.outcome; word = word_at s.hart.mem s.hart.pc; access = next_access s q } in
    record {
      state = same;
      event = a.event
          ∙ (ap (λ (x : State). record { at = s.hart.pc; outcome = x.outcome; word = word_at s.hart.mem s.hart.pc; access = next_access s q }) same
          ∙ (ap (λ (x : Option Instr). record { at = s.hart.pc; outcome = u.outcome; word = word_at s.hart.mem s.hart.pc; access = next_access s x }) read
          ∙ sym b.event));
    }

going_same : OneInstruction → (fetches : Bool) (s t u : State) (e f : FlatEvent) → MatchBool fetches ((read : Option Instr) × Performs s e t read) (ReadsNothing s e t (trap s)) → MatchBool fetches ((read : Option Instr) × Performs s f u read) (ReadsNothing s f u (trap s)) → SameStep t u e f
going_same one true s t u e f a b = performs_same one s t u e f a.0 b.0 a.1 b.1
going_same one false s t u e f a b = nothing_same s t u (trap s) e f a b

step_same : OneInstruction → (o : FlatOutcome) (s t u : State) (e f : FlatEvent) → StepAt o s e t → StepAt o s f u → SameStep t u e f
step_same one GoesOn s t u e f a b = going_same one (can_access s.map s.hart.pc 4) s t u e f a b
step_same one (Exited code) s t u e f a b = nothing_same s t u s e f a b
step_same one (Trapped pc) s t u e f a b = nothing_same s t u s e f a b

pub one_event : OneInstruction → (s t u : State) (e f : FlatEvent) → Step s e t → Step s f u → e ≡ f
one_event one s t u e f a b = (step_same one s.outcome s t u e f a b).event

pub one_state : OneInstruction → (s t u : State) (e f : FlatEvent) → Step s e t → Step s f u → t ≡ u
one_state one s t u e f a b = (step_same one s.outcome s t u e f a b).state

pub one_run : OneInstruction → (n : ℕ) (s t u : State) → Steps n s t → Steps n s u → t ≡ u
one_run one zero s t u a b = a ∙ sym b
one_run one (suc n) s t u a b =
    let same : a.0 ≡ b.0 = one_state one s a.0 b.0 a.1.0.0 b.1.0.0 a.1.0.1 b.1.0.1 in
    one_run one n b.0 t u (subst (λ x. Steps n x t) same a.1.1) b.1.1

pub one_list : OneInstruction → (es fs : List FlatEvent) (s t u : State) → length es ≡ length fs → Does es s t → Does fs s u → es ≡ fs
one_list one [] [] s t u n a b = refl
one_list one [] (f ∷ fs) s t u n a b = absurd (omega arith)
one_list one (e ∷ es) [] s t u n a b = absurd (omega arith)
one_list one (e ∷ es) (f ∷ fs) s t u n a b =
    let event : e ≡ f = one_event one s a.0 b.0 e f a.1.0 b.1.0 in
    let same : a.0 ≡ b.0 = one_state one s a.0 b.0 e f a.1.0 b.1.0 in
    let shorter : length es ≡ length fs = omega arith in
    let rest : es ≡ fs = one_list one es fs b.0 t u shorter (subst (λ x. Does es x t) same a.1.1) b.1.1 in
    cc
