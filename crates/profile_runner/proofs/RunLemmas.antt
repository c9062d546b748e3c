-- The transitions of a run: one more, the steps that they are, and that there is one list of them.
use Rattle.std.proofs.Common.{◌≡◌, ◌∙◌, ℕ, zero, suc, ◌<◌, ◌≤◌, List, [], ◌∷◌, ◌++◌, length, Option, Some, None, refl, sym, ap, subst, arith}
use Rattle.rv32im.specs.Table.{OneInstruction}
use Rattle.rv32im.specs.declared.instructions.Instr.{Instr}
use Rattle.object_machine.specs.declared.events.Event.{Event}
use Rattle.object_machine.specs.declared.events.Outcome.{Outcome}
use Rattle.object_machine.specs.declared.events.Outcome.TheVariants.{GoesOn, Exited, Trapped, AddressFault}
use Rattle.object_machine.specs.Program.{Program}
use Rattle.object_machine.specs.State.{SourceState}
use Rattle.object_machine.specs.Step.{Reads, next_state, event_of, Performs, StepFrom}
use Rattle.object_machine.specs.Runs.{Steps, HasEnded}
use Rattle.object_machine.proofs.RunLemmas.{ended_any_steps}
use Rattle.profile_runner.specs.Transition.{Transition, is_going}
use Rattle.profile_runner.specs.Transitions.{transition_of, FirstOf, TransitionsFrom, Transitions}

-- a relation of states and the transitions between them
abbrev Between : Type 1
Between = SourceState → List Transition → SourceState → Type 0

-- ---- a step that was taken

abbrev pub step_transition : SourceState → Event → SourceState → Transition
step_transition s e t = record { at = s.pc; next = t.pc; goes_on = is_going e.outcome; access = e.access }

pub performed : (o : Outcome) (p : Program) (s t : SourceState) (e : Event) → o ≡ GoesOn → StepFrom o p s e t → (read : Option Instr) × Performs p s e t read
performed GoesOn p s t e going step = step
performed (Exited code) p s t e going step = cc
performed (Trapped pc) p s t e going step = cc
performed (AddressFault pc why) p s t e going step = cc

pub same_outcome : (p : Program) (s t : SourceState) (e : Event) (read : Option Instr) → Performs p s e t read → e.outcome ≡ t.outcome
same_outcome p s t e read performs = ap (λ (x : Event). x.outcome) performs.event

transition_is : (p : Program) (s t : SourceState) (e : Event) (read : Option Instr) → Performs p s e t read → step_transition s e t ≡ transition_of p s (next_state p s read) read
transition_is p s t e read performs =
    ap (λ (x : Event). step_transition s x t) performs.event ∙ ap (λ (x : SourceState). transition_of p s x read) performs.state

first_of : (p : Program) (s t : SourceState) (e : Event) (read : Option Instr) → Performs p s e t read → FirstOf (Transitions p 0) p s (step_transition s e t ∷ []) t
first_of p s t e read performs =
    (read, (performs.meant, ([], (ap (λ (x : Transition). x ∷ []) (transition_is p s t e read performs), (refl, performs.state)))))

-- ---- one more at the end

more_from : (o : Outcome) (R S : Between) (p : Program) (s m : SourceState) (ms : List Transition) (x : Transition) (t : SourceState) → o ≡ s.outcome → m.outcome ≡ GoesOn → ((u : SourceState) (others : List Transition) → R u others m → S u (others ++ x ∷ []) t) → TransitionsFrom o R p s ms m → TransitionsFrom o S p s (ms ++ x ∷ []) t
more_from GoesOn R S p s m ms x t is going more run =
    let (read, (meant, (others, (same, rest)))) = run in
    (read, (meant, (others ++ x ∷ [], (ap (λ (l : List Transition). l ++ x ∷ []) same, more (next_state p s read) others rest))))
more_from (Exited code) R S p s m ms x t is going more run = let same = ap (λ (y : SourceState). y.outcome) run.1 in cc
more_from (Trapped pc) R S p s m ms x t is going more run = let same = ap (λ (y : SourceState). y.outcome) run.1 in cc
more_from (AddressFault pc why) R S p s m ms x t is going more run =
    let same = ap (λ (y : SourceState). y.outcome) run.1 in cc

one_from : (o : Outcome) (p : Program) (s t : SourceState) (e : Event) (read : Option Instr) → o ≡ GoesOn → Performs p s e t read → TransitionsFrom o (Transitions p 0) p s (step_transition s e t ∷ []) t
one_from GoesOn p s t e read going performs = first_of p s t e read performs
one_from (Exited code) p s t e read going performs = cc
one_from (Trapped pc) p s t e read going performs = cc
one_from (AddressFault pc why) p s t e read going performs = cc

pub transitions_more : (p : Program) (n : ℕ) (s m t : SourceState) (ms : List Transition) (e : Event) (read : Option Instr) → Transitions p n s ms m → m.outcome ≡ GoesOn → Performs p m e t read → Transitions p (suc n) s (ms ++ step_transition m e t ∷ []) t
transitions_more p zero s m t ms e read run going performs =
    let none = run.0 in
    let one : Transitions p 1 m (step_transition m e t ∷ []) t = one_from m.outcome p m t e read going performs in
    rw none (subst (λ (x : SourceState). Transitions p 1 x (step_transition m e t ∷ []) t) run.1 one)
transitions_more p (suc n) s m t ms e read run going performs =
    more_from s.outcome (Transitions p n) (Transitions p (suc n)) p s m ms (step_transition m e t) t refl going
    (λ u others rest. transitions_more p n u m t others e read rest going performs) run

-- ---- steps behind the end

none_from : (o : Outcome) (R : Between) (p : Program) (s t : SourceState) (ms : List Transition) → HasEnded o → (ms ≡ []) × (t ≡ s) → TransitionsFrom o R p s ms t
none_from GoesOn R p s t ms ended none = absurd ended
none_from (Exited code) R p s t ms ended none = none
none_from (Trapped pc) R p s t ms ended none = none
none_from (AddressFault pc why) R p s t ms ended none = none

all_from : (o : Outcome) (R S : Between) (p : Program) (s t : SourceState) (ms : List Transition) → ((u : SourceState) (others : List Transition) → R u others t → S u others t) → TransitionsFrom o R p s ms t → TransitionsFrom o S p s ms t
all_from GoesOn R S p s t ms all run =
    let (read, (meant, (others, (same, rest)))) = run in (read, (meant, (others, (same, all (next_state p s read) others rest))))
all_from (Exited code) R S p s t ms all run = run
all_from (Trapped pc) R S p s t ms all run = run
all_from (AddressFault pc why) R S p s t ms all run = run

pub transitions_to_end : (p : Program) (k n : ℕ) (s t : SourceState) (ms : List Transition) → k ≤ n → HasEnded t.outcome → Transitions p k s ms t → Transitions p n s ms t
transitions_to_end p zero zero s t ms le ended run = run
transitions_to_end p zero (suc n) s t ms le ended run =
    none_from s.outcome (Transitions p n) p s t ms (subst (λ (x : SourceState). HasEnded x.outcome) run.1 ended) run
transitions_to_end p (suc k) zero s t ms le ended run = absurd (omega arith)
transitions_to_end p (suc k) (suc n) s t ms le ended run =
    all_from s.outcome (Transitions p k) (Transitions p n) p s t ms (λ u others rest. transitions_to_end p k n u t others (omega arith) ended rest) run

-- ---- a machine that goes on makes a transition

some_from : (o : Outcome) (R : Between) (p : Program) (s t : SourceState) (ms : List Transition) → o ≡ GoesOn → TransitionsFrom o R p s ms t → 0 < length ms
some_from GoesOn R p s t ms going run =
    let (read, (meant, (others, (same, rest)))) = run in
    let count = ap (λ (l : List Transition). length l) same in
    omega (arith, count)
some_from (Exited code) R p s t ms going run = cc
some_from (Trapped pc) R p s t ms going run = cc
some_from (AddressFault pc why) R p s t ms going run = cc

pub some_transitions : (p : Program) (n : ℕ) (s t : SourceState) (ms : List Transition) → 0 < n → s.outcome ≡ GoesOn → Transitions p n s ms t → 0 < length ms
some_transitions p zero s t ms some going run = absurd (omega arith)
some_transitions p (suc n) s t ms some going run = some_from s.outcome (Transitions p n) p s t ms going run

-- ---- laws

few_from : (o : Outcome) (n : ℕ) (R : Between) (p : Program) (s t : SourceState) (ms : List Transition) → ((u : SourceState) (others : List Transition) → R u others t → length others ≤ n) → TransitionsFrom o R p s ms t → length ms ≤ suc n
few_from GoesOn n R p s t ms few run =
    let (read, (meant, (others, (same, rest)))) = run in
    let count = ap (λ (l : List Transition). length l) same in
    let less = few (next_state p s read) others rest in
    omega (arith, count, less)
few_from (Exited code) n R p s t ms few run = let count = ap (λ (l : List Transition). length l) run.0 in omega (arith, count)
few_from (Trapped pc) n R p s t ms few run = let count = ap (λ (l : List Transition). length l) run.0 in omega (arith, count)
few_from (AddressFault pc why) n R p s t ms few run =
    let count = ap (λ (l : List Transition). length l) run.0 in omega (arith, count)

pub transitions_few : (p : Program) (n : ℕ) (s t : SourceState) (ms : List Transition) → Transitions p n s ms t → length ms ≤ n
transitions_few p zero s t ms run = let count = ap (λ (l : List Transition). length l) run.0 in omega (arith, count)
transitions_few p (suc n) s t ms run =
    few_from s.outcome n (Transitions p n) p s t ms (λ u others rest. transitions_few p n u t others rest) run

step_by : (o : Outcome) (p : Program) (s t : SourceState) (e : Event) (read : Option Instr) → o ≡ GoesOn → Performs p s e t read → StepFrom o p s e t
step_by GoesOn p s t e read going performs = (read, performs)
step_by (Exited code) p s t e read going performs = cc
step_by (Trapped pc) p s t e read going performs = cc
step_by (AddressFault pc why) p s t e read going performs = cc

steps_from : (o : Outcome) (n : ℕ) (p : Program) (s t : SourceState) (ms : List Transition) → o ≡ s.outcome → ((u : SourceState) (others : List Transition) → Transitions p n u others t → Steps p n u t) → TransitionsFrom o (Transitions p n) p s ms t → Steps p (suc n) s t
steps_from GoesOn n p s t ms is all run =
    let (read, (meant, (others, (same, rest)))) = run in
    let next = next_state p s read in
    let e = event_of p s next read in
    (next, ((e, step_by s.outcome p s next e read (sym is) (record { meant = meant; state = refl; event = refl })), all next others rest))
steps_from (Exited code) n p s t ms is all run =
    subst (Steps p (suc n) s) (sym run.1) (ended_any_steps p (suc n) s (subst HasEnded is tt))
steps_from (Trapped pc) n p s t ms is all run =
    subst (Steps p (suc n) s) (sym run.1) (ended_any_steps p (suc n) s (subst HasEnded is tt))
steps_from (AddressFault pc why) n p s t ms is all run =
    subst (Steps p (suc n) s) (sym run.1) (ended_any_steps p (suc n) s (subst HasEnded is tt))

pub transitions_steps : (p : Program) (n : ℕ) (s t : SourceState) (ms : List Transition) → Transitions p n s ms t → Steps p n s t
transitions_steps p zero s t ms run = run.1
transitions_steps p (suc n) s t ms run =
    steps_from s.outcome n p s t ms refl (λ u others rest. transitions_steps p n u t others rest) run

one_reading : OneInstruction → (w : ℕ) (q r : Option Instr) → Reads w q → Reads w r → q ≡ r
one_reading one w None None a b = refl
one_reading one w None (Some j) a b = absurd (a j b)
one_reading one w (Some i) None a b = absurd (b i a)
one_reading one w (Some i) (Some j) a b = ap Some (one w i j a b)

same_from : OneInstruction → (o : Outcome) (R : Between) (p : Program) (s t u : SourceState) (ms ns : List Transition) → ((v : SourceState) (l k : List Transition) → R v l t → R v k u → l ≡ k) → TransitionsFrom o R p s ms t → TransitionsFrom o R p s ns u → ms ≡ ns
same_from one GoesOn R p s t u ms ns all run other =
    let (read, (meant, (others, (same, rest)))) = run in
    let (read2, (meant2, (others2, (same2, rest2)))) = other in
    let reading : read ≡ read2 = one_reading one (p.word s.pc) read read2 meant meant2 in
    let first = ap (λ (r : Option Instr). transition_of p s (next_state p s r) r) reading in
    let moved = subst (λ (r : Option Instr). R (next_state p s r) others t) reading rest in
    let tail = all (next_state p s read2) others others2 moved rest2 in
    same ∙ (ap (λ (x : Transition). x ∷ others) first ∙ (ap (λ (l : List Transition). transition_of p s (next_state p s read2) read2 ∷ l) tail ∙ sym same2))
same_from one (Exited code) R p s t u ms ns all run other = run.0 ∙ sym other.0
same_from one (Trapped pc) R p s t u ms ns all run other = run.0 ∙ sym other.0
same_from one (AddressFault pc why) R p s t u ms ns all run other = run.0 ∙ sym other.0

pub transitions_same : OneInstruction → (p : Program) (n : ℕ) (s t u : SourceState) (ms ns : List Transition) → Transitions p n s ms t → Transitions p n s ns u → ms ≡ ns
transitions_same one p zero s t u ms ns run other = run.0 ∙ sym other.0
transitions_same one p (suc n) s t u ms ns run other =
    same_from one s.outcome (Transitions p n) p s t u ms ns (λ v l k a b. transitions_same one p n v t u l k a b) run other
