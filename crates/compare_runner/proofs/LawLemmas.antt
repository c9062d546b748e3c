-- There is one trace, and how long it is.
use Rattle.std.proofs.Common.{◌≡◌, ◌⊎◌, inl, inr, ℕ, zero, suc, ◌<◌, ◌≤◌, Bool, true, false, List, [], ◌∷◌, length, Option, Some, None, All, refl, sym, ◌∙◌, ap, subst, arith}
use Rattle.std.proofs.lemmas.Bool.{cases_lt}
use Rattle.std.proofs.lemmas.List.Elements.{All-nil, All-cons}
use Rattle.rv32im.specs.Table.{OneInstruction}
use Rattle.rv32im.specs.declared.instructions.Instr.{Instr}
use Rattle.flat_machine.specs.State.{State}
use Rattle.flat_machine.specs.Step as flat_step
use Rattle.flat_machine.specs.Runs.{Does, Steps}
use Rattle.flat_machine.specs.declared.events.FlatEvent.{FlatEvent}
use Rattle.flat_machine.specs.declared.events.FlatAccess.{FlatAccess}
use Rattle.flat_machine.proofs.Runs.{steps_of_events, one_run, one_list, one_event}
use Rattle.object_machine.specs.declared.events.Access.{Access}
use Rattle.object_machine.specs.declared.events.Outcome.{Outcome}
use Rattle.object_machine.specs.declared.events.Outcome.TheVariants.{GoesOn, Exited, Trapped, AddressFault}
use Rattle.object_machine.specs.State.{SourceState}
use Rattle.object_machine.specs.Step.{Reads, next_state, access_of}
use Rattle.object_machine.specs.Runs.{HasEnded}
use Rattle.object_machine.proofs.RunLemmas.{one_reading}
use Rattle.profile_runner.specs.Transition.{Transition}
use Rattle.profile_runner.specs.Transitions.{transition_of, Transitions, TransitionsFrom}
use Rattle.result_laws.specs.ResultLaws.{most_steps}
use Rattle.compare_runner.specs.declared.marks.TracedStep.{TracedStep}
use Rattle.compare_runner.specs.Comings.{StopsFirst, first_access, IsAtForm}
use Rattle.compare_runner.specs.Tracing.{TracedProgram, region_in, ComesAlong, told_access, CanTell, IsTracedStep, IsLostStep, makes_no_access, comes_nowhere, Traces, Done, Ended, Lost, Goes}
use Rattle.compare_runner.specs.TraceLaws.{OneTrace, TracesAreWhole, TakesFew, TracedStepsAreFew}

-- ---- the first of several steps is one

module _ (one : OneInstruction) (Stops : List FlatEvent → State → Type 0) (s : State) where
  not_shorter : (es fs : List FlatEvent) (t u : State) → StopsFirst Stops s es t → StopsFirst Stops s fs u → length es < length fs → ⊥
  not_shorter es fs t u a b less = b.first es t less a.does a.stops

  pub stops_once : (es fs : List FlatEvent) (t u : State) → StopsFirst Stops s es t → StopsFirst Stops s fs u → (es ≡ fs) × (t ≡ u)
  stops_once es fs t u a b =
      let same : length es ≡ length fs =
      elim (cases_lt (length es) (length fs)) [
        | inl less ↦ absurd (not_shorter es fs t u a b less)
        | inr over ↦
            elim (cases_lt (length fs) (length es)) [
              | inl less ↦ absurd (not_shorter fs es u t b a less)
              | inr under ↦ omega (arith, over, under)
            ]
      ] in
      let steps : Steps (length fs) s t = subst (λ n. Steps n s t) same (steps_of_events es s t a.does) in
      (one_list one es fs s t u same a.does b.does, one_run one (length fs) s t u steps (steps_of_events fs s u b.does))

-- ---- what a trace begins with

pub data Opened (w : TracedProgram) (n region : ℕ) (s : SourceState) (t : State) (xs : List TracedStep) (lost : Bool) : Type 0 where
  is_over : (n ≡ 0) ⊎ HasEnded s.outcome → xs ≡ [] → lost ≡ false → Opened w n region s t xs lost
  is_lost : (m : ℕ) (read : Option Instr) → n ≡ suc m → s.outcome ≡ GoesOn → Reads (w.program.word s.pc) read → IsLostStep w region s read t
      → xs ≡ [] → lost ≡ true → Opened w n region s t xs lost
  is_on : (m : ℕ) (read : Option Instr) (t' : State) (x : TracedStep) (ys : List TracedStep) → n ≡ suc m → s.outcome ≡ GoesOn
      → Reads (w.program.word s.pc) read → IsTracedStep w region s read t x t'
      → Traces w m (region_in w region (next_state w.program s read)) (next_state w.program s read) t' ys lost
      → xs ≡ x ∷ ys → Opened w n region s t xs lost

pub opened : (w : TracedProgram) (n region : ℕ) (s : SourceState) (t : State) (xs : List TracedStep) (lost : Bool) → Traces w n region s t xs lost → Opened w n region s t xs lost
opened w _ _ _ _ _ _ (Done region s t) = is_over (inl refl) refl refl
opened w _ _ _ _ _ _ (Ended n region s t ended) = is_over (inr ended) refl refl
opened w _ _ _ _ _ _ (Lost n region s t read going reads lost) = is_lost n read refl going reads lost refl refl
opened w _ _ _ _ _ _ (Goes n region s t t' read x xs lost going reads step rest) = is_on n read t' x xs refl going reads step rest refl

over_on : (o : Outcome) → HasEnded o → o ≡ GoesOn → ⊥
over_on GoesOn ended going = ended
over_on (Exited code) ended going = cc (going)
over_on (Trapped pc) ended going = cc (going)
over_on (AddressFault pc why) ended going = cc (going)

over_before : (n m : ℕ) (s : SourceState) → (n ≡ 0) ⊎ HasEnded s.outcome → n ≡ suc m → s.outcome ≡ GoesOn → ⊥
over_before n m s (inl none) some going = omega (arith, none, some)
over_before n m s (inr ended) some going = over_on s.outcome ended going

-- ---- a step is traced in one way, or lost

-- two traced steps of one unit are the same
pub record SameStep (x y : TracedStep) (t u : State) : Type 0 where
  pub step : x ≡ y
  pub state : t ≡ u

module _ (one : OneInstruction) (w : TracedProgram) (region : ℕ) (s : SourceState) (t : State) where
  same_step : (read : Option Instr) (x y : TracedStep) (u v : State) → IsTracedStep w region s read t x u → IsTracedStep w region s read t y v → SameStep x y u v
  same_step read x y u v a b =
      let same = stops_once one (ComesAlong w region (next_state w.program s read)) t a.events b.events u v a.comes b.comes in
      let access = access_of w.program s (next_state w.program s read).outcome read in
      record {
        step = a.is
            ∙ (ap (λ (es : List FlatEvent).
            record { home = s.pc; region = region; at = t.hart.pc; steps = length es; access = told_access access (first_access es) }) same.0
            ∙ sym b.is);
        state = same.1;
      }

  -- where the step has an access that can't be told, it isn't traced
  not_silent : (access : Option Access) (a : Access) (es : List FlatEvent) (e : FlatEvent) (m u : State) → access ≡ Some a → flat_step.Step t e m → e.access ≡ None → Does es t u → 0 < length es → CanTell access (first_access es) → ⊥
  not_silent access a [] e m u is step none does some can = absurd (omega (arith, some))
  not_silent access a (f ∷ es) e m u is step none does some can =
      let event : f ≡ e = one_event one t does.0 m f e does.1.0 step in
      let made : f.access ≡ None = ap (λ (x : FlatEvent). x.access) event ∙ none in
      subst (λ (q : Option FlatAccess). CanTell (Some a) q) made (subst (λ (q : Option Access). CanTell q f.access) is can)

  not_both : (read : Option Instr) (x : TracedStep) (u : State) → IsLostStep w region s read t → IsTracedStep w region s read t x u → ⊥
  not_both read x u (makes_no_access access e m is step none) b =
      not_silent (access_of w.program s (next_state w.program s read).outcome read) access b.events e m u is step none b.comes.does b.comes.stops.0 b.can
  not_both read x u (comes_nowhere never) b = never b.events u b.few b.comes.does b.comes.stops

-- ---- one trace

pub record SameTrace (xs ys : List TracedStep) (lost gone : Bool) : Type 0 where
  pub steps : xs ≡ ys
  pub lost_is : lost ≡ gone

module _ (one : OneInstruction) (w : TracedProgram) where
  differ : (region : ℕ) (s : SourceState) (t : State) (read other : Option Instr) (y : TracedStep) (v : State) → Reads (w.program.word s.pc) read → Reads (w.program.word s.pc) other → IsLostStep w region s read t → IsTracedStep w region s other t y v → ⊥
  differ region s t read other y v reads others lost traced =
      let same : read ≡ other = one_reading one (w.program.word s.pc) read other reads others in
      not_both one w region s t other y v (subst (λ (q : Option Instr). IsLostStep w region s q t) same lost) traced

  -- what is traced of fewer steps is so in one way
  abbrev TracedOnce : ℕ → Type 0
  TracedOnce m =
      (region : ℕ) (s : SourceState) (t : State) (xs ys : List TracedStep) (lost gone : Bool)
      → Traces w m region s t xs lost → Traces w m region s t ys gone → SameTrace xs ys lost gone

  module _ (n : ℕ) (again : (m : ℕ) → n ≡ suc m → TracedOnce m) (region : ℕ) (s : SourceState) (t : State) where
    -- both go on
    both_on : (m k : ℕ) (read other : Option Instr) (u v : State) (x y : TracedStep) (xs ys : List TracedStep) (lost gone : Bool) → n ≡ suc m → n ≡ suc k → Reads (w.program.word s.pc) read → Reads (w.program.word s.pc) other → IsTracedStep w region s read t x u → IsTracedStep w region s other t y v → Traces w m (region_in w region (next_state w.program s read)) (next_state w.program s read) u xs lost → Traces w k (region_in w region (next_state w.program s other)) (next_state w.program s other) v ys gone → SameTrace (x ∷ xs) (y ∷ ys) lost gone
    both_on m k read other u v x y xs ys lost gone left right reads others step tells rest more =
        let number : m ≡ k = omega (arith, left, right) in
        let same : read ≡ other = one_reading one (w.program.word s.pc) read other reads others in
        let one_step = same_step one w region s t other x y u v (subst (λ (q : Option Instr). IsTracedStep w region s q t x u) same step) tells in
        let moved : Traces w m (region_in w region (next_state w.program s other)) (next_state w.program s other) u xs lost =
        subst (λ (q : Option Instr). Traces w m (region_in w region (next_state w.program s q)) (next_state w.program s q) u xs lost) same rest in
        let there = subst (λ (z : State). Traces w m (region_in w region (next_state w.program s other)) (next_state w.program s other) z xs lost) one_step.state moved in
        let counted = subst (λ (j : ℕ). Traces w j (region_in w region (next_state w.program s other)) (next_state w.program s other) v xs lost) number there in
        let others_same = again k right (region_in w region (next_state w.program s other)) (next_state w.program s other) v xs ys lost gone counted more in
        let tails : xs ≡ ys = others_same.steps in
        let heads : x ≡ y = one_step.step in
        record { steps = ap (λ z. z ∷ xs) heads ∙ ap (λ zs. y ∷ zs) tails; lost_is = others_same.lost_is }

    pub both : (xs ys : List TracedStep) (lost gone : Bool) → Opened w n region s t xs lost → Opened w n region s t ys gone → SameTrace xs ys lost gone
    both xs ys lost gone (is_over over none none_told) (is_over too nothing never) = record { steps = none ∙ sym nothing; lost_is = none_told ∙ sym never }
    both xs ys lost gone (is_over over none none_told) (is_lost k other some going others cant nothing all) = absurd (over_before n k s over some going)
    both xs ys lost gone (is_over over none none_told) (is_on k other v y zs some going others tells more is) = absurd (over_before n k s over some going)
    both xs ys lost gone (is_lost m read few going reads cant none all) (is_over too nothing never) = absurd (over_before n m s too few going)
    both xs ys lost gone (is_lost m read few going reads cant none all) (is_lost k other some goes others cannot nothing too) = record { steps = none ∙ sym nothing; lost_is = all ∙ sym too }
    both xs ys lost gone (is_lost m read few going reads cant none all) (is_on k other v y zs some goes others tells more is) = absurd (differ region s t read other y v reads others cant tells)
    both xs ys lost gone (is_on m read u x rs few going reads step rest is) (is_over too nothing never) = absurd (over_before n m s too few going)
    both xs ys lost gone (is_on m read u x rs few going reads step rest is) (is_lost k other some goes others cannot nothing too) = absurd (differ region s t other read x u others reads cannot step)
    both xs ys lost gone (is_on m read u x rs few going reads step rest is) (is_on k other v y zs some goes others tells more too) =
        let same = both_on m k read other u v x y rs zs lost gone few some reads others step tells rest more in
        record { steps = is ∙ (same.steps ∙ sym too); lost_is = same.lost_is }

  pub traced_once : (n : ℕ) → TracedOnce n
  traced_once zero region s t xs ys lost gone a b =
      both 0 (λ m few. absurd (omega (arith, few))) region s t xs ys lost gone (opened w 0 region s t xs lost a) (opened w 0 region s t ys gone b)
  traced_once (suc k) region s t xs ys lost gone a b =
      both (suc k)
      (λ m few region' s' t' xs' ys' lost' gone' a' b'.
      let same : m ≡ k = omega (arith, few) in
      traced_once k region' s' t' xs' ys' lost' gone' (subst (λ (j : ℕ). Traces w j region' s' t' xs' lost') same a') (subst (λ (j : ℕ). Traces w j region' s' t' ys' gone') same b'))
      region s t xs ys lost gone (opened w (suc k) region s t xs lost a) (opened w (suc k) region s t ys gone b)

pub one_trace : OneInstruction → OneTrace
one_trace one w n s t start other steps others lost gone a b =
    let same = stops_once one (IsAtForm w.units w.board 0 (region_in w 0 s) s.pc) t a.events b.events a.first b.first a.comes b.comes in
    let moved : Traces w n (region_in w 0 s) s b.first steps lost = subst (λ (x : State). Traces w n (region_in w 0 s) s x steps lost) same.1 a.traced in
    let traces = traced_once one w n (region_in w 0 s) s b.first steps others lost gone moved b.traced in
    record {
      same_start = a.start_is ∙ (ap length same.0 ∙ sym b.start_is);
      same_steps = traces.steps;
      same_lost = traces.lost_is;
    }

-- ---- how long it is

-- a trace that isn't lost has so many steps, and another fewer
abbrev IsAsLong : Bool → ℕ → ℕ → Type 0
IsAsLong false k m = k ≡ m
IsAsLong true k m = k < m

module _ (one : OneInstruction) (w : TracedProgram) (last : SourceState) where
  abbrev AreCounted : ℕ → Type 0
  AreCounted n =
      (region : ℕ) (s : SourceState) (t : State) (xs : List TracedStep) (lost : Bool) (ms : List Transition)
      → Transitions w.program n s ms last → Traces w n region s t xs lost → IsAsLong lost (length xs) (length ms)

  long_more : (lost : Bool) (k m : ℕ) → IsAsLong lost k m → IsAsLong lost (suc k) (suc m)
  long_more false k m is = ap suc is
  long_more true k m less = omega (arith, less)

  -- where nothing is left of either
  none_left : (lost : Bool) (xs : List TracedStep) (ms : List Transition) → lost ≡ false → xs ≡ [] → ms ≡ [] → IsAsLong lost (length xs) (length ms)
  none_left lost xs ms none_told none nothing =
      subst (λ (b : Bool). IsAsLong b (length xs) (length ms)) (sym none_told) (ap length none ∙ sym (ap length nothing))

  -- the program has ended, or no step is left
  counted_over : (n region : ℕ) (s : SourceState) (t : State) (xs : List TracedStep) (lost : Bool) (ms : List Transition) → (n ≡ 0) ⊎ HasEnded s.outcome → ms ≡ [] → Opened w n region s t xs lost → IsAsLong lost (length xs) (length ms)
  counted_over n region s t xs lost ms over nothing (is_over too none none_told) = none_left lost xs ms none_told none nothing
  counted_over n region s t xs lost ms over nothing (is_lost m read few going reads cant none all) = absurd (over_before n m s over few going)
  counted_over n region s t xs lost ms over nothing (is_on m read u x ys few going reads step rest is) = absurd (over_before n m s over few going)

  counted_on : (n : ℕ) → AreCounted n → (region : ℕ) (s : SourceState) (t : State) (xs : List TracedStep) (lost : Bool) (m : Transition) (others : List Transition) (read : Option Instr) → s.outcome ≡ GoesOn → Reads (w.program.word s.pc) read → Transitions w.program n (next_state w.program s read) others last → Opened w (suc n) region s t xs lost → IsAsLong lost (length xs) (length (m ∷ others))
  counted_on n again region s t xs lost m others read going reads rest (is_over over none none_told) = absurd (over_before (suc n) n s over refl going)
  counted_on n again region s t xs lost m others read going reads rest (is_lost k other few goes meant cant none all) =
      let short = ap length none in
      subst (λ (b : Bool). IsAsLong b (length xs) (suc (length others))) (sym all) (omega (arith, short))
  counted_on n again region s t xs lost m others read going reads rest (is_on k other u x ys few goes meant step more is) =
      let number : k ≡ n = omega (arith, few) in
      let same : read ≡ other = one_reading one (w.program.word s.pc) read other reads meant in
      let moved = subst (λ (q : Option Instr). Transitions w.program n (next_state w.program s q) others last) same rest in
      let counted = subst (λ (j : ℕ). Traces w j (region_in w region (next_state w.program s other)) (next_state w.program s other) u ys lost) number more in
      let tail = again (region_in w region (next_state w.program s other)) (next_state w.program s other) u ys lost others moved counted in
      subst (λ (zs : List TracedStep). IsAsLong lost (length zs) (suc (length others))) (sym is) (long_more lost (length ys) (length others) tail)

  counted_by : (o : Outcome) (n : ℕ) → AreCounted n → (region : ℕ) (s : SourceState) (t : State) (xs : List TracedStep) (lost : Bool) (ms : List Transition) → s.outcome ≡ o → TransitionsFrom o (Transitions w.program n) w.program s ms last → Opened w (suc n) region s t xs lost → IsAsLong lost (length xs) (length ms)
  counted_by GoesOn n again region s t xs lost ms is run first =
      let (read, (meant, (others, (same, rest)))) = run in
      subst (λ (zs : List Transition). IsAsLong lost (length xs) (length zs)) (sym same)
      (counted_on n again region s t xs lost (transition_of w.program s (next_state w.program s read) read) others read is meant rest first)
  counted_by (Exited code) n again region s t xs lost ms is run first =
      counted_over (suc n) region s t xs lost ms (inr (subst HasEnded (sym is) tt)) run.0 first
  counted_by (Trapped pc) n again region s t xs lost ms is run first =
      counted_over (suc n) region s t xs lost ms (inr (subst HasEnded (sym is) tt)) run.0 first
  counted_by (AddressFault pc why) n again region s t xs lost ms is run first =
      counted_over (suc n) region s t xs lost ms (inr (subst HasEnded (sym is) tt)) run.0 first

  pub counted : (n : ℕ) → AreCounted n
  counted zero region s t xs lost ms run traces = counted_over 0 region s t xs lost ms (inl refl) run.0 (opened w 0 region s t xs lost traces)
  counted (suc n) region s t xs lost ms run traces =
      counted_by s.outcome n (counted n) region s t xs lost ms refl run (opened w (suc n) region s t xs lost traces)

pub traces_are_whole : OneInstruction → TracesAreWhole
traces_are_whole one w n s last t start steps ms run = (
  λ trace. counted one w last n (region_in w 0 s) s trace.first steps false ms run trace.traced,
  λ trace. counted one w last n (region_in w 0 s) s trace.first steps true ms run trace.traced,
)

-- ---- few steps each

few_step : (w : TracedProgram) (region : ℕ) (s : SourceState) (read : Option Instr) (t t' : State) (x : TracedStep) → IsTracedStep w region s read t x t' → TakesFew w.board x
few_step w region s read t t' x step =
    let is : x.steps ≡ length step.events = ap (λ (y : TracedStep). y.steps) step.is in
    let some = step.comes.stops.0 in
    let few = step.few in
    (omega (arith, is, some), subst (λ k. k ≤ most_steps w.board) (sym is) few)

few_each : (w : TracedProgram) (n region : ℕ) (s : SourceState) (t : State) (xs : List TracedStep) (lost : Bool) → Traces w n region s t xs lost → All (TakesFew w.board) xs
few_each w _ _ _ _ _ _ (Done region s t) = All-nil (TakesFew w.board)
few_each w _ _ _ _ _ _ (Ended n region s t ended) = All-nil (TakesFew w.board)
few_each w _ _ _ _ _ _ (Lost n region s t read going reads lost) = All-nil (TakesFew w.board)
few_each w _ _ _ _ _ _ (Goes n region s t t' read x xs lost going reads step rest) =
    All-cons (TakesFew w.board) x xs (few_step w region s read t t' x step)
    (few_each w n (region_in w region (next_state w.program s read)) (next_state w.program s read) t' xs lost rest)

pub steps_are_few : TracedStepsAreFew
steps_are_few w n s t start steps lost trace = few_each w n (region_in w 0 s) s trace.first steps lost trace.traced
