-- Steps of the flat machine up to the first behind which something holds.
use Rattle.std.proofs.Common.{◌≡◌, inl, inr, ℕ, suc, ◌+◌, ◌<◌, ◌≤◌, Bool, List, [], ◌∷◌, ◌++◌, length, Option, Some, None, refl, sym, ◌∙◌, ap, subst, arith, length-append}
use Rattle.std.specs.Prelude.{MatchOption}
use Rattle.std.proofs.lemmas.Bool.{cases_lt}
use Rattle.rv32im.specs.Table.{OneInstruction}
use Rattle.board_config.specs.declared.board.Range.{Range}
use Rattle.flat_machine.specs.Mapping.{in_range}
use Rattle.flat_machine.specs.State.{State}
use Rattle.flat_machine.specs.Step.{Step}
use Rattle.flat_machine.specs.Runs.{Does, Steps}
use Rattle.flat_machine.specs.declared.events.FlatEvent.{FlatEvent}
use Rattle.flat_machine.specs.declared.events.FlatOutcome.{FlatOutcome}
use Rattle.flat_machine.proofs.Runs.{does_joined, steps_of_events, one_run, one_list, one_event, one_state}
use Rattle.compare_runner.proofs.FarLemmas.{told_outcome}
use Rattle.compare_runner.specs.declared.seeking.Came.{Came}
use Rattle.compare_runner.specs.declared.seeking.LastStep.{LastStep}
use Rattle.compare_runner.specs.declared.seeking.Next.{Next}
use Rattle.compare_runner.specs.Comings.{StopsNever}
use Rattle.compare_runner.specs.Seeking.{IsThere, patched_behind, Finds, Comes, StopsAfter, StopsNotBelow, CameBy}

-- ---- the patch range

pub patched_more : (patch : Range) (before : Bool) (es : List FlatEvent) (e : FlatEvent) → patched_behind patch before (es ++ e ∷ []) ≡ in_range patch e.at
patched_more patch before [] e = refl
patched_more patch before (f ∷ es) e = patched_more patch (in_range patch f.at) es e

-- ---- where the machine isn't yet

-- so many steps were taken, behind none before them was it where it is looked for, and this is told of the last
pub record SeekSoFar (patch : Range) (next : Next) (before : Bool) (s : State) (k : ℕ) (t : State) (last : LastStep) : Type 0 where
  pub events : List FlatEvent
  pub does : Does events s t
  pub count : length events ≡ k
  pub none : (fs : List FlatEvent) (m : State) → length fs < k → Does fs s m → Finds patch next before fs m → ⊥
  pub patched : last.patched ≡ patched_behind patch before events
  pub outcome : last.outcome ≡ t.outcome

pub nothing_sought : (patch : Range) (next : Next) (s : State) (last : LastStep) → last.outcome ≡ s.outcome → SeekSoFar patch next last.patched s 0 s last
nothing_sought patch next s last outcome =
    record {
      events = [];
      does = refl;
      count = refl;
      none = λ fs m less does found. absurd (omega (arith, less));
      patched = refl;
      outcome = outcome;
    }

module _ (one : OneInstruction) (patch : Range) (next : Next) (before : Bool) (s : State) where
  -- what the last step tells is what is asked of all
  there_of : (k : ℕ) (t : State) (last : LastStep) (r : SeekSoFar patch next before s k t last) → IsThere next last.patched last.outcome t.hart.pc → Finds patch next before r.events t
  there_of k t last r there =
      subst (λ (o : FlatOutcome). IsThere next (patched_behind patch before r.events) o t.hart.pc) r.outcome
      (subst (λ (b : Bool). IsThere next b last.outcome t.hart.pc) r.patched there)

  of_there : (k : ℕ) (t : State) (last : LastStep) (r : SeekSoFar patch next before s k t last) → Finds patch next before r.events t → IsThere next last.patched last.outcome t.hart.pc
  of_there k t last r found =
      subst (λ (b : Bool). IsThere next b last.outcome t.hart.pc) (sym r.patched)
      (subst (λ (o : FlatOutcome). IsThere next (patched_behind patch before r.events) o t.hart.pc) (sym r.outcome) found)

  -- behind as many steps it isn't there either, if the last step doesn't tell so
  not_here : (k : ℕ) (t : State) (last : LastStep) → SeekSoFar patch next before s k t last → (IsThere next last.patched last.outcome t.hart.pc → ⊥) → (fs : List FlatEvent) (m : State) → length fs ≡ k → Does fs s m → Finds patch next before fs m → ⊥
  not_here k t last r nowhere fs m many does found =
      let same : fs ≡ r.events = one_list one fs r.events s m t (many ∙ sym r.count) does r.does in
      let steps : Steps k s m = subst (λ n. Steps n s m) many (steps_of_events fs s m does) in
      let others : Steps k s t = subst (λ n. Steps n s t) r.count (steps_of_events r.events s t r.does) in
      let here : m ≡ t = one_run one k s m t steps others in
      let by_events = subst (λ (es : List FlatEvent). Finds patch next before es m) same found in
      nowhere (of_there k t last r (subst (λ (x : State). Finds patch next before r.events x) here by_events))

  pub seek_more : (k : ℕ) (t u : State) (last told : LastStep) (e : FlatEvent) → SeekSoFar patch next before s k t last → (IsThere next last.patched last.outcome t.hart.pc → ⊥) → Step t e u → told.patched ≡ in_range patch e.at → told.outcome ≡ e.outcome → SeekSoFar patch next before s (k + 1) u told
  seek_more k t u last told e r nowhere step patched outcome =
      record {
        events = r.events ++ e ∷ [];
        does = does_joined r.events (e ∷ []) s t u r.does (u, (step, refl));
        count = length-append r.events (e ∷ []) ∙ ap (λ n. n + 1) r.count;
        none = λ fs m less does found.
            elim (cases_lt (length fs) k) [
              | inl below ↦ r.none fs m below does found
              | inr over ↦ not_here k t last r nowhere fs m (omega (arith, less, over)) does found
            ];
        patched = patched ∙ sym (patched_more patch before r.events e);
        outcome = outcome ∙ told_outcome t u e step;
      }

  pub sought_there : (k : ℕ) (t : State) (last : LastStep) → SeekSoFar patch next before s k t last → IsThere next last.patched last.outcome t.hart.pc → StopsAfter (Finds patch next before) s k t
  sought_there k t last r there =
      record {
        events = r.events;
        count = r.count;
        first = record {
          does = r.does;
          stops = there_of k t last r there;
          first = λ fs m less does found. let count = r.count in r.none fs m (omega (arith, less, count)) does found;
        };
      }

  pub sought_nowhere : (k : ℕ) (t : State) (last : LastStep) → SeekSoFar patch next before s k t last → StopsNotBelow (Finds patch next before) k s
  sought_nowhere k t last r es m below does found = r.none es m below does found

-- ---- behind one step and more

module _ (one : OneInstruction) (patch : Range) (next : Next) (most : ℕ) (s m : State) (e : FlatEvent) (step : Step s e m) where
  -- another run takes the same first step
  comes_behind : (k : ℕ) (t : State) (r : StopsAfter (Finds patch next (in_range patch e.at)) m k t) (fs : List FlatEvent) (u : State) → length fs < suc (length r.events) → Does fs s u → Comes patch next fs u → ⊥
  comes_behind k t r [] u less does comes = absurd comes
  comes_behind k t r (f ∷ fs) u less does comes =
      let event : f ≡ e = one_event one s does.0 m f e does.1.0 step in
      let state : does.0 ≡ m = one_state one s does.0 m f e does.1.0 step in
      r.first.first fs u (omega (arith, less)) (subst (λ (x : State). Does fs x u) state does.1.1)
      (subst (λ (x : FlatEvent). Finds patch next (in_range patch x.at) fs u) event comes)

  came_by : (k : ℕ) (t : State) (came : Came) → StopsAfter (Finds patch next (in_range patch e.at)) m k t → k < most → came.steps ≡ k + 1 → came.access ≡ e.access → CameBy (Comes patch next) most s came t
  came_by k t came r below steps access =
      let count = r.count in
      record {
        events = e ∷ r.events;
        first = record {
          does = (m, (step, r.first.does));
          stops = r.first.stops;
          first = comes_behind k t r;
        };
        few = omega (arith, count, below);
        count = omega (arith, count, steps);
        access = access;
      }

  never_from : StopsNotBelow (Finds patch next (in_range patch e.at)) most m → (fs : List FlatEvent) (u : State) → length fs ≤ most → Does fs s u → Comes patch next fs u → ⊥
  never_from nowhere [] u few does comes = absurd comes
  never_from nowhere (f ∷ fs) u few does comes =
      let event : f ≡ e = one_event one s does.0 m f e does.1.0 step in
      let state : does.0 ≡ m = one_state one s does.0 m f e does.1.0 step in
      nowhere fs u (omega (arith, few)) (subst (λ (x : State). Does fs x u) state does.1.1)
      (subst (λ (x : FlatEvent). Finds patch next (in_range patch x.at) fs u) event comes)

  comes_never : StopsNotBelow (Finds patch next (in_range patch e.at)) most m → StopsNever (Comes patch next) most s
  comes_never nowhere es t few does comes = never_from nowhere es t few does comes

  -- the same of what the code has: what the first step tells of the patch range, and what the search behind it found
  pub came_found : (before : Bool) (found : Option ℕ) (k : ℕ) (t : State) (came : Came) → before ≡ in_range patch e.at → found ≡ Some k → MatchOption found (StopsNotBelow (Finds patch next before) most m) (λ j. (j < most) × StopsAfter (Finds patch next before) m j t) → came.steps ≡ k + 1 → came.access ≡ e.access → CameBy (Comes patch next) most s came t
  came_found before found k t came before_is is r steps access =
      let there = subst (λ (o : Option ℕ). MatchOption o (StopsNotBelow (Finds patch next before) most m) (λ j. (j < most) × StopsAfter (Finds patch next before) m j t)) is r in
      came_by k t came (subst (λ (b : Bool). StopsAfter (Finds patch next b) m k t) before_is there.1) there.0 steps access

  pub never_found : (before : Bool) (found : Option ℕ) (t : State) → before ≡ in_range patch e.at → found ≡ None → MatchOption found (StopsNotBelow (Finds patch next before) most m) (λ j. (j < most) × StopsAfter (Finds patch next before) m j t) → StopsNever (Comes patch next) most s
  never_found before found t before_is is r =
      comes_never
      (subst (λ (b : Bool). StopsNotBelow (Finds patch next b) most m) before_is
      (subst (λ (o : Option ℕ). MatchOption o (StopsNotBelow (Finds patch next before) most m) (λ j. (j < most) × StopsAfter (Finds patch next before) m j t)) is r))
