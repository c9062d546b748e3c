-- What is told of a step.
use Rattle.std.proofs.Common.{◌≡◌, ℕ, List, [], ◌∷◌, Option, Some, None, refl, sym, ◌∙◌, ap, subst}
use Rattle.std.specs.Prelude.{MatchOption}
use Rattle.rv32im.specs.declared.instructions.Instr.{Instr}
use Rattle.board_config.specs.declared.board.Range.{Range}
use Rattle.flat_machine.specs.State.{State}
use Rattle.flat_machine.specs.declared.events.FlatAccess.{FlatAccess}
use Rattle.flat_machine.specs.declared.events.FlatEvent.{FlatEvent}
use Rattle.object_machine.specs.declared.events.Access.{Access}
use Rattle.object_machine.specs.declared.events.Event.{Event}
use Rattle.object_machine.specs.declared.events.Outcome.{Outcome}
use Rattle.object_machine.specs.State.{SourceState}
use Rattle.object_machine.specs.Step.{next_state, access_of, Performs}
use Rattle.result_laws.specs.ResultLaws.{most_steps}
use Rattle.compare_runner.specs.declared.forms.Sought.{Sought}
use Rattle.compare_runner.specs.declared.marks.TracedStep.{TracedStep}
use Rattle.compare_runner.specs.declared.seeking.Came.{Came}
use Rattle.compare_runner.specs.declared.seeking.Next.{Next}
use Rattle.compare_runner.specs.Comings.{StopsFirst, StopsNever, first_access}
use Rattle.compare_runner.specs.Seeking.{Comes, next_by, CameBy}
use Rattle.compare_runner.specs.Stepping.{told_step, TracesStep}
use Rattle.compare_runner.specs.Tracing.{TracedProgram, region_in, ComesAlong, told_access, CanTell, IsTracedStep, IsLostStep, makes_no_access, comes_nowhere}
use Rattle.compare_runner.proofs.ComingLemmas.{comes_along, along_comes, stops_same}

-- what can't be told is an access to which the first step makes none
silent : (access : Option Access) (made : Option FlatAccess) → (CanTell access made → ⊥) → (a : Access) × ((access ≡ Some a) × (made ≡ None))
silent None made can = absurd (can tt)
silent (Some a) (Some m) can = absurd (can tt)
silent (Some a) None can = (a, (refl, refl))

module _ (w : TracedProgram) (region : ℕ) (s s' : SourceState) (read : Option Instr) (e : Event) (performs : Performs w.program s e s' read) (sought : Sought) (units_are : sought.units.now ≡ w.units) (from_is : sought.from ≡ region) (to_is : sought.to ≡ region_in w region s') (home_is : sought.home ≡ s'.pc) where
  abbrev next : SourceState
  next = next_state w.program s read

  outcome_is : e.outcome ≡ next.outcome
  outcome_is = ap (λ (x : Event). x.outcome) performs.event ∙ ap (λ (x : SourceState). x.outcome) performs.state

  access_is : e.access ≡ access_of w.program s next.outcome read
  access_is =
      ap (λ (x : Event). x.access) performs.event ∙ ap (λ (x : SourceState). access_of w.program s x.outcome read) performs.state

  along : (es : List FlatEvent) (t : State) → Comes w.board.patch (next_by e.outcome sought) es t → ComesAlong w region next es t
  along es t comes =
      comes_along w region next sought units_are from_is
      (to_is ∙ ap (λ (x : SourceState). region_in w region x) performs.state)
      (home_is ∙ ap (λ (x : SourceState). x.pc) performs.state)
      next.outcome es t (subst (λ (o : Outcome). Comes w.board.patch (next_by o sought) es t) outcome_is comes)

  comes : (es : List FlatEvent) (t : State) → ComesAlong w region next es t → Comes w.board.patch (next_by e.outcome sought) es t
  comes es t is =
      subst (λ (o : Outcome). Comes w.board.patch (next_by o sought) es t) (sym outcome_is)
      (along_comes w region next sought units_are from_is
      (to_is ∙ ap (λ (x : SourceState). region_in w region x) performs.state)
      (home_is ∙ ap (λ (x : SourceState). x.pc) performs.state)
      next.outcome es t is)

  lost_nowhere : (t : State) → StopsNever (Comes w.board.patch (next_by e.outcome sought)) (most_steps w.board) t → IsLostStep w region s read t
  lost_nowhere t never = comes_nowhere (λ es u few does is. never es u few does (comes es u is))

  silent_first : (t t' : State) (a : Access) → e.access ≡ Some a → (es : List FlatEvent) → StopsFirst (Comes w.board.patch (next_by e.outcome sought)) t es t' → first_access es ≡ None → IsLostStep w region s read t
  silent_first t t' a has [] first none = absurd first.stops
  silent_first t t' a has (f ∷ es) first none = makes_no_access a f first.does.0 (sym access_is ∙ has) first.does.1.0 none

  lost_silent : (t t' : State) (came : Came) → CameBy (Comes w.board.patch (next_by e.outcome sought)) (most_steps w.board) t came t' → (CanTell e.access came.access → ⊥) → IsLostStep w region s read t
  lost_silent t t' came c can =
      let silence = silent e.access came.access can in
      silent_first t t' silence.0 silence.1.0 c.events c.first (sym c.access ∙ silence.1.1)

  told_of : (t t' : State) (came : Came) (x : TracedStep) → CameBy (Comes w.board.patch (next_by e.outcome sought)) (most_steps w.board) t came t' → CanTell e.access came.access → x ≡ told_step e region t.hart.pc came → IsTracedStep w region s read t x t'
  told_of t t' came x c can is =
      record {
        events = c.events;
        comes = stops_same (Comes w.board.patch (next_by e.outcome sought)) (ComesAlong w region next) along comes t c.events t' c.first;
        few = c.few;
        can = subst (λ (a : Option Access). CanTell a (first_access c.events)) access_is
            (subst (λ (m : Option FlatAccess). CanTell e.access m) c.access can);
        is = is
            ∙ (λ i.
            record {
              home = ap (λ (y : Event). y.at) performs.event i;
              region = region;
              at = t.hart.pc;
              steps = c.count i;
              access = told_access (access_is i) (c.access i);
            });
      }

  -- what the code tells where the machine comes there
  told_came : (t t' : State) (came : Came) (told : Option TracedStep) → CameBy (Comes w.board.patch (next_by e.outcome sought)) (most_steps w.board) t came t' → MatchOption told (CanTell e.access came.access → ⊥) (λ x. CanTell e.access came.access × (x ≡ told_step e region t.hart.pc came)) → MatchOption told (IsLostStep w region s read t) (λ x. IsTracedStep w region s read t x t')
  told_came t t' came None c can = lost_silent t t' came c can
  told_came t t' came (Some x) c is = told_of t t' came x c is.0 is.1

  -- the same of what the code has: the place and the bound that it computes, and the address of the form
  told_by : (patch : Range) (search : Next) (most at : ℕ) (t t' : State) (came : Came) (told : Option TracedStep) → patch ≡ w.board.patch → search ≡ next_by e.outcome sought → most ≡ most_steps w.board → at ≡ t.hart.pc → CameBy (Comes patch search) most t came t' → MatchOption told (CanTell e.access came.access → ⊥) (λ x. CanTell e.access came.access × (x ≡ told_step e region at came)) → MatchOption told (IsLostStep w region s read t) (λ x. IsTracedStep w region s read t x t')
  told_by patch search most at t t' came told patch_is search_is most_is at_is c can =
      told_came t t' came told
      (subst (λ (m : ℕ). CameBy (Comes w.board.patch (next_by e.outcome sought)) m t came t') most_is
      (subst (λ (y : Next). CameBy (Comes w.board.patch y) most t came t') search_is
      (subst (λ (r : Range). CameBy (Comes r search) most t came t') patch_is c)))
      (subst (λ (a : ℕ). MatchOption told (CanTell e.access came.access → ⊥) (λ x. CanTell e.access came.access × (x ≡ told_step e region a came))) at_is can)

  lost_by : (patch : Range) (search : Next) (most : ℕ) (t : State) → patch ≡ w.board.patch → search ≡ next_by e.outcome sought → most ≡ most_steps w.board → StopsNever (Comes patch search) most t → IsLostStep w region s read t
  lost_by patch search most t patch_is search_is most_is never =
      lost_nowhere t
      (subst (λ (m : ℕ). StopsNever (Comes w.board.patch (next_by e.outcome sought)) m t) most_is
      (subst (λ (y : Next). StopsNever (Comes w.board.patch y) most t) search_is
      (subst (λ (r : Range). StopsNever (Comes r search) most t) patch_is never)))

  -- where the code looked for the machine, whether it came there or not
  pub told_found : (patch : Range) (search : Next) (most at : ℕ) (t t' : State) (found : Option Came) (told : Option TracedStep) → patch ≡ w.board.patch → search ≡ next_by e.outcome sought → most ≡ most_steps w.board → at ≡ t.hart.pc → MatchOption found (StopsNever (Comes patch search) most t) (λ came. CameBy (Comes patch search) most t came t') → MatchOption found (told ≡ None) (λ came. MatchOption told (CanTell e.access came.access → ⊥) (λ x. CanTell e.access came.access × (x ≡ told_step e region at came))) → MatchOption told (IsLostStep w region s read t) (λ x. IsTracedStep w region s read t x t')
  told_found patch search most at t t' None told patch_is search_is most_is at_is never none =
      subst (λ (o : Option TracedStep). MatchOption o (IsLostStep w region s read t) (λ x. IsTracedStep w region s read t x t')) (sym none)
      (lost_by patch search most t patch_is search_is most_is never)
  told_found patch search most at t t' (Some came) told patch_is search_is most_is at_is c can =
      told_by patch search most at t t' came told patch_is search_is most_is at_is c can

  pub traces : (t t' : State) (region' : ℕ) (told : Option TracedStep) → region' ≡ region_in w region s' → MatchOption told (IsLostStep w region s read t) (λ x. IsTracedStep w region s read t x t') → TracesStep w region s t region' s' t' told
  traces t t' region' told region_is is =
      record { read = read; reads = performs.meant; state = performs.state; region_is = region_is; is = is }
