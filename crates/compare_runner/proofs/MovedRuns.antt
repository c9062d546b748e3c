-- Beside a run of its program a result with moved items is traced to the end.
use Rattle.std.proofs.Common.{◌≡◌, ◌∙◌, inl, inr, ℕ, suc, List, [], ◌++◌, Option, refl, sym, subst, arith}
use Rattle.rv32im.specs.Memory.{word_at}
use Rattle.rv32im.specs.declared.instructions.Instr.{Instr}
use Rattle.board_config.specs.declared.board.Board.{Board}
use Rattle.flat_machine.specs.State.{State}
use Rattle.flat_machine.specs.Runs.{Does}
use Rattle.flat_machine.specs.declared.events.FlatEvent.{FlatEvent}
use Rattle.flat_machine.proofs.Runs.{does_joined, does_cut}
use Rattle.object_graph.specs.declared.parts.Graph.{Graph}
use Rattle.code_blocks.specs.declared.parts.Code.{Code}
use Rattle.cell_values.specs.Stands.{Places}
use Rattle.object_machine.specs.declared.events.Outcome.TheVariants.{GoesOn}
use Rattle.object_machine.specs.State.{SourceState}
use Rattle.object_machine.specs.Step.{Reads, next_state}
use Rattle.simulation.specs.Laws.{EndsAlike}
use Rattle.simulation.proofs.Unnamed.{next_same}
use Rattle.result_laws.specs.ChosenPlacement.{ChosenPlacement, places_in}
use Rattle.result_laws.specs.PlacedLaws.{IsPlacedResult}
use Rattle.result_laws.specs.Walks.{IsNoFault, StepRuns, On, Ends, Walks, NoSteps, Ended, Step}
use Rattle.relink_core.specs.declared.unit_forms.UnitAt.{UnitAt}
use Rattle.relink_core.specs.UnitMaps.{IsUnitAt, AreUnitsAt}
use Rattle.compare_runner.specs.Tracing.{TracedProgram, region_in}
use Rattle.compare_runner.proofs.WholeLemmas.{StepIsTraced, AllAreTraced, all_traced}
use Rattle.compare_runner.proofs.OffForms.{AreWordsOff}
use Rattle.compare_runner.proofs.OutcomeLemmas.{goes_or_over, ended_not, ends_flat, one_end}
use Rattle.compare_runner.proofs.MovedRegions.{HasRegions, IsRegion}
use Rattle.compare_runner.proofs.MovedSteps as steps
use Rattle.result_laws.proofs.Setting.{setting}

module _ (file out : List ℕ) (board : Board) (g : Graph) (c : Code) (regions : List ℕ) (pl : ChosenPlacement) (result : IsPlacedResult file out board g c pl) (units : List UnitAt) (forms : AreUnitsAt (IsUnitAt board c g pl result.view.plan) units) (has : HasRegions regions pl) (off : AreWordsOff file out board g c pl result units) where
  open (setting file out board g c pl result) use {p as q, named as p, plan}

  abbrev w : TracedProgram
  w = steps.w file out board g c regions pl result units forms has off

  abbrev places : ℕ → Places
  places = places_in board g pl

  -- a walk of so many steps is left, which ends in no fault. While the program goes on, the region is the one that the first
  -- control word tells
  pub record Left (n region : ℕ) (s : SourceState) (t : State) : Type 0 where
    pub last : SourceState
    pub after : State
    pub events : List FlatEvent
    pub walk : Walks file out board g c pl plan n s last t events
    pub does : Does events t after
    pub ends : EndsAlike last.outcome last after
    pub fine : IsNoFault last.outcome
    pub current : s.outcome ≡ GoesOn → IsRegion pl region (word_at t.hart.mem board.patch.base)

  -- behind an end nothing more runs
  nothing_more : (n : ℕ) (s s' : SourceState) (t : State) (es : List FlatEvent) → Walks file out board g c pl plan n s s' t es → (s.outcome ≡ GoesOn → ⊥) → (s' ≡ s) × (es ≡ [])
  nothing_more _ _ _ _ _ (NoSteps s t) over = (refl, refl)
  nothing_more _ _ _ _ _ (Ended n s t ended) over = (refl, refl)
  nothing_more _ _ _ _ _ (Step n s s' read t t' es fs going reads step does more) over = absurd (over going)

  module _ (n region : ℕ) (s last : SourceState) (read : Option Instr) (t t' after : State) (fs : List FlatEvent) (going : s.outcome ≡ GoesOn) (reads : Reads (q.word s.pc) read) (current : IsRegion pl region (word_at t.hart.mem board.patch.base)) (rest : Walks file out board g c pl plan n (next_state q s read) last t' fs) (does_rest : Does fs t' after) (ends : EndsAlike last.outcome last after) (fine : IsNoFault last.outcome) where
    abbrev next : SourceState
    next = next_state q s read

    abbrev Here : State → Type 0
    Here u = steps.IsTracedHere file out board g c regions pl result units forms has off region s read t going reads current u

    -- what is left behind a step that is traced
    behind_step : Here t' → (next.outcome ≡ GoesOn → IsRegion pl (region_in w region next) (word_at t'.hart.mem board.patch.base)) → StepIsTraced w places Left n region s t
    behind_step here now =
        record {
          read = read;
          reads = reads;
          step = here.step;
          after = t';
          traced = here.traced;
          at_place = here.at_place;
          left = subst (λ (x : SourceState). Left n (region_in w region x) x t') (sym (next_same p s read))
              (record { last = last; after = after; events = fs; walk = rest; does = does_rest; ends = ends; fine = fine; current = now });
        }

    step_traced : (es : List FlatEvent) → StepRuns file out board g c pl plan s read t es → Does es t t' → StepIsTraced w places Left n region s t
    step_traced _ (On es gs t1 unit does arrival same) whole =
        let there : arrival.after ≡ t' =
        one_end (es ++ gs) t arrival.after t' (does_joined es gs t t1 arrival.after does arrival.does) whole in
        behind_step
        (subst Here there (steps.on_traced file out board g c regions pl result units forms has off region s read t going reads current t1 es gs unit does arrival same))
        (λ on.
        subst (λ (u : State). IsRegion pl (region_in w region next) (word_at u.hart.mem board.patch.base)) there
        (subst (λ (r : ℕ). IsRegion pl (region_in w region next) r) (sym (arrival.match.number ∙ arrival.region))
        (steps.region_next file out board g c regions pl result units forms has off region s read t going reads current t1 es gs unit arrival same)))
    step_traced _ (Ends es over unit) whole =
        let nothing = nothing_more n next last t' fs rest over in
        let same : after ≡ t' = subst (λ (xs : List FlatEvent). Does xs t' after) nothing.1 does_rest in
        let fine_here : IsNoFault next.outcome = subst (λ (x : SourceState). IsNoFault x.outcome) nothing.0 fine in
        let alike : EndsAlike next.outcome next t' =
        subst (λ (u : State). EndsAlike next.outcome next u) same (subst (λ (x : SourceState). EndsAlike x.outcome x after) nothing.0 ends) in
        elim (goes_or_over next.outcome fine_here) [
          | inl on ↦ absurd (over on)
          | inr ended ↦
              behind_step
              (steps.end_traced file out board g c regions pl result units forms has off region s read t going reads current t' es unit whole ended
              (ends_flat next.outcome next t' ended alike))
              (λ on. absurd (over on))
        ]

  walk_traced : (k : ℕ) (s last : SourceState) (t : State) (events : List FlatEvent) → Walks file out board g c pl plan k s last t events → (n region : ℕ) (after : State) → k ≡ suc n → s.outcome ≡ GoesOn → Does events t after → EndsAlike last.outcome last after → IsNoFault last.outcome → IsRegion pl region (word_at t.hart.mem board.patch.base) → StepIsTraced w places Left n region s t
  walk_traced _ _ _ _ _ (NoSteps s t) n region after more going does ends fine current = absurd (omega (arith, more))
  walk_traced _ _ _ _ _ (Ended m s t ended) n region after more going does ends fine current = absurd (ended_not s.outcome ended going)
  walk_traced _ _ _ _ _ (Step m s last read t t' es fs started reads step does rest) n region after more going whole ends fine current =
      let same : m ≡ n = omega (arith, more) in
      let cut = does_cut es fs t after whole in
      let middle : cut.0 ≡ t' = one_end es t cut.0 t' cut.1.0 does in
      step_traced n region s last read t t' after fs going reads current
      (subst (λ (x : ℕ). Walks file out board g c pl plan x (next_state q s read) last t' fs) same rest)
      (subst (λ (u : State). Does fs u after) middle cut.1.1) ends fine es step does

  each : (n region : ℕ) (s : SourceState) (t : State) → s.outcome ≡ GoesOn → Left (suc n) region s t → StepIsTraced w places Left n region s t
  each n region s t going left =
      walk_traced (suc n) s left.last t left.events left.walk n region left.after refl going left.does left.ends left.fine (left.current going)

  pub left_traced : (n region : ℕ) (s : SourceState) (t : State) → Left n region s t → AllAreTraced w places n region s t
  left_traced n region s t left = all_traced w places Left each n region s t left
