-- A step of a program beside a result with moved items is traced.
use Rattle.std.proofs.Common.{◌≡◌, ◌∙◌, inl, inr, ℕ, ◌+◌, ◌<◌, ◌≤◌, List, [], ◌++◌, length, Option, Some, None, sym, ap, subst, arith, append-nil}
use Rattle.std.proofs.lemmas.List.{length-append}
use Rattle.rv32im.specs.Memory.{word_at}
use Rattle.rv32im.specs.declared.instructions.Instr.{Instr}
use Rattle.rv32im.proofs.Meaning.{same_instruction}
use Rattle.board_config.specs.declared.board.Board.{Board}
use Rattle.flat_machine.specs.State.{State}
use Rattle.flat_machine.specs.Runs.{Does}
use Rattle.flat_machine.specs.Runs as flat_runs
use Rattle.flat_machine.specs.declared.events.FlatAccess.{FlatAccess}
use Rattle.flat_machine.specs.declared.events.FlatEvent.{FlatEvent}
use Rattle.flat_machine.proofs.Runs.{does_joined}
use Rattle.object_graph.specs.declared.parts.Graph.{Graph}
use Rattle.code_blocks.specs.Numbers.{starts_of}
use Rattle.code_blocks.specs.declared.parts.Code.{Code}
use Rattle.cell_values.specs.Stands.{Places}
use Rattle.object_machine.specs.declared.events.Access.{Access}
use Rattle.object_machine.specs.declared.events.Outcome.TheVariants.{GoesOn}
use Rattle.object_machine.specs.State.{SourceState}
use Rattle.object_machine.specs.Step.{Reads, next_state, access_of}
use Rattle.simulation.proofs.Unnamed.{next_same}
use Rattle.result_laws.specs.ResultLaws.{most_steps}
use Rattle.result_laws.specs.ChosenPlacement.{ChosenPlacement, places_in}
use Rattle.result_laws.specs.PlacedLaws.{IsPlacedResult}
use Rattle.result_laws.specs.Walks.{IsNoFault, UnitRuns, ArrivalRuns}
use Rattle.relink_core.specs.declared.unit_forms.UnitAt.{UnitAt}
use Rattle.relink_core.specs.UnitMaps.{IsUnitAt, AreUnitsAt}
use Rattle.compare_runner.specs.declared.marks.TracedStep.{TracedStep}
use Rattle.compare_runner.specs.Comings.{IsAtForm, first_access}
use Rattle.compare_runner.specs.TraceLaws.{IsAtPlace}
use Rattle.compare_runner.specs.declared.marks.TracedAccess.{TracedAccess}
use Rattle.compare_runner.specs.Tracing.{TracedProgram, region_in, told_access, IsTracedStep}
use Rattle.compare_runner.proofs.PrefixLemmas.{AreOffForms}
use Rattle.compare_runner.proofs.MadeLemmas.{told_of, goes_traced, ends_traced}
use Rattle.compare_runner.proofs.OffForms.{AreWordsOff}
use Rattle.compare_runner.proofs.EndingSteps.{IsOver, ends_alone}
use Rattle.compare_runner.proofs.OutcomeLemmas.{over_ended, over_fine}
use Rattle.compare_runner.proofs.UnitLengths.{unit_few, unit_one}
use Rattle.compare_runner.proofs.UnitAccess.{IsTold, unit_told, access_same}
use Rattle.compare_runner.proofs.CodeRegions.{places_same}
use Rattle.compare_runner.proofs.ListedForms.{all_always, arrives_at_form}
use Rattle.compare_runner.proofs.ArrivalLengths.{step_few}
use Rattle.compare_runner.proofs.MovedRegions.{HasRegions, IsRegion, region_goes}
use Rattle.result_laws.proofs.Setting.{setting}

module _ (file out : List ℕ) (board : Board) (g : Graph) (c : Code) (regions : List ℕ) (pl : ChosenPlacement) (result : IsPlacedResult file out board g c pl) (units : List UnitAt) (forms : AreUnitsAt (IsUnitAt board c g pl result.view.plan) units) (has : HasRegions regions pl) (off : AreWordsOff file out board g c pl result units) where
  open (setting file out board g c pl result) use {p as q, named as p, plan}

  abbrev pub w : TracedProgram
  w = record { program = p; starts = starts_of c; regions = regions; units = units; board = board }

  abbrev places : ℕ → Places
  places = places_in board g pl

  -- ---- by regions of the trace

  pub at_region : (region to region' to' home : ℕ) (es : List FlatEvent) (t : State) → IsRegion pl region region' → IsRegion pl to to' → IsAtForm units board region' to' home es t → IsAtForm units board region to home es t
  at_region region to region' to' home es t (inl none) second at =
      record { form = at.form; listed = at.listed; home_is = at.home_is; at = at.at; stands = inl (all_always file out board g c pl result units forms none at.form at.listed) }
  at_region region to region' to' home es t (inr first) (inl none) at =
      record { form = at.form; listed = at.listed; home_is = at.home_is; at = at.at; stands = inl (all_always file out board g c pl result units forms none at.form at.listed) }
  at_region region to region' to' home es t (inr first) (inr second) at =
      subst (λ (r : ℕ). IsAtForm units board r to home es t) (sym first)
      (subst (λ (r : ℕ). IsAtForm units board region' r home es t) (sym second) at)

  off_region : (region to region' to' home : ℕ) (es : List FlatEvent) → IsRegion pl region region' → IsRegion pl to to' → AreOffForms units board region' to' home es → AreOffForms units board region to home es
  off_region region to region' to' home es (inl none) second off_there fs rest e x whole some listed home_is at stands =
      off_there fs rest e x whole some listed home_is at (inl (all_always file out board g c pl result units forms none x listed))
  off_region region to region' to' home es (inr first) (inl none) off_there fs rest e x whole some listed home_is at stands =
      off_there fs rest e x whole some listed home_is at (inl (all_always file out board g c pl result units forms none x listed))
  off_region region to region' to' home es (inr first) (inr second) off_there fs rest e x whole some listed home_is at stands =
      subst (λ (r : ℕ). AreOffForms units board r to home es) (sym first)
      (subst (λ (r : ℕ). AreOffForms units board region' r home es) (sym second) off_there) fs rest e x whole some listed home_is at stands

  place_region : (region r : ℕ) → IsRegion pl region r → (o : ℕ) → places r o ≡ places region o
  place_region region r (inl none) o = places_same file out board g c pl result r region o none
  place_region region r (inr same) o = ap (λ (x : ℕ). places x o) (sym same)

  -- ---- accesses

  at_place_same : (one other : Places) → ((o : ℕ) → one o ≡ other o) → (x : Option TracedAccess) → IsAtPlace one x → IsAtPlace other x
  at_place_same one other same None at = tt
  at_place_same one other same (Some a) at = at ∙ ap (λ (k : ℕ). k + a.offset) (same a.object)

  told_same : (one other : Places) → ((o : ℕ) → one o ≡ other o) → (access : Option Access) (made : Option FlatAccess) → IsTold one access made → IsTold other access made
  told_same one other same access made told = (told.0, at_place_same one other same (told_access access made) told.1)

  -- ---- a step

  module _ (region : ℕ) (s : SourceState) (read : Option Instr) (t : State) (going : s.outcome ≡ GoesOn) (reads : Reads (q.word s.pc) read) (current : IsRegion pl region (word_at t.hart.mem board.patch.base)) where
    abbrev next : SourceState
    next = next_state q s read

    named_same : next_state p s read ≡ next
    named_same = next_same p s read

    abbrev Told : List FlatEvent → SourceState → Type 0
    Told es x = IsTold (places region) (access_of p s x.outcome read) (first_access es)

    unit_told_there : (es fs : List FlatEvent) (unit : UnitRuns file out board g c pl plan s read t es) → IsNoFault next.outcome → Told (es ++ fs) next
    unit_told_there es fs unit fine =
        let r : ℕ = unit.match.region in
        let here : IsRegion pl region r = subst (λ (x : ℕ). IsRegion pl region x) unit.match.number current in
        let told : IsTold (places r) (access_of q s next.outcome read) (first_access (es ++ fs)) =
        unit_told q s (places r) next.outcome read es fs (λ single alone. unit_one file out board g c pl result s read t es unit single reads alone) (unit.accesses fine) in
        told_same (places r) (places region) (place_region region r here) (access_of p s next.outcome read) (first_access (es ++ fs))
        (subst (λ (a : Option Access). IsTold (places r) a (first_access (es ++ fs))) (sym (access_same p s next.outcome read)) told)

    -- a step that is traced, and whose access is at its place
    pub record IsTracedHere (after : State) : Type 0 where
      pub step : TracedStep
      pub traced : IsTracedStep w region s read t step after
      pub at_place : IsAtPlace (places step.region) step.access

    -- ---- the program goes on

    abbrev Goes : List FlatEvent → State → SourceState → Type 0
    Goes es after x =
        Told es x × ((x.outcome ≡ GoesOn)
        × (IsAtForm units board region (region_in w region x) x.pc es after × AreOffForms units board region (region_in w region x) x.pc es))

    goes_here : (es : List FlatEvent) (after : State) → length es ≤ most_steps board → 0 < length es → Does es t after → Goes es after next → IsTracedHere after
    goes_here es after few some does goes =
        let there : Goes es after (next_state p s read) = subst (λ (x : SourceState). Goes es after x) (sym named_same) goes in
        record {
          step = told_of w region s read t after es few there.0.0;
          traced = goes_traced w region s read t after es few there.0.0 same_instruction there.1.0 does some there.1.1.0 there.1.1.1;
          at_place = there.0.1;
        }

    region_there : (t' : State) (es fs : List FlatEvent) (unit : UnitRuns file out board g c pl plan s read t es) (arrival : ArrivalRuns file out board g c pl plan next t' fs) → arrival.from ≡ unit.match.region → IsRegion pl region arrival.from
    region_there t' es fs unit arrival same = subst (λ (x : ℕ). IsRegion pl region x) (unit.match.number ∙ sym same) current

    pub region_next : (t' : State) (es fs : List FlatEvent) (unit : UnitRuns file out board g c pl plan s read t es) (arrival : ArrivalRuns file out board g c pl plan next t' fs) → arrival.from ≡ unit.match.region → IsRegion pl (region_in w region next) arrival.to
    region_next t' es fs unit arrival same =
        region_goes file board g c result.accepted result.code pl regions region arrival.from next.pc arrival.to has
        (region_there t' es fs unit arrival same) arrival.current

    pub on_traced : (t' : State) (es fs : List FlatEvent) (unit : UnitRuns file out board g c pl plan s read t es) → Does es t t' → (arrival : ArrivalRuns file out board g c pl plan next t' fs) → arrival.from ≡ unit.match.region → IsTracedHere arrival.after
    on_traced t' es fs unit does arrival same =
        let from : IsRegion pl region arrival.from = region_there t' es fs unit arrival same in
        let to : IsRegion pl (region_in w region next) arrival.to = region_next t' es fs unit arrival same in
        let on : next.outcome ≡ GoesOn = arrival.match.alike.source_going in
        let known = unit.match.known in
        let few = unit_few file out board g c pl result s read t es unit in
        let some = few.0 in
        let both = length-append es fs in
        let offs : AreOffForms units board arrival.from arrival.to next.pc (es ++ fs) =
        subst (λ (r : ℕ). AreOffForms units board r arrival.to next.pc (es ++ fs)) (sym same) (off.steps s read t t' es fs going reads unit does arrival same) in
        goes_here (es ++ fs) arrival.after
        (step_few file out board g c pl result [] next t' es fs arrival (omega (arith, known, same)) few.1)
        (omega (arith, some, both)) (does_joined es fs t t' arrival.after does arrival.does) (
          unit_told_there es fs unit (subst IsNoFault (sym on) tt),
          (
            on,
            (
              at_region region (region_in w region next) arrival.from arrival.to next.pc (es ++ fs) arrival.after from to
                  (arrives_at_form file out board g c pl result units forms next t' fs es arrival),
              off_region region (region_in w region next) arrival.from arrival.to next.pc (es ++ fs) from to offs,
            ),
          ),
        )

    -- ---- it ends

    abbrev Over : List FlatEvent → SourceState → Type 0
    Over es x = Told es x × IsOver x.outcome

    pub end_traced : (t' : State) (es : List FlatEvent) (unit : UnitRuns file out board g c pl plan s read t es) → Does es t t' → IsOver next.outcome → flat_runs.HasEnded t'.outcome → IsTracedHere t'
    end_traced t' es unit does over ended =
        let alone = ends_alone q s going read over in
        let one : length es ≡ 1 = unit_one file out board g c pl result s read t es unit alone.0 reads alone.1 in
        let few : length es ≤ most_steps board = omega (arith, one) in
        let told : Told es next =
        subst (λ (xs : List FlatEvent). Told xs next) (append-nil es) (unit_told_there es [] unit (over_fine next.outcome over)) in
        let there : Over es (next_state p s read) = subst (λ (x : SourceState). Over es x) (sym named_same) (told, over) in
        record {
          step = told_of w region s read t t' es few there.0.0;
          traced = ends_traced w region s read t t' es few there.0.0 (over_ended (next_state p s read).outcome there.1) one does ended;
          at_place = there.0.1;
        }
