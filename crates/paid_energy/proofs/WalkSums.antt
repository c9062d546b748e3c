-- A walk that is counted costs the energy of its run: its steps' costs are summed, each with the way to its unit.
use Rattle.std.proofs.Common.{◌≡◌, ◌∙◌, ℕ, zero, suc, ◌+◌, ◌<◌, List, ◌∷◌, ◌++◌, length, Option, refl, sym, ap, subst, arith}
use Rattle.rv32im.specs.declared.instructions.Instr.{Instr}
use Rattle.board_config.specs.declared.board.Board.{Board}
use Rattle.flat_machine.specs.State.{State}
use Rattle.flat_machine.specs.declared.events.FlatEvent.{FlatEvent}
use Rattle.object_graph.specs.declared.parts.Graph.{Graph}
use Rattle.code_blocks.specs.declared.parts.Code.{Code}
use Rattle.object_machine.specs.declared.events.Outcome.{Outcome}
use Rattle.object_machine.specs.declared.events.Outcome.TheVariants.{GoesOn, Exited, Trapped, AddressFault}
use Rattle.object_machine.specs.Program.{Program}
use Rattle.object_machine.specs.Runs.{HasEnded}
use Rattle.object_machine.proofs.RunLemmas.{ended_steps}
use Rattle.object_machine.specs.State.{SourceState}
use Rattle.object_machine.specs.Step.{Reads, next_state}
use Rattle.profile_runner.specs.Transition.{Transition, transition_at}
use Rattle.profile_runner.specs.Transitions.{Transitions, transition_of}
use Rattle.profile_runner.proofs.RunLemmas.{some_transitions, transitions_steps}
use Rattle.energy_model.specs.Energy.{Scene, Taken, block_at, unit_number, words_price, access_price, way_price, change_price, step_energy, steps_energy, stub_energy}
use Rattle.energy_model.proofs.StepLemmas.{first_transition}
use Rattle.patch_code.specs.Overlay.{OverlayPlan}
use Rattle.simulation.proofs.Unnamed.{next_same}
use Rattle.result_laws.specs.HomeLaws.{program_in, source_start, file_start}
use Rattle.result_laws.specs.LiveUnits.{StandsThere}
use Rattle.result_laws.specs.ChosenPlacement.{ChosenPlacement}
use Rattle.result_laws.specs.PlacedLaws.{IsPlacedResult}
use Rattle.result_laws.specs.Walks.{IsNoFault, leaving_fetched, UnitRuns, ArrivalRuns, StepRuns, On, Ends, Walks, NoSteps, Ended, Step}
use Rattle.result_laws.proofs.Setting.{setting}
use Rattle.result_laws.proofs.Counting.{none_ended, ended_on, one_read}
use Rattle.paid_energy.specs.Costs.{run_cost}
use Rattle.paid_energy.proofs.CostLemmas.{run_cost_joined, fetches_cost}
use Rattle.paid_energy.specs.CountedWalks.{leaving_of, IsCountedUnit, IsCountedArrival, IsCountedStep, IsCountedWalk}
use Rattle.paid_energy.specs.WalkCosts.{placed_scene, placed_names, HasRegionsOfSide, WalkCostsEnergy}
use Rattle.paid_energy.proofs.Branches.{branches_go}
use Rattle.paid_energy.proofs.CountedWalks.{forms_counted}
use Rattle.paid_energy.proofs.CodeFacts.{fine_before}
use Rattle.paid_energy.proofs.Transitions.{IsFrom, from_start, behind_first, HasFirst, has_first, sum_from, sum_more, sum_all}
use Rattle.paid_energy.proofs.StepCosts.{going_cost, ending_cost}
use Rattle.paid_energy.proofs.SwitchCosts.{start_costs}
use Rattle.paid_energy.proofs.WayCosts.{told_none, entering_cost}
use Rattle.paid_energy.proofs.PlacedScene.{scene_in}

fine_exit : (o : Outcome) (code : ℕ) → o ≡ Exited code → IsNoFault o
fine_exit o code is = subst IsNoFault (sym is) tt

exits_off : (o : Outcome) (code : ℕ) → o ≡ Exited code → o ≡ GoesOn → ⊥
exits_off o code is on = cc

-- nothing runs beside a program that has ended
ended_walk : (board : Board) (n : ℕ) (s s' : SourceState) (t : State) (es : List FlatEvent) (file out : List ℕ) (g : Graph) (c : Code) (pl : ChosenPlacement) (plan : OverlayPlan) → Walks file out board g c pl plan n s s' t es → (s.outcome ≡ GoesOn → ⊥) → run_cost board es ≡ 0
ended_walk board _ _ _ _ _ file out g c pl plan (NoSteps s t) off = refl
ended_walk board _ _ _ _ _ file out g c pl plan (Ended n s t ended) off = refl
ended_walk board _ _ _ _ _ file out g c pl plan (Step n s s' read t t' es fs going reads step does more) off = absurd (off going)

-- a run that has exited isn't one that goes on
some_behind : (p : Program) (n code : ℕ) (s t : SourceState) (ts : List Transition) → s.outcome ≡ GoesOn → t.outcome ≡ Exited code → Transitions p n s ts t → 0 < length ts
some_behind p zero code s t ts going exits run =
    let same : s.outcome ≡ Exited code = ap (λ (x : SourceState). x.outcome) (sym run.1) ∙ exits in absurd (cc)
some_behind p (suc n) code s t ts going exits run = some_transitions p (suc n) s t ts (omega arith) going run

module _ (file out : List ℕ) (board : Board) (g : Graph) (c : Code) (pl : ChosenPlacement) (result : IsPlacedResult file out board g c pl) (sides : HasRegionsOfSide pl) (whole : List Transition) where
  open (setting file out board g c pl result) use {v, p as q, named as p, plan}
  open (scene_in board g c pl) use {w, taken}

  abbrev energy_at : ℕ → ℕ
  energy_at i = step_energy w taken whole i

  -- the way to a unit, and the change of the region on it
  abbrev way_at : ℕ → ℕ
  way_at i = way_price w taken whole i + change_price w taken whole i

  abbrev sum_at : ℕ → List Transition → ℕ
  sum_at i rest = sum_from energy_at i rest

  -- ---- one step

  module _ (n code : ℕ) (s s' : SourceState) (read : Option Instr) (i : ℕ) (rest : List Transition) (exits : s'.outcome ≡ Exited code) (reads : Reads (q.word s.pc) read) (found : HasFirst whole p n s s' i rest) (stands : StandsThere c s.pc (block_at w whole i) (unit_number w whole i)) where
    abbrev next : SourceState
    next = next_state q s read

    own : found.read ≡ read
    own = one_read (p.word s.pc) found.read read found.reads reads

    is : transition_at whole i ≡ transition_of p s (next_state p s read) read
    is = found.at ∙ (found.is ∙ ap (λ (x : Option Instr). transition_of p s (next_state p s x) x) own)

    later : Transitions p n next found.others s'
    later =
        subst (λ (x : SourceState). Transitions p n x found.others s') (ap (next_state p s) own ∙ next_same p s read) found.behind

    fine : IsNoFault next.outcome
    fine = fine_before p n next s' found.others (fine_exit s'.outcome code exits) later

    -- its cost, with that of the way to the next where there is one
    abbrev own_at : ℕ
    own_at = words_price w taken whole i + access_price w taken whole i

    on_cost : (t t' : State) (es fs : List FlatEvent) (unit : UnitRuns file out board g c pl plan s read t es) (arrival : ArrivalRuns file out board g c pl plan next t' fs) → IsCountedUnit board c g pl plan whole i unit.match.region s.pc t.hart.pc unit.match.at.stands → IsCountedArrival file out board g c pl plan whole (suc i) next t' fs arrival → arrival.from ≡ unit.match.region → leaving_fetched c g pl plan arrival.from next.pc t'.hart.pc arrival.at ≡ leaving_of c g pl plan t.hart.regs s.pc t.hart.pc unit.match.at.stands → (transition_at whole (suc i)).at ≡ next.pc → next.outcome ≡ GoesOn → run_cost board (es ++ fs) ≡ own_at + way_at (suc i)
    on_cost t t' es fs unit arrival counted comes same leads at on =
        let goes_as = branches_go file out board g c pl result s read t es (block_at w whole i) (unit_number w whole i) unit reads on stands in
        let unit_cost = going_cost file out board g c pl result whole i s read t es unit counted reads is fine on goes_as in
        let known = unit.match.known in
        let few = ap (λ (n : ℕ). n) same in
        let entering =
        entering_cost file out board g c pl result sides whole (suc i) arrival.from next.pc t'.hart.pc arrival.to arrival.entering arrival.at arrival.enters
        (omega (arith, known, few)) at comes.from comes.to comes.way in
        let leaving =
        told_none file out board g c pl result sides (leaving_fetched c g pl plan arrival.from next.pc t'.hart.pc arrival.at) arrival.leaving arrival.leaves
        ∙ ap (fetches_cost board) leads in
        let split = ap (run_cost board) arrival.whole ∙ run_cost_joined board arrival.leaving arrival.entering in
        let joined = run_cost_joined board es fs in
        omega (arith, unit_cost, entering, leaving, split, joined)

    -- where there is none, the program ends
    next_ended : (next.outcome ≡ GoesOn → ⊥) → HasEnded next.outcome
    next_ended off = by next.outcome off
      where
        by : (o : Outcome) → (o ≡ GoesOn → ⊥) → HasEnded o
        by GoesOn not_so = absurd (not_so refl)
        by (Exited status) not_so = tt
        by (Trapped pc) not_so = tt
        by (AddressFault pc why) not_so = tt

    end_cost : (t t' : State) (es fs : List FlatEvent) (unit : UnitRuns file out board g c pl plan s read t es) → IsCountedUnit board c g pl plan whole i unit.match.region s.pc t.hart.pc unit.match.at.stands → (next.outcome ≡ GoesOn → ⊥) → Walks file out board g c pl plan n next s' t' fs → run_cost board es + run_cost board fs ≡ own_at + sum_at (suc i) found.others
    end_cost t t' es fs unit counted off more =
        let ended = next_ended off in
        let stays : s' ≡ next = ended_steps p n next s' ended (transitions_steps p n next s' found.others later) in
        let last : next.outcome ≡ Exited code = ap (λ (x : SourceState). x.outcome) (sym stays) ∙ exits in
        let own_cost = ending_cost file out board g c pl result whole i s read t es unit counted reads is fine code last in
        let none = ended_walk board n next s' t' fs file out g c pl plan more off in
        let no_others : sum_at (suc i) found.others ≡ 0 = ap (sum_at (suc i)) (none_ended n p next s' found.others off later) in
        omega (arith, own_cost, none, no_others)

    -- the next transition is of the next unit
    next_at : 0 < length found.others → (transition_at whole (suc i)).at ≡ next.pc
    next_at some =
        let begins = first_transition p n next s' found.others later some in
        let there : transition_at whole (suc i) ≡ transition_at found.others 0 =
        ap (transition_at whole) (omega arith) ∙ found.there.rest_of 1 (omega (arith, some)) in
        ap (λ (m : Transition). m.at) there ∙ sym begins.at

    step_sum : (t t' : State) (es fs : List FlatEvent) (step : StepRuns file out board g c pl plan s read t es) → IsCountedStep file out board g c pl plan whole i s read t es step → Walks file out board g c pl plan n next s' t' fs → (0 < length found.others → run_cost board fs + way_at (suc i) ≡ sum_at (suc i) found.others) → run_cost board es + run_cost board fs ≡ own_at + sum_at (suc i) found.others
    step_sum t t' _ fs (On es ws t1 unit does arrival same) counted more rest =
        let on : next.outcome ≡ GoesOn = arrival.match.alike.source_going in
        let some = some_behind p n code next s' found.others on exits later in
        let here = on_cost t t1 es ws unit arrival counted.0 counted.1.0 same counted.1.1 (next_at some) on in
        let sum = rest some in
        omega (arith, here, sum)
    step_sum t t' _ fs (Ends es ended unit) counted more rest = end_cost t t' es fs unit counted ended more

  -- ---- all steps

  stands_of : (i : ℕ) (s : SourceState) (read : Option Instr) (t : State) (es : List FlatEvent) (step : StepRuns file out board g c pl plan s read t es) → IsCountedStep file out board g c pl plan whole i s read t es step → StandsThere c s.pc (block_at w whole i) (unit_number w whole i)
  stands_of i s read t _ (On es fs t' unit does arrival same) counted = counted.0.there
  stands_of i s read t _ (Ends es ended unit) counted = counted.there

  walk_sum : (n code : ℕ) (s s' : SourceState) (t : State) (es : List FlatEvent) (walk : Walks file out board g c pl plan n s s' t es) (i : ℕ) (rest : List Transition) → IsCountedWalk file out board g c pl plan whole i n s s' t es walk → Transitions p n s rest s' → s'.outcome ≡ Exited code → 0 < length rest → IsFrom whole i rest → run_cost board es + way_at i ≡ sum_at i rest
  walk_sum _ code _ _ _ _ (NoSteps s t) i rest counted run exits some here =
      let none = ap (λ (ts : List Transition). length ts) run.0 in absurd (omega (arith, none, some))
  walk_sum _ code _ _ _ _ (Ended n s t ended) i rest counted run exits some here =
      let none = ap (λ (ts : List Transition). length ts) (none_ended n p s s rest (ended_on s.outcome ended) run) in absurd (omega (arith, none, some))
  walk_sum _ code _ _ _ _ (Step n s s' read t t' es fs going reads step does more) i rest counted run exits some here =
      let found = has_first whole p n s s' i rest going run here in
      let stands = stands_of i s read t es step counted.0 in
      let behind = later n code s s' read i rest exits reads found stands in
      let one =
      step_sum n code s s' read i rest exits reads found stands t t' es fs step counted.0 more
      (λ others. walk_sum n code (next_state q s read) s' t' fs more (suc i) found.others counted.1 behind exits others (behind_first whole i found.first found.others found.there)) in
      let all : sum_at i rest ≡ sum_at i (found.first ∷ found.others) = ap (sum_at i) found.whole_rest in
      let sum = sum_more energy_at i found.first found.others in
      let joined = run_cost_joined board es fs in
      omega (arith, all, sum, joined, one)

-- ---- the whole walk

pub walk_costs_energy : WalkCostsEnergy
walk_costs_energy file out board g c pl result input n code s transitions walk sides run exits inward =
    let p : Program = program_in file board g in
    let source : SourceState = source_start file board g input in
    let w : Scene = placed_scene board g c pl in
    let taken : Taken = placed_names board pl in
    let entered = walk.entered in
    let counted = forms_counted file out board g c pl result input n s transitions walk sides run (exits_off s.outcome code exits) inward in
    let some = some_behind p n code source s transitions refl exits run in
    let begins = first_transition p n source s transitions run some in
    let start = start_costs file out board g c pl result (file_start out board input) walk.behind walk.begins in
    let few = walk.none in
    let entering =
    entering_cost file out board g c pl result sides transitions 0 entered.from source.pc walk.behind.hart.pc entered.to entered.entering entered.at entered.enters
    (omega (arith, few)) (sym begins.at) counted.entry.from counted.entry.to counted.entry.way in
    let leaving =
    told_none file out board g c pl result sides (leaving_fetched c g pl result.view.plan entered.from source.pc walk.behind.hart.pc entered.at) entered.leaving entered.leaves
    ∙ ap (fetches_cost board) counted.none in
    let split = ap (run_cost board) entered.whole ∙ run_cost_joined board entered.leaving entered.entering in
    let steps =
    walk_sum file out board g c pl result sides transitions n code source s entered.after walk.events walk.walk 0 transitions counted.steps run exits some
    (from_start transitions) in
    let numbers = sum_all (step_energy w taken transitions) transitions in
    let one = run_cost_joined board walk.begins.events (walk.entering ++ walk.events) in
    let two = run_cost_joined board walk.entering walk.events in
    let sum : run_cost board walk.begins.events + run_cost board (walk.entering ++ walk.events) ≡ stub_energy w taken + steps_energy w taken transitions =
    omega (arith, start, entering, leaving, split, steps, numbers, two) in
    one ∙ sum
