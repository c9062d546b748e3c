-- Walks run units at the forms, and ways, that are counted in the transitions of their runs.
use Rattle.std.proofs.Common.{◌≡◌, ◌∙◌, ℕ, zero, suc, ◌+◌, ◌<◌, ◌≤◌, true, List, [], ◌∷◌, ◌++◌, length, Option, refl, sym, ap, subst, arith}
use Rattle.rv32im.specs.Memory.{word_at}
use Rattle.rv32im.specs.declared.instructions.Instr.{Instr}
use Rattle.rv32im.proofs.Meaning.{same_instruction}
use Rattle.elf_reader.specs.File.{view_in}
use Rattle.board_config.specs.declared.board.Board.{Board}
use Rattle.flat_machine.specs.declared.events.FlatEvent.{FlatEvent}
use Rattle.flat_machine.specs.Runs.{Does}
use Rattle.flat_machine.specs.Runs as flat
use Rattle.flat_machine.specs.State.{State}
use Rattle.flat_machine.proofs.Runs.{does_joined, one_run, steps_of_events}
use Rattle.object_graph.specs.declared.parts.Graph.{Graph}
use Rattle.code_blocks.specs.Numbers.{starts_of}
use Rattle.code_blocks.specs.declared.parts.Code.{Code}
use Rattle.object_machine.specs.declared.events.Outcome.{Outcome}
use Rattle.object_machine.specs.declared.events.Outcome.TheVariants.{GoesOn}
use Rattle.object_machine.specs.Program.{Program}
use Rattle.object_machine.specs.State.{SourceState}
use Rattle.object_machine.specs.Step.{Reads, next_state}
use Rattle.patch_code.specs.StubLaws.{started}
use Rattle.patch_code.specs.Start.{start_run}
use Rattle.profile_runner.specs.Standing.{block_of, current}
use Rattle.profile_runner.specs.Transition.{Transition, transition_at, is_going}
use Rattle.profile_runner.specs.Transitions.{TransitionsFrom, FirstOf, Transitions, transition_of}
use Rattle.energy_model.proofs.StepLemmas.{first_transition}
use Rattle.paid_energy.specs.Counted.{IsCountedAt}
use Rattle.paid_energy.proofs.Counted.{regions_are_counted}
use Rattle.simulation.proofs.Unnamed.{next_same}
use Rattle.result_laws.specs.HomeLaws.{program_in, source_start, file_start}
use Rattle.result_laws.specs.LiveUnits.{StandsThere, ComesNext}
use Rattle.result_laws.proofs.Setting.{setting}
use Rattle.result_laws.proofs.LiveUnits.{steps_lead_on}
use Rattle.result_laws.specs.ChosenPlacement.{ChosenPlacement}
use Rattle.result_laws.specs.PlacedView.{IsUncopied, start_plan}
use Rattle.result_laws.specs.PlacedLaws.{IsPlacedResult}
use Rattle.result_laws.specs.Matching.{Match}
use Rattle.result_laws.specs.Walks.{leaving_fetched, UnitRuns, ArrivalRuns, BecomesCurrent, StepRuns, On, Ends, Walks, NoSteps, Ended, Step, PlacedWalk}
use Rattle.result_laws.proofs.Counting.{becomes_counted, one_read}
use Rattle.result_laws.proofs.Matching.{one_after}
use Rattle.result_laws.proofs.Starting.{stub_way}
use Rattle.paid_energy.specs.Inward.{inward_calls}
use Rattle.paid_energy.specs.CountedWalks.{IsCountedUnit, arrives_by_stub, IsCountedArrival, leaving_of, IsCountedStep, IsCountedWalk, IsCounted, FormsAreCounted}
use Rattle.paid_energy.specs.WalkCosts.{placed_scene, placed_names, HasRegionsOfSide}
use Rattle.paid_energy.proofs.CountedEdges.{entry_home}
use Rattle.paid_energy.proofs.CountedForms.{Came, counted_unit, home_came, home_arrival}
use Rattle.paid_energy.proofs.CountedRoutes.{routed, came}
use Rattle.paid_energy.proofs.Leads.{leads_on}

-- ---- transitions

going_true : (o : Outcome) → o ≡ GoesOn → is_going o ≡ true
going_true o is = ap is_going is

-- a run that ends where a machine goes on has a transition
some_from : (n : ℕ) (p : Program) (u s : SourceState) (ts : List Transition) → u.outcome ≡ GoesOn → (s.outcome ≡ GoesOn → ⊥) → Transitions p n u ts s → 0 < length ts
some_from zero p u s ts going ended transitions =
    absurd (ended (ap (λ (x : SourceState). x.outcome) transitions.1 ∙ going))
some_from (suc n) p u s ts going ended transitions =
    let found : FirstOf (Transitions p n) p u ts s = subst (λ o. TransitionsFrom o (Transitions p n) p u ts s) going transitions in
    let count = ap (λ (xs : List Transition). length xs) found.1.1.1.0 in
    omega (arith, count)

module _ (file out : List ℕ) (board : Board) (g : Graph) (c : Code) (pl : ChosenPlacement) (result : IsPlacedResult file out board g c pl) (side : HasRegionsOfSide pl) (ts : List Transition) (none : inward_calls (placed_scene board g c pl) c (placed_names board pl) ts ≡ 0) (input : List ℕ) (count : ℕ) (last : SourceState) (run : Transitions (program_in file board g) count (source_start file board g input) ts last) (ended : last.outcome ≡ GoesOn → ⊥) where
  open (setting file out board g c pl result) use {p as q, named as p, plan}

  abbrev now : ℕ → ℕ
  now i = current (starts_of c) pl.regions ts i

  abbrev block : ℕ → ℕ
  block i = block_of (starts_of c) ts i

  counted_at : (i : ℕ) → i < length ts → IsCountedAt c pl.regions pl.borders ts i
  counted_at i below =
      regions_are_counted file board g c input pl.regions pl.borders count i ts last result.accepted result.code
      result.placement.borders run below

  -- ---- arrivals

  -- an arrival is counted, and a copied block isn't at home behind it
  record Arrived (i : ℕ) (s : SourceState) (t : State) (es : List FlatEvent) (arrival : ArrivalRuns file out board g c pl plan s t es) : Type 0 where
    counted : IsCountedArrival file out board g c pl plan ts i s t es arrival
    uncopied : arrival.after.hart.pc ≡ s.pc → IsUncopied pl (block i)

  arrived : (i : ℕ) (s : SourceState) (t : State) (es : List FlatEvent) (arrival : ArrivalRuns file out board g c pl plan s t es) (below : i < length ts) (at : (transition_at ts i).at ≡ s.pc) → arrival.from ≡ now i → Came file out board g c pl result side ts i (counted_at i below) s.pc at (arrives_by_stub c g pl plan arrival.from s.pc t.hart.pc arrival.to arrival.entering arrival.at arrival.enters) arrival.after.hart.pc → Arrived i s t es arrival
  arrived i s t es arrival below at from came_so =
      record {
        counted = record {
          from = from;
          to = becomes_counted file out board g c pl result ts i s.pc arrival.to at
              (subst (λ (x : ℕ). BecomesCurrent c pl.regions s.pc x arrival.to) from arrival.current);
          way = came_so.way;
        };
        uncopied = came_so.uncopied;
      }

  -- where no words run the machine stays
  stays_there : (s : SourceState) (t : State) (es : List FlatEvent) (arrival : ArrivalRuns file out board g c pl plan s t es) → arrival.leaving ++ arrival.entering ≡ [] → arrival.after.hart.pc ≡ t.hart.pc
  stays_there s t es arrival empty =
      ap (λ (x : State). x.hart.pc) (subst (λ (xs : List FlatEvent). Does xs t arrival.after) (arrival.whole ∙ empty) arrival.does)

  -- ---- one step

  -- the states of both machines at transition `i`, and the transitions from there on
  record Here (i : ℕ) (s : SourceState) (t : State) (rest : List Transition) : Type 0 where
    region : ℕ
    number : word_at t.hart.mem board.patch.base ≡ region
    becomes : BecomesCurrent c pl.regions s.pc (now i) region
    rest_of : (k : ℕ) → k < length rest → transition_at ts (i + k) ≡ transition_at rest k
    whole : i + length rest ≡ length ts
    uncopied : t.hart.pc ≡ s.pc → IsUncopied pl (block i)

  -- transition `i` is that of a step
  record IsStep (i : ℕ) (s : SourceState) (read : Option Instr) (others : List Transition) : Type 0 where
    below : i < length ts
    at : (transition_at ts i).at ≡ s.pc
    next : (transition_at ts i).next ≡ (next_state q s read).pc
    goes_on : (next_state q s read).outcome ≡ GoesOn → (transition_at ts i).goes_on ≡ true
    more : 0 < length others → (suc i < length ts)
    next_at : (next_state q s read).outcome ≡ GoesOn → 0 < length others → (transition_at ts (suc i)).at ≡ (next_state q s read).pc

  match_counts : (i : ℕ) (s : SourceState) (t : State) (rest : List Transition) → Here i s t rest → (transition_at ts i).at ≡ s.pc → (match : Match file out board g c pl plan s t) → match.region ≡ now (suc i)
  match_counts i s t rest here at match =
      sym match.number ∙ (here.number ∙ becomes_counted file out board g c pl result ts i s.pc here.region at here.becomes)

  unit_counts : (i : ℕ) (s : SourceState) (read : Option Instr) (t : State) (es : List FlatEvent) (rest others : List Transition) → Here i s t rest → IsStep i s read others → (unit : UnitRuns file out board g c pl plan s read t es) → IsCountedUnit board c g pl plan ts i unit.match.region s.pc t.hart.pc unit.match.at.stands
  unit_counts i s read t es rest others here is unit =
      counted_unit file out board g c pl result side ts i (counted_at i is.below) s.pc is.at unit.match.region t.hart.pc
      unit.match.at.stands (match_counts i s t rest here is.at unit.match) here.uncopied

  -- from a unit on
  record Onward (i : ℕ) (s : SourceState) (read : Option Instr) (t t' : State) (es fs : List FlatEvent) (unit : UnitRuns file out board g c pl plan s read t es) (arrival : ArrivalRuns file out board g c pl plan (next_state q s read) t' fs) : Type 0 where
    arrival_is : Arrived (suc i) (next_state q s read) t' fs arrival
    leaves : leaving_fetched c g pl plan arrival.from (next_state q s read).pc t'.hart.pc arrival.at
        ≡ leaving_of c g pl plan t.hart.regs s.pc t.hart.pc unit.match.at.stands

  onward : (i : ℕ) (s : SourceState) (read : Option Instr) (t t' : State) (es fs : List FlatEvent) (rest others : List Transition) → Here i s t rest → IsStep i s read others → Reads (q.word s.pc) read → 0 < length others → (unit : UnitRuns file out board g c pl plan s read t es) → Does es t t' → (arrival : ArrivalRuns file out board g c pl plan (next_state q s read) t' fs) → arrival.from ≡ unit.match.region → Onward i s read t t' es fs unit arrival
  onward i s read t t' es fs rest others here is reads some unit does arrival same =
      let next : SourceState = next_state q s read in
      let on : next.outcome ≡ GoesOn = arrival.match.alike.source_going in
      let own = counted_at i is.below in
      let more = is.more some in
      let later = counted_at (suc i) more in
      let next_at = is.next_at on some in
      let region : arrival.from ≡ now (suc i) = same ∙ match_counts i s t rest here is.at unit.match in
      let known = unit.match.known in
      let few : arrival.from ≤ pl.count = omega (arith, known, same) in
      let there = unit_counts i s read t es rest others here is unit in
      let comes : ComesNext c (block i) own.unit next.pc =
      steps_lead_on file board g c s read (block i) own.unit result.accepted result.code
      (subst (λ (x : ℕ). StandsThere c x (block i) own.unit) is.at own.there) reads on in
      let route =
      routed file out board g c pl result side ts none i is.below own later s.pc next.pc is.at next_at comes (is.goes_on on) is.next
      arrival.from few region s.pc t.hart.pc unit.match.at.stands refl here.uncopied t.hart.regs t'.hart.pc arrival.at
      (leads_on file out board g c pl result s read t t' es unit reads does on) in
      record {
        arrival_is =
            arrived (suc i) next t' fs arrival more next_at region
            (came file out board g c pl result side ts none i is.below own later s.pc next.pc is.at next_at comes (is.goes_on on) is.next
            arrival.from few region t'.hart.pc arrival.to arrival.leaving arrival.entering arrival.at arrival.enters arrival.after.hart.pc
            arrival.match.at.stands arrival.leaves.addresses (λ empty. stays_there next t' fs arrival empty) route.route);
        leaves = route.leaves;
      }

  -- ---- walks

  walk_ended : (n : ℕ) (s s' : SourceState) (t : State) (es : List FlatEvent) (walk : Walks file out board g c pl plan n s s' t es) (i : ℕ) → (s.outcome ≡ GoesOn → ⊥) → IsCountedWalk file out board g c pl plan ts i n s s' t es walk
  walk_ended _ _ _ _ _ (NoSteps s t) i off = tt
  walk_ended _ _ _ _ _ (Ended n s t has_ended) i off = tt
  walk_ended _ _ _ _ _ (Step n s s' read t t' es fs going reads step does more) i off = absurd (off going)

  step_counted : (i n : ℕ) (s s' : SourceState) (read : Option Instr) (t t' : State) (es fs : List FlatEvent) (rest others : List Transition) → Here i s t rest → IsStep i s read others → i + suc (length others) ≡ length ts → ((k : ℕ) → k < length others → transition_at ts (suc i + k) ≡ transition_at others k) → Reads (q.word s.pc) read → ((next_state q s read).outcome ≡ GoesOn → 0 < length others) → (step : StepRuns file out board g c pl plan s read t es) → Does es t t' → (more : Walks file out board g c pl plan n (next_state q s read) s' t' fs) → (Here (suc i) (next_state q s read) t' others → IsCountedWalk file out board g c pl plan ts (suc i) n (next_state q s read) s' t' fs more) → IsCountedStep file out board g c pl plan ts i s read t es step × IsCountedWalk file out board g c pl plan ts (suc i) n (next_state q s read) s' t' fs more
  step_counted i n s s' read t t' _ fs rest others here is whole rest_of reads some (Ends es off unit) does more later =
      (unit_counts i s read t es rest others here is unit, walk_ended n (next_state q s read) s' t' fs more (suc i) off)
  step_counted i n s s' read t t' _ fs rest others here is whole rest_of reads some (On es gs t1 unit unit_does arrival same) does more later =
      let next : SourceState = next_state q s read in
      let on : next.outcome ≡ GoesOn = arrival.match.alike.source_going in
      let goes = onward i s read t t1 es gs rest others here is reads (some on) unit unit_does arrival same in
      let after : arrival.after ≡ t' =
      one_after q (λ x k u. Prim.Unit {0}) t t' arrival.after (es ++ gs) does (does_joined es gs t t1 arrival.after unit_does arrival.does) in (
        (unit_counts i s read t es rest others here is unit, (goes.arrival_is.counted, goes.leaves)),
        later (record {
          region = arrival.to;
          number = subst (λ (x : State). word_at x.hart.mem board.patch.base ≡ arrival.to) after (arrival.match.number ∙ arrival.region);
          becomes = subst (λ (x : ℕ). BecomesCurrent c pl.regions next.pc x arrival.to) goes.arrival_is.counted.from arrival.current;
          rest_of = rest_of;
          whole = omega (arith, whole);
          uncopied = subst (λ (x : State). x.hart.pc ≡ next.pc → IsUncopied pl (block (suc i))) after goes.arrival_is.uncopied;
        }),
      )

  walk_counted : (n : ℕ) (s s' : SourceState) (t : State) (es : List FlatEvent) (walk : Walks file out board g c pl plan n s s' t es) (i : ℕ) (rest : List Transition) → Transitions p n s rest s' → (s'.outcome ≡ GoesOn → ⊥) → Here i s t rest → IsCountedWalk file out board g c pl plan ts i n s s' t es walk
  walk_counted _ _ _ _ _ (NoSteps s t) i rest transitions off here = tt
  walk_counted _ _ _ _ _ (Ended n s t has_ended) i rest transitions off here = tt
  walk_counted _ _ _ _ _ (Step n s s' read t t' es fs going reads step does more) i rest transitions off here =
      let found : FirstOf (Transitions p n) p s rest s' = subst (λ o. TransitionsFrom o (Transitions p n) p s rest s') going transitions in
      let m : Transition = transition_of p s (next_state p s found.0) found.0 in
      let others : List Transition = found.1.1.0 in
      let whole_rest : rest ≡ m ∷ others = found.1.1.1.0 in
      let next : next_state p s found.0 ≡ next_state q s read =
      next_same p s found.0 ∙ ap (next_state q s) (one_read (p.word s.pc) found.0 read found.1.0 reads) in
      let behind : Transitions p n (next_state q s read) others s' =
      subst (λ (x : SourceState). Transitions p n x others s') next found.1.1.1.1 in
      let there : Here i s t (m ∷ others) = subst (λ (xs : List Transition). Here i s t xs) whole_rest here in
      let first : transition_at ts i ≡ m = ap (transition_at ts) (omega arith) ∙ there.rest_of 0 (omega arith) in
      let whole = there.whole in
      let rest_of : (k : ℕ) → k < length others → transition_at ts (suc i + k) ≡ transition_at others k =
      λ k below. ap (transition_at ts) (omega arith) ∙ there.rest_of (suc k) (omega (arith, below)) in
      let is : IsStep i s read others =
      record {
        below = omega (arith, whole);
        at = ap (λ (x : Transition). x.at) first;
        next = ap (λ (x : Transition). x.next) first ∙ ap (λ (x : SourceState). x.pc) next;
        goes_on = λ on. ap (λ (x : Transition). x.goes_on) first ∙ going_true (next_state p s found.0).outcome (ap (λ (x : SourceState). x.outcome) next ∙ on);
        more = λ some. omega (arith, whole, some);
        next_at = λ on some.
            let same : suc i + 0 ≡ suc i = omega arith in
            ap (λ (k : ℕ). (transition_at ts k).at) (sym same)
            ∙ (ap (λ (x : Transition). x.at) (rest_of 0 some)
            ∙ sym (first_transition p n (next_state q s read) s' others behind some).at);
      } in
      step_counted i n s s' read t t' es fs (m ∷ others) others there is whole rest_of reads
      (λ on. some_from n p (next_state q s read) s' others on off behind) step does more
      (λ next_here. walk_counted n (next_state q s read) s' t' fs more (suc i) others behind off next_here)

  -- ---- from the start

  module _ (walk : PlacedWalk file out board g c pl plan input count last) where
    abbrev source : SourceState
    source = source_start file board g input

    below_first : 0 < length ts
    below_first = some_from count p source last ts walk.entered.match.alike.source_going ended run

    entry_at : (transition_at ts 0).at ≡ source.pc
    entry_at = sym (first_transition p count source last ts run below_first).at

    abbrev begin : State
    begin = file_start out board input

    -- the start stub leads to the entry
    begun : walk.behind ≡ started (start_plan (view_in file) board g pl) begin
    begun =
        let way = stub_way file out board g c pl result input in
        let counts : length walk.begins.events ≡ length way.events =
        walk.begins.count ∙ (ap start_run result.view.planned.start ∙ sym way.count) in
        one_run same_instruction (length way.events) begin walk.behind (started (start_plan (view_in file) board g pl) begin)
        (subst (λ (n : ℕ). flat.Steps n begin walk.behind) counts (steps_of_events walk.begins.events begin walk.behind walk.begins.does))
        (steps_of_events way.events begin (started (start_plan (view_in file) board g pl) begin) way.does)

    pc_there : walk.behind.hart.pc ≡ source.pc
    pc_there = ap (λ (x : State). x.hart.pc) begun

    few : walk.entered.from ≤ pl.count
    few = let zero_there = walk.none in omega (arith, zero_there)

    abbrev own : IsCountedAt c pl.regions pl.borders ts 0
    own = counted_at 0 below_first

    first : Arrived 0 source walk.behind walk.entering walk.entered
    first =
        arrived 0 source walk.behind walk.entering walk.entered below_first entry_at walk.none
        (home_came file out board g c pl result side ts 0 own source.pc entry_at (entry_home file out board g c pl result side ts own entry_at)
        walk.entered.from walk.behind.hart.pc walk.entered.to walk.entered.entering walk.entered.at walk.entered.enters
        (home_arrival file out board g c pl result side ts 0 own source.pc entry_at walk.entered.from few walk.behind.hart.pc walk.entered.at pc_there).0
        walk.entered.after.hart.pc walk.entered.match.at.stands)

    is_counted : IsCounted file out board g c pl plan ts input count last walk
    is_counted =
        record {
          entry = first.counted;
          none = (home_arrival file out board g c pl result side ts 0 own source.pc entry_at walk.entered.from few walk.behind.hart.pc walk.entered.at pc_there).1;
          steps = walk_counted count source last walk.entered.after walk.events walk.walk 0 ts run ended
              (record {
                region = walk.entered.to;
                number = walk.entered.match.number ∙ walk.entered.region;
                becomes = subst (λ (x : ℕ). BecomesCurrent c pl.regions source.pc x walk.entered.to) walk.none walk.entered.current;
                rest_of = λ k small. ap (transition_at ts) (omega arith);
                whole = omega arith;
                uncopied = first.uncopied;
              });
        }

pub forms_counted : FormsAreCounted
forms_counted file out board g c pl result input n s transitions walk side run ended none =
    is_counted file out board g c pl result side transitions none input n s run ended walk
