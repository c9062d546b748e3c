-- The regions in which the units of a walk run are those that are counted in the transitions of the run.
use Rattle.std.proofs.Common.{◌≡◌, ◌∙◌, inl, inr, ℕ, zero, suc, ◌+◌, ◌<◌, true, false, List, [], ◌∷◌, ◌++◌, length, slice_index_or, Option, Some, None, refl, sym, ap, subst, arith}
use Rattle.std.proofs.lemmas.Bool.{cases_Bool}
use Rattle.rv32im.specs.Memory.{word_at}
use Rattle.rv32im.specs.declared.instructions.Instr.{Instr}
use Rattle.board_config.specs.declared.board.Board.{Board}
use Rattle.flat_machine.specs.declared.events.FlatEvent.{FlatEvent}
use Rattle.flat_machine.specs.Runs.{Does}
use Rattle.flat_machine.specs.State.{State}
use Rattle.flat_machine.proofs.Runs.{does_joined}
use Rattle.object_graph.specs.declared.parts.Graph.{Graph}
use Rattle.code_blocks.specs.Early.{has}
use Rattle.code_blocks.specs.Numbers.{starts_of}
use Rattle.code_blocks.specs.declared.parts.Code.{Code}
use Rattle.dataflow.specs.Overlaid.{region_in}
use Rattle.object_machine.specs.declared.events.Outcome.{Outcome}
use Rattle.object_machine.specs.declared.events.Outcome.TheVariants.{GoesOn, Exited, Trapped, AddressFault}
use Rattle.object_machine.specs.Program.{Program}
use Rattle.object_machine.specs.State.{SourceState}
use Rattle.object_machine.specs.Step.{Reads, next_state}
use Rattle.object_machine.specs.Runs.{HasEnded}
use Rattle.profile_runner.specs.Standing.{number_of, entered, current}
use Rattle.profile_runner.specs.Transition.{Transition, transition_at}
use Rattle.profile_runner.specs.Transitions.{TransitionsFrom, FirstOf, Transitions, transition_of}
use Rattle.profile_runner.proofs.FindLemmas.{block_found}
use Rattle.simulation.proofs.Unnamed.{next_same}
use Rattle.result_laws.specs.HomeLaws.{source_start}
use Rattle.result_laws.proofs.Setting.{setting}
use Rattle.result_laws.proofs.CodeUnits.{block_of}
use Rattle.result_laws.specs.ChosenPlacement.{ChosenPlacement}
use Rattle.result_laws.specs.PlacedLaws.{IsPlacedResult}
use Rattle.result_laws.specs.Matching.{Match}
use Rattle.result_laws.specs.Walks.{StepRuns, On, Ends, Walks, NoSteps, Ended, Step, BecomesCurrent, step_region, walk_regions, WalksAreCounted}
use Rattle.result_laws.proofs.Matching.{one_after}
use Rattle.result_laws.proofs.UnitEvents.{one_reading}

-- no transition follows where the machine has ended
none_behind : (o : Outcome) (rest : SourceState → List Transition → SourceState → Type 0) (p : Program) (s s' : SourceState) (ts : List Transition) → (o ≡ GoesOn → ⊥) → TransitionsFrom o rest p s ts s' → ts ≡ []
none_behind GoesOn rest p s s' ts ended transitions = absurd (ended refl)
none_behind (Exited code) rest p s s' ts ended transitions = transitions.0
none_behind (Trapped pc) rest p s s' ts ended transitions = transitions.0
none_behind (AddressFault pc why) rest p s s' ts ended transitions = transitions.0

pub none_ended : (n : ℕ) (p : Program) (s s' : SourceState) (ts : List Transition) → (s.outcome ≡ GoesOn → ⊥) → Transitions p n s ts s' → ts ≡ []
none_ended zero p s s' ts ended transitions = transitions.0
none_ended (suc n) p s s' ts ended transitions = none_behind s.outcome (Transitions p n) p s s' ts ended transitions

pub ended_on : (o : Outcome) → HasEnded o → o ≡ GoesOn → ⊥
ended_on GoesOn ended is = ended
ended_on (Exited code) ended is = absurd (cc)
ended_on (Trapped pc) ended is = absurd (cc)
ended_on (AddressFault pc why) ended is = absurd (cc)

pub one_read : (w : ℕ) (q k : Option Instr) → Reads w q → Reads w k → q ≡ k
one_read w None None one other = refl
one_read w None (Some j) one other = absurd (one j other)
one_read w (Some i) k one other = sym (one_reading w i k one other)

module _ (file out : List ℕ) (board : Board) (g : Graph) (c : Code) (pl : ChosenPlacement) (result : IsPlacedResult file out board g c pl) (whole : List Transition) where
  open (setting file out board g c pl result) use {p as q, named as p, plan}

  abbrev now : ℕ → ℕ
  now i = current (starts_of c) pl.regions whole i

  -- ---- one transition

  -- the region that control enters at an address is the next one that is counted
  pub becomes_counted : (i v r : ℕ) → (transition_at whole i).at ≡ v → BecomesCurrent c pl.regions v (now i) r → r ≡ now (suc i)
  becomes_counted i v r at becomes =
      elim (cases_Bool (has (starts_of c) (transition_at whole i).at)) [
        | inl begun ↦
            let leads = subst (λ (x : ℕ). has (starts_of c) x ≡ true) at begun in
            let there = block_of file board g c result.accepted result.code v (sym (result.code.leaders v) ∙ leads) in
            let found = block_found c v there.0 result.code.ascending there.1 there.2 in
            let number : number_of (starts_of c) (transition_at whole i).at ≡ there.0 = ap (number_of (starts_of c)) at ∙ found.1 in
            let counted : now (suc i) ≡ entered (now i) (region_in pl.regions there.0) =
            counts_begun begun ∙ ap (λ (b : ℕ). entered (now i) (region_in pl.regions b)) number in
            becomes.begins there.0 there.1 there.2 ∙ sym counted
        | inr none ↦
            becomes.stays (subst (λ (x : ℕ). has (starts_of c) x ≡ false) at none) ∙ sym (counts_on none)
      ]
    where
      counts_begun : has (starts_of c) (transition_at whole i).at ≡ true → now (suc i) ≡ entered (now i) (region_in pl.regions (number_of (starts_of c) (transition_at whole i).at))
      counts_begun begun = rw (begun) refl

      counts_on : has (starts_of c) (transition_at whole i).at ≡ false → now (suc i) ≡ now i
      counts_on none = rw (none) refl

  -- ---- walks

  -- the states of both machines at transition `i`, and the transitions from there on
  record Here (i : ℕ) (s : SourceState) (t : State) (rest : List Transition) : Type 0 where
    region : ℕ
    number : word_at t.hart.mem board.patch.base ≡ region
    becomes : BecomesCurrent c pl.regions s.pc (now i) region
    rest_of : (k : ℕ) → k < length rest → transition_at whole (i + k) ≡ transition_at rest k

  abbrev Counts : ℕ → List ℕ → List Transition → Type 0
  Counts i regions rest = (k : ℕ) → k < length rest → slice_index_or regions k 0 ≡ now (suc (i + k))

  none_counts : (i : ℕ) (regions : List ℕ) (rest : List Transition) → rest ≡ [] → Counts i regions rest
  none_counts i regions rest none k below = let count = ap (λ (ts : List Transition). length ts) none in absurd (omega (arith, count, below))

  more_counts : (i r : ℕ) (regions : List ℕ) (m : Transition) (rest : List Transition) → r ≡ now (suc i) → Counts (suc i) regions rest → Counts i (r ∷ regions) (m ∷ rest)
  more_counts i r regions m rest first behind zero below = first ∙ ap (λ (x : ℕ). now (suc x)) (omega arith)
  more_counts i r regions m rest first behind (suc k) below =
      behind k (omega (arith, below)) ∙ ap (λ (x : ℕ). now (suc x)) (omega arith)

  first_at : (i : ℕ) (s : SourceState) (t : State) (m : Transition) (others : List Transition) → Here i s t (m ∷ others) → m.at ≡ s.pc → (transition_at whole i).at ≡ s.pc
  first_at i s t m others here at =
      ap (λ (x : ℕ). (transition_at whole x).at) (omega arith) ∙ (ap (λ (x : Transition). x.at) (here.rest_of 0 (omega arith)) ∙ at)

  -- the unit of a state runs in the region that is counted
  match_counts : (i : ℕ) (s : SourceState) (t : State) (m : Transition) (others : List Transition) → Here i s t (m ∷ others) → m.at ≡ s.pc → (match : Match file out board g c pl plan s t) → match.region ≡ now (suc i)
  match_counts i s t m others here at match =
      sym match.number ∙ (here.number ∙ becomes_counted i s.pc here.region (first_at i s t m others here at) here.becomes)

  step_counts : (i : ℕ) (s : SourceState) (read : Option Instr) (t : State) (es : List FlatEvent) (m : Transition) (others : List Transition) → Here i s t (m ∷ others) → m.at ≡ s.pc → (step : StepRuns file out board g c pl plan s read t es) → step_region file out board g c pl plan s read t es step ≡ now (suc i)
  step_counts i s read t _ m others here at (On es fs t1 unit does arrival same) = match_counts i s t m others here at unit.match
  step_counts i s read t _ m others here at (Ends es ended unit) = match_counts i s t m others here at unit.match

  -- behind a step
  here_behind : (i : ℕ) (s : SourceState) (read : Option Instr) (t t' : State) (es : List FlatEvent) (m : Transition) (others : List Transition) → Here i s t (m ∷ others) → m.at ≡ s.pc → (step : StepRuns file out board g c pl plan s read t es) → Does es t t' → (next_state q s read).outcome ≡ GoesOn → Here (suc i) (next_state q s read) t' others
  here_behind i s read t t' _ m others here at (Ends es ended unit) does going = absurd (ended going)
  here_behind i s read t t' _ m others here at (On es fs t1 unit unit_does arrival same) does going =
      let after : arrival.after ≡ t' =
      one_after q (λ x k u. Unit {0}) t t' arrival.after (es ++ fs) does (does_joined es fs t t1 arrival.after unit_does arrival.does) in
      let from : arrival.from ≡ now (suc i) = same ∙ match_counts i s t m others here at unit.match in
      record {
        region = arrival.to;
        number = subst (λ (x : State). word_at x.hart.mem board.patch.base ≡ arrival.to) after (arrival.match.number ∙ arrival.region);
        becomes = subst (λ (x : ℕ). BecomesCurrent c pl.regions (next_state q s read).pc x arrival.to) from arrival.current;
        rest_of = λ k below.
            ap (transition_at whole) (omega arith) ∙ here.rest_of (suc k) (omega (arith, below));
      }

  walk_counts : (n : ℕ) (s s' : SourceState) (t : State) (es : List FlatEvent) (walk : Walks file out board g c pl plan n s s' t es) (i : ℕ) (rest : List Transition) → Transitions p n s rest s' → Here i s t rest → Counts i (walk_regions file out board g c pl plan n s s' t es walk) rest
  walk_counts _ _ _ _ _ (NoSteps s t) i rest transitions here = none_counts i [] rest transitions.0
  walk_counts _ _ _ _ _ (Ended n s t ended) i rest transitions here =
      none_counts i [] rest (none_ended n p s s rest (ended_on s.outcome ended) transitions)
  walk_counts _ _ _ _ _ (Step n s s' read t t' es fs going reads step does more) i rest transitions here =
      let found : FirstOf (Transitions p n) p s rest s' = subst (λ o. TransitionsFrom o (Transitions p n) p s rest s') going transitions in
      let m : Transition = transition_of p s (next_state p s found.0) found.0 in
      let others : List Transition = found.1.1.0 in
      let whole_rest : rest ≡ m ∷ others = found.1.1.1.0 in
      let next : next_state p s found.0 ≡ next_state q s read =
      next_same p s found.0 ∙ ap (next_state q s) (one_read (p.word s.pc) found.0 read found.1.0 reads) in
      let behind : Transitions p n (next_state q s read) others s' =
      subst (λ (x : SourceState). Transitions p n x others s') next found.1.1.1.1 in
      let there : Here i s t (m ∷ others) = subst (λ (ts : List Transition). Here i s t ts) whole_rest here in
      let regions : List ℕ = walk_regions file out board g c pl plan n (next_state q s read) s' t' fs more in
      let later : Counts (suc i) regions others =
      by_outcome (next_state q s read).outcome refl
      (λ on. walk_counts n (next_state q s read) s' t' fs more (suc i) others behind (here_behind i s read t t' es m others there refl step does on))
      (λ off. none_counts (suc i) regions others (none_ended n p (next_state q s read) s' others off behind)) in
      subst (λ (ts : List Transition). Counts i (step_region file out board g c pl plan s read t es step ∷ regions) ts) (sym whole_rest)
      (more_counts i (step_region file out board g c pl plan s read t es step) regions m others (step_counts i s read t es m others there refl step) later)
    where
      by_outcome : {X : Type 0} → (o : Outcome) {n : Outcome} → n ≡ o → (n ≡ GoesOn → X) → ((n ≡ GoesOn → ⊥) → X) → X
      by_outcome GoesOn is on off = on is
      by_outcome (Exited code) is on off = off (λ going. cc)
      by_outcome (Trapped pc) is on off = off (λ going. cc)
      by_outcome (AddressFault pc why) is on off = off (λ going. cc)

pub walks_counted : WalksAreCounted
walks_counted file out board g c pl result input n i s transitions walk made below =
    let source : SourceState = source_start file board g input in
    let entered = walk.entered in
    walk_counts file out board g c pl result transitions n source s entered.after walk.events walk.walk 0 transitions made
    (record {
      region = entered.to;
      number = entered.match.number ∙ entered.region;
      becomes = subst (λ (x : ℕ). BecomesCurrent c pl.regions source.pc x entered.to) walk.none entered.current;
      rest_of = λ k small. ap (transition_at transitions) (omega arith);
    })
    i below
    ∙ ap (λ (x : ℕ). current (starts_of c) pl.regions transitions (suc x)) (omega arith)
