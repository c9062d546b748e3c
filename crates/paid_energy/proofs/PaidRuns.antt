-- What a result pays is the modelled energy: by how the choice is realised.
use Rattle.std.proofs.Common.{◌≡◌, ◌∙◌, ◌⊎◌, inl, inr, ℕ, zero, suc, ◌+◌, ◌*◌, ◌<◌, ◌≤◌, Bool, true, false, not, ◌&&◌, ◌==◌, if◌then◌else◌, List, [], ◌∷◌, ◌++◌, length, map, refl, sym, ap, subst, arith}
use Rattle.std.proofs.lemmas.Bool.Decides.{nat_tests}
use Rattle.std.proofs.lemmas.List.{length-map}
use Rattle.rv32im.specs.Table.{OneInstruction}
use Rattle.elf_reader.specs.Loadable.{AreBytes}
use Rattle.board_config.specs.declared.board.Board.{Board}
use Rattle.flat_machine.specs.declared.events.FlatEvent.{FlatEvent}
use Rattle.flat_machine.specs.declared.events.FlatOutcome.{FlatOutcome}
use Rattle.flat_machine.specs.declared.events.FlatOutcome.TheVariants as flat
use Rattle.flat_machine.specs.Runs.{Does, HasEnded}
use Rattle.flat_machine.specs.State.{State}
use Rattle.flat_machine.proofs.Runs.{does_joined}
use Rattle.object_graph.specs.declared.parts.Graph.{Graph}
use Rattle.code_blocks.specs.declared.parts.Code.{Code}
use Rattle.region_former.specs.declared.table.RegionTable.{RegionTable}
use Rattle.object_machine.specs.declared.events.Outcome.{Outcome}
use Rattle.object_machine.specs.declared.events.Outcome.TheVariants.{GoesOn, Exited, Trapped, AddressFault}
use Rattle.object_machine.specs.Paired.{at_start, PairedSteps}
use Rattle.object_machine.specs.Program.{Program}
use Rattle.object_machine.specs.State.{SourceState}
use Rattle.object_machine.specs.Step.{next_state}
use Rattle.placement_programme.specs.Plain.{PlainProgramme, PlainChoice}
use Rattle.placement_programme.specs.Programme.{IsFeasible}
use Rattle.profile_runner.specs.Transition.{Transition}
use Rattle.profile_runner.specs.Transitions.{TransitionsFrom, Transitions, transition_of}
use Rattle.profile_runner.proofs.RunLemmas.{transitions_steps}
use Rattle.energy_model.specs.Energy.{Scene, Taken, nothing_taken, is_nothing, steps_energy, side_energy}
use Rattle.energy_model.specs.Scenes.{scene_of}
use Rattle.placement_candidates.specs.Whole.{taken_of as names_taken}
use Rattle.placement_programme.specs.declared.variables.VarName.{VarName}
use Rattle.relocator.specs.declared.items.Item.{Item}
use Rattle.relocator.specs.Slots.{items_of}
use Rattle.simulation.specs.Laws.{EndsAlike}
use Rattle.result_laws.specs.HomeLaws.{IsAccepted, program_in, source_start, file_start}
use Rattle.result_laws.specs.ResultLaws.{most_steps}
use Rattle.result_laws.specs.PlacedLaws.{IsPlacedResult}
use Rattle.result_laws.specs.Walks.{PlacedWalk, IsNoFault}
use Rattle.result_laws.proofs.Keeping.{placed_result_keeps}
use Rattle.result_laws.proofs.Walking.{placed_walks}
use Rattle.relink_core.specs.Placed.{taken_of, MovesItems, Realises, hands_on, moves}
use Rattle.relink_core.proofs.KeepsLemmas.{passes}
use Rattle.paid_energy.specs.Costs.{run_cost}
use Rattle.paid_energy.specs.FlatRuns.{RunsFor, PaysRun}
use Rattle.paid_energy.specs.Inward.{inward_calls}
use Rattle.paid_energy.specs.HomeWalks.{WalksHome}
use Rattle.paid_energy.proofs.RunLemmas.{one_run_until}
use Rattle.paid_energy.specs.Laws.{enough_steps, IsPairedWhereNothing, IsPassed, PaysEnergy, ResultsPay}
use Rattle.paid_energy.specs.WalkCosts.{walk_events}
use Rattle.paid_energy.proofs.HomeCosts.{home_costs_energy}
use Rattle.paid_energy.proofs.HomeWalking.{paired_runs_walk_home}
use Rattle.paid_energy.proofs.LastSteps.{EndsIn, runs_for, no_longer, ends_behind, walk_ends, home_ends, home_few}
use Rattle.paid_energy.proofs.WalkSums.{walk_costs_energy}
use Rattle.paid_energy.proofs.SameScenes.{items_taken, sides_regions, energy_same, calls_same}

-- ---- runs of a program

shorten_from : (o : Outcome) (n : ℕ) (p : Program) (s t : SourceState) (ts : List Transition) → s.outcome ≡ o → ((u : SourceState) (others : List Transition) → Transitions p n u others t → Transitions p (length others) u others t) → TransitionsFrom o (Transitions p n) p s ts t → Transitions p (length ts) s ts t
shorten_from GoesOn n p s t ts is later run =
    let others : List Transition = run.1.1.0 in
    let m : Transition = transition_of p s (next_state p s run.0) run.0 in
    let whole : Transitions p (suc (length others)) s (m ∷ others) t =
    subst (λ (o : Outcome). TransitionsFrom o (Transitions p (length others)) p s (m ∷ others) t) (sym is)
    (run.0, (run.1.0, (others, (refl, later (next_state p s run.0) others run.1.1.1.1)))) in
    subst (λ (xs : List Transition). Transitions p (length xs) s xs t) (sym run.1.1.1.0) whole
shorten_from (Exited code) n p s t ts is later run =
    subst (λ (xs : List Transition). Transitions p (length xs) s xs t) (sym run.0) (refl, run.1)
shorten_from (Trapped pc) n p s t ts is later run =
    subst (λ (xs : List Transition). Transitions p (length xs) s xs t) (sym run.0) (refl, run.1)
shorten_from (AddressFault pc why) n p s t ts is later run =
    subst (λ (xs : List Transition). Transitions p (length xs) s xs t) (sym run.0) (refl, run.1)

-- a run takes no more steps than it has transitions
shortened : (n : ℕ) (p : Program) (s t : SourceState) (ts : List Transition) → Transitions p n s ts t → Transitions p (length ts) s ts t
shortened zero p s t ts run =
    subst (λ (xs : List Transition). Transitions p (length xs) s xs t) (sym run.0) (refl, run.1)
shortened (suc n) p s t ts run =
    shorten_from s.outcome n p s t ts refl (λ u others rest. shortened n p u t others rest) run

-- ---- what is taken

something : (on : Bool) (n : ℕ) → (on ≡ true) ⊎ (0 < n) → not on && (n == 0) ≡ false
something true n some = refl
something false n (inl is) = absurd (cc (is))
something false n (inr some) = grind (arith, nat_tests, some)

nothing : (on : Bool) (n : ℕ) → on ≡ false → n ≡ 0 → not on && (n == 0) ≡ true
nothing on n off none = grind (arith, nat_tests, off, none)

ended_so : (t : State) (code : ℕ) → t.outcome ≡ flat.Exited code → HasEnded t.outcome
ended_so t code is = subst HasEnded (sym is) tt

-- a run that exited pays what its events cost
pays_for : (board : Board) (most code inward modelled : ℕ) (start last : State) (events : List FlatEvent) → RunsFor most start events last → last.outcome ≡ flat.Exited code
    → (inward ≡ 0 → run_cost board events ≡ modelled) → PaysEnergy board most start code inward modelled
pays_for board most code inward modelled start last events runs exited equal =
    record {
      steps = length events;
      paid = run_cost board events;
      run = record {
        events = events;
        last = last;
        run = runs;
        outcome_is = sym exited;
        steps_are = refl;
        energy_is = refl;
      };
      equal = equal;
    }

module _ (file out : List ℕ) (board : Board) (g : Graph) (c : Code) (t : RegionTable) (p : PlainProgramme) (choice : PlainChoice) (input : List ℕ) (n : ℕ) (ts : List Transition) (s : SourceState) (code : ℕ) (passed : IsPassed file board g c) (feasible : IsFeasible p choice) (bytes : AreBytes input) (run : Transitions (program_in file board g) n (source_start file board g input) ts s) (exits : s.outcome ≡ Exited code) where
  abbrev program : Program
  program = program_in file board g

  abbrev source : SourceState
  source = source_start file board g input

  abbrev scene : Scene
  scene = scene_of g c t board

  abbrev taken : Taken
  taken = names_taken p choice

  abbrev inward : ℕ
  inward = inward_calls scene c taken ts

  accepted : IsAccepted file board g
  accepted =
      let sound = passes file board passed.no_fault in
      record {
        bytes = passed.bytes;
        none = sound.first;
        lawful = passed.lawful;
        layout = sound.layout;
        graph = passed.graph;
        code = sound.code;
      }

  no_fault : IsNoFault s.outcome
  no_fault = subst IsNoFault (sym exits) tt

  names_count : length taken.names ≡ length (items_of p choice)
  names_count =
      sym (ap (λ (xs : List VarName). length xs) (items_taken p choice feasible)) ∙ length-map (items_of p choice) (λ (i : Item). i.name)

  -- ---- where something moves

  module _ (moved : MovesItems file board g c t (taken_of p choice) out) where
    abbrev result : IsPlacedResult file out board g c moved.pl
    result = record { accepted = accepted; code = passed.code; placement = moved.placement; view = moved.shows }

    abbrev begin : State
    begin = file_start out board input

    abbrev walk : PlacedWalk file out board g c moved.pl moved.shows.plan input n s
    walk = placed_walks file out board g c moved.pl result input n s bytes (transitions_steps program n source s ts run) no_fault

    abbrev events : List FlatEvent
    events = walk_events file out board g c moved.pl moved.shows.plan input n s walk

    does : Does events begin walk.last
    does =
        does_joined walk.begins.events (walk.entering ++ walk.events) begin walk.behind walk.last walk.begins.does
        (does_joined walk.entering walk.events walk.behind walk.entered.after walk.last walk.entered.does walk.does)

    ends : EndsIn begin events
    ends =
        ends_behind begin walk.behind walk.begins.events (walk.entering ++ walk.events) walk.begins.does
        (ends_behind walk.behind walk.entered.after walk.entering walk.events walk.entered.does
        (walk_ends file out board g c moved.pl result n source s walk.entered.after walk.events code walk.walk walk.entered.match.alike.source_going exits))

    exits_there : walk.last.outcome ≡ flat.Exited code
    exits_there = (subst (λ (o : Outcome). EndsAlike o s walk.last) exits walk.ends).0

    abbrev most : ℕ
    most = (length ts + 1) * most_steps board

    few : length events ≤ most
    few =
        let short = shortened n program source s ts run in
        let kept =
        placed_result_keeps file out board g c moved.pl result g input (length ts) s passed.graph bytes
        (transitions_steps program (length ts) source s ts short) in
        let alike = (subst (λ (o : Outcome). EndsAlike o s kept.1.0) exits kept.1.1.1.1).0 in
        let within = no_longer kept.0 begin walk.last kept.1.0 events does ends kept.1.1.1.0 (ended_so kept.1.0 code alike) in
        let bound = kept.1.1.0.most in
        omega (arith, within, bound)

    runs : RunsFor most begin events walk.last
    runs = runs_for most begin walk.last events does (ended_so walk.last code exits_there) few ends

    moved_pays : PaysEnergy board most begin code inward (side_energy scene taken ts)
    moved_pays =
        pays_for board most code inward (side_energy scene taken ts) begin walk.last events runs exits_there
        (λ none.
        walk_costs_energy file out board g c moved.pl result input n code s ts walk
        (sides_regions board p choice feasible t moved.pl moved.placed) run exits
        (calls_same file out board g c moved.pl result p choice feasible t moved.placed ts ∙ none)
        ∙ energy_same file out board g c moved.pl result p choice feasible t moved.placed ts)

  -- ---- where nothing does

  module _ (paired : PairedSteps program n source at_start s) where
    abbrev begin_home : State
    begin_home = file_start file board input

    home : WalksHome file board g input n s
    home = paired_runs_walk_home file board g input n s accepted bytes paired no_fault

    exits_home : home.last.outcome ≡ flat.Exited code
    exits_home = (subst (λ (o : Outcome). EndsAlike o s home.last) exits home.ends).0

    runs_home : RunsFor (2 * length ts) begin_home home.events home.last
    runs_home =
        runs_for (2 * length ts) begin_home home.last home.events home.does (ended_so home.last code exits_home)
        (home_few file board g n source s begin_home home.events ts home.walk run)
        (home_ends file board g n source s begin_home home.events code home.walk refl exits)

    home_pays : PaysEnergy board (2 * length ts) begin_home code inward (steps_energy scene nothing_taken ts)
    home_pays =
        pays_for board (2 * length ts) code inward (steps_energy scene nothing_taken ts) begin_home home.last home.events runs_home exits_home
        (λ none. home_costs_energy file board g c input scene n s begin_home ts home.events accepted passed.code refl refl refl home.walk run no_fault)

  -- ---- both

  -- by whether nothing is moved
  abbrev PaysBy : Bool → Type 0
  PaysBy unmoved =
      PaysEnergy board (enough_steps board unmoved (length ts)) (file_start out board input) code inward
      (if unmoved then steps_energy scene taken ts else side_energy scene taken ts)

  pub by_realises : Realises file board g c t (taken_of p choice) out → IsPairedWhereNothing (is_nothing taken) file board g input n s → PaysBy (is_nothing taken)
  by_realises (moves some moved) paired =
      let count = names_count in
      let counted : (choice.on ≡ true) ⊎ (0 < length taken.names) =
      elim some [ inl on ↦ inl on | inr more ↦ inr (omega (arith, more, count)) ] in
      let is : is_nothing taken ≡ false = something choice.on (length taken.names) counted in
      subst PaysBy (sym is) (moved_pays moved)
  by_realises (hands_on off empty same) paired =
      let count = names_count in
      let items = ap (λ (xs : List Item). length xs) empty in
      let none_named : taken.names ≡ [] =
      sym (items_taken p choice feasible) ∙ ap (λ (xs : List Item). map (λ (i : Item). i.name) xs) empty in
      let is : is_nothing taken ≡ true = nothing choice.on (length taken.names) off (omega (arith, count, items)) in
      let untaken : nothing_taken ≡ taken = λ i. record { on = sym off i; names = sym none_named i } in
      let home = home_pays (subst (λ (t : Bool). IsPairedWhereNothing t file board g input n s) is paired) in
      subst PaysBy (sym is)
      (subst (λ (made : List ℕ). PaysEnergy board (2 * length ts) (file_start made board input) code inward (steps_energy scene taken ts)) (sym same)
      (subst (λ (x : Taken). PaysEnergy board (2 * length ts) (file_start file board input) code inward (steps_energy scene x ts)) untaken home))

pub results_pay : ResultsPay
results_pay file out board g c t p choice input n ts s code passed feasible bytes realises run exits paired =
    by_realises file out board g c t p choice input n ts s code passed feasible bytes run exits realises paired

-- each run that is told within the bound comes to that, since a machine runs in one way
pub each_run_pays : OneInstruction → (board : Board) (most : ℕ) (start : State) (outcome : FlatOutcome) (steps paid code calls modelled : ℕ) → PaysRun board most start outcome steps paid → PaysEnergy board most start code calls modelled → (outcome ≡ flat.Exited code) × (calls ≡ 0 → paid ≡ modelled)
each_run_pays one board most start outcome steps paid code calls modelled told law =
    let same = one_run_until one most start told.last law.run.last told.events law.run.events told.run law.run.run in (
      told.outcome_is ∙ (ap (λ (x : State). x.outcome) same.1 ∙ sym law.run.outcome_is),
      λ none. told.energy_is ∙ (ap (run_cost board) same.0 ∙ (sym law.run.energy_is ∙ law.equal none)),
    )
