-- Where a program goes on, its result matches it behind each of its steps.
use Rattle.std.proofs.Common.{◌≡◌, ℕ, ◌+◌, ◌*◌, ◌≤◌, List, ◌++◌, length, Option, refl, subst, arith}
use Rattle.rv32im.specs.Memory.{word_at}
use Rattle.rv32im.specs.declared.instructions.Instr.{Instr}
use Rattle.rv32im.proofs.Meaning.{same_instruction}
use Rattle.elf_reader.specs.File.{view_in}
use Rattle.elf_reader.specs.Image.{image_of}
use Rattle.elf_reader.specs.Loadable.{AreBytes}
use Rattle.board_config.specs.declared.board.Board.{Board}
use Rattle.flat_machine.specs.declared.events.FlatEvent.{FlatEvent}
use Rattle.flat_machine.specs.Runs.{Does}
use Rattle.flat_machine.specs.State.{State}
use Rattle.flat_machine.proofs.Runs.{does_joined, one_run, steps_joined, steps_of_events}
use Rattle.object_graph.specs.declared.parts.Graph.{Graph}
use Rattle.code_blocks.specs.declared.parts.Code.{Code}
use Rattle.object_machine.specs.declared.events.Outcome.{Outcome}
use Rattle.object_machine.specs.declared.events.Outcome.TheVariants.{GoesOn}
use Rattle.object_machine.specs.Program.{Program}
use Rattle.object_machine.specs.State.{SourceState}
use Rattle.object_machine.specs.Step.{next_state}
use Rattle.object_machine.specs.Runs.{Steps}
use Rattle.object_machine.specs.Paired.{Origins, at_start}
use Rattle.patch_code.specs.Start.{start_run}
use Rattle.simulation.specs.Setups.{Setup}
use Rattle.simulation.specs.Folds.{Folds, few_each, pace_of, KeepsTold}
use Rattle.simulation.specs.Relation.{Tells}
use Rattle.simulation.specs.Ways.{AtAny, Arrivals, TellsJoin, within}
use Rattle.simulation.proofs.AnyRegions.{few_joined, few_words, runs_at_any}
use Rattle.simulation.specs.Relation.{Alike}
use Rattle.simulation.proofs.Resets.{any_reset, alike_reset}
use Rattle.simulation.proofs.Runs.{counts_fold}
use Rattle.simulation.proofs.Steps.{is_at}
use Rattle.simulation.proofs.Unnamed.{unnamed_paired}
use Rattle.result_laws.proofs.Setting.{setting}
use Rattle.result_laws.proofs.ArrivalPads.{region_number}
use Rattle.simulation.specs.Changes.{AreAtHomeToo}
use Rattle.simulation.proofs.Homes.{home_too}
use Rattle.result_laws.specs.HomeLaws.{program_in, source_start, file_start}
use Rattle.result_laws.specs.ResultLaws.{most_steps}
use Rattle.result_laws.proofs.LiveUnits.{liveness_keeps}
use Rattle.result_laws.specs.JobLaws.{room_left}
use Rattle.result_laws.proofs.Homes.{homes_of_choice}
use Rattle.result_laws.proofs.PlanStanding.{plan_of_choice}
use Rattle.result_laws.specs.ChosenPlacement.{ChosenPlacement, slots_in, images_in}
use Rattle.result_laws.specs.PlacedView.{start_plan}
use Rattle.result_laws.specs.PlacedLaws.{IsPlacedResult}
use Rattle.result_laws.specs.Matching.{Match, Matched, PlacedStatesMatch}
use Rattle.result_laws.proofs.PlacedChosen.{is_overlay, holds_plan, holds_homes}
use Rattle.result_laws.proofs.Arriving.{IsHeldIn}
use Rattle.result_laws.proofs.Starting.{stub_runs}
use Rattle.result_laws.proofs.Keeping.{forms, arrives, forgets, led, start_few}

-- ---- relations that hold where steps end

-- steps lead to a form of the unit
abbrev pub Lands : (SourceState → Origins → State → Type 0) → SourceState → State → List FlatEvent → Type 0
Lands Related s t es = (t' : State) × (Does es t t' × ((m : Origins) × Related s m t'))

-- so they do from a form, where the other machine goes on
abbrev pub LandsOn : (SourceState → Origins → State → Type 0) → SourceState → SourceState → State → List FlatEvent → Type 0
LandsOn Related s s' t es =
    s'.outcome ≡ GoesOn → (s.outcome ≡ GoesOn) × (((m : Origins) × Related s m t) → Lands Related s' t es)

module _ (p : Program) (Related : SourceState → Origins → State → Type 0) where
  lands_behind : (s : SourceState) (t t' : State) (es fs : List FlatEvent) → Does es t t' → Lands Related s t' fs → Lands Related s t (es ++ fs)
  lands_behind s t t' es fs does lands = (lands.0, (does_joined es fs t t' lands.0 does lands.1.0, lands.1.1))

  -- steps lead to one state
  pub one_after : (t t' u : State) (es : List FlatEvent) → Does es t t' → Does es t u → u ≡ t'
  one_after t t' u es does other =
      one_run same_instruction (length es) t u t' (steps_of_events es t u other) (steps_of_events es t t' does)

  pub lands_fold : (tells : SourceState → Option Instr → State → List FlatEvent → Type 0) (run : ℕ → SourceState → SourceState → State → List FlatEvent → Type 0) → Folds p tells run → Folds p (λ s read t es. tells s read t es × ((next_state p s read).outcome ≡ GoesOn → Lands Related (next_state p s read) t es)) (λ n s s' t es. run n s s' t es × LandsOn Related s s' t es)
  lands_fold tells run folds =
      record {
        none = λ s t. (folds.none s t, λ going. (going, λ at. (t, (refl, at))));
        ended = λ n s t ended. (folds.ended n s t ended, λ going. (going, λ at. (t, (refl, at))));
        more = λ n s s' read t t' es fs going reads told does rest. (
          folds.more n s s' read t t' es fs going reads told.0 does rest.0,
          λ on. (
            going,
            λ at.
                let behind = rest.1 on in
                let first = told.1 behind.0 in
                let same : first.0 ≡ t' = one_after t t' first.0 es does first.1.0 in
                let there : (m : Origins) × Related (next_state p s read) m t' =
                subst (λ (u : State). (m : Origins) × Related (next_state p s read) m u) same first.1.1 in
                lands_behind s' t t' es fs does (behind.1 there),
          ),
        );
      }

  pub lands_join : (unit : SourceState → Option Instr → State → List FlatEvent → Type 0) (arrival : SourceState → State → List FlatEvent → Type 0) (tells : SourceState → Option Instr → State → List FlatEvent → Type 0) → TellsJoin p unit arrival tells → TellsJoin p unit (λ s t es. arrival s t es × Lands Related s t es) (λ s read t es. tells s read t es × ((next_state p s read).outcome ≡ GoesOn → Lands Related (next_state p s read) t es))
  lands_join unit arrival tells joins =
      record {
        joined = λ s read t t' es fs told does arrived. (
          joins.joined s read t t' es fs told does arrived.0,
          λ on. lands_behind (next_state p s read) t t' es fs does arrived.1,
        );
        alone = λ s read t es ended told. (joins.alone s read t es ended told, λ on. absurd (ended on));
      }

-- arrivals land
pub arrivals_land : (p : Program) (l : Setup) (live : ℕ → ℕ → Type 0) (comes form : ℕ → ℕ → ℕ → Type 0) (holds : ℕ → SourceState → Origins → Type 0) (tells : SourceState → State → List FlatEvent → Type 0) → Arrivals p l live comes form holds tells → Arrivals p l live comes form holds (λ s t es. tells s t es × Lands (AtAny p l live form holds) s t es)
arrivals_land p l live comes form holds tells arrivals =
    record {
      stays = arrivals.stays;
      arrives = λ r s m t sound held alike made there.
          let way = arrivals.arrives r s m t sound held alike made there in
          (way.0, (way.1.0, (way.1.1.0, ((way.1.1.1.0, (way.1.0, (way.1.1.0, (m, way.1.1.1.1)))), way.1.1.1.1))));
    }

-- what is told of a run that goes on
going_told : (o : Outcome) (tells : List FlatEvent → Type 0) (es : List FlatEvent) → o ≡ GoesOn → Tells o tells es → tells es
going_told GoesOn tells es is told = told
going_told o tells es is told = subst (λ x. Tells x tells es) is told

-- ---- the states of a result

module _ (file out : List ℕ) (board : Board) (g : Graph) (c : Code) (pl : ChosenPlacement) (result : IsPlacedResult file out board g c pl) (input : List ℕ) where
  open (setting file out board g c pl result) use {v, p, l, live, plan, form, comes}

  abbrev source : SourceState
  source = source_start file board g input

  -- the steps of a switch, and of an arrival
  abbrev bound : ℕ
  bound = 12 * room_left board g (images_in pl) (slots_in board pl) + 83

  abbrev most : ℕ
  most = 5 + (bound + 5)

  abbrev holds : ℕ → SourceState → Origins → Type 0
  holds = IsHeldIn file out board g c pl result input

  abbrev pub Related : SourceState → Origins → State → Type 0
  Related = AtAny p l live form holds

  resets : (s : SourceState) (m : Origins) (t : State) → Related s m t → Related s at_start t
  resets = any_reset p l live form holds (λ r. refl) (forgets file out board g c pl result input)

  -- where states are alike the first control word has the region's number
  pub number_there : (r : ℕ) (s : SourceState) (m : Origins) (t : State) → r ≤ pl.count → Alike p l live r s.pc s m t → word_at t.hart.mem board.patch.base ≡ r
  number_there r s m t below alike =
      let overlay = is_overlay file out board g c pl result in
      let image = image_of (view_in out).segments in
      let stands = plan_of_choice file board g pl.count pl.programme pl.choice (images_in pl) image plan result.view.words r overlay (holds_plan file out board g c pl result) below in
      subst (λ (b : ℕ). word_at t.hart.mem b ≡ r) result.view.planned.lies.base
      (region_number plan result.view.words l r stands t.hart.pc t (is_at p l live r s.pc s m t alike))

  pub home_bytes : (r : ℕ) (s : SourceState) (m : Origins) (t : State) → holds r s m → Alike p l live r s.pc s m t → AreAtHomeToo p l r s m t
  home_bytes r s m t held alike =
      let overlay = is_overlay file out board g c pl result in
      let image = image_of (view_in out).segments in
      let still = homes_of_choice file out board g pl.count pl.programme pl.choice (images_in pl) image input r overlay (holds_homes file out board g c pl result r) in
      home_too p l live r s.pc source s at_start m t alike held.1.1.1 still

  pub alike_forgets : (r : ℕ) (s : SourceState) (m : Origins) (t : State) → Alike p l live r s.pc s m t → Alike p l live r s.pc s at_start t
  alike_forgets r s m t alike = alike_reset p l r refl live s.pc s m t alike

  abbrev pub matches : (s : SourceState) (m : Origins) (t : State) → Related s m t → Match file out board g c pl plan s t
  matches s m t at =
      record {
        region = at.region;
        known = at.held.0;
        alike = alike_forgets at.region s m t at.alike;
        homes =
            home_bytes at.region s at_start t (forgets file out board g c pl result input at.region s m at.held)
            (alike_forgets at.region s m t at.alike);
        number = number_there at.region s m t at.held.0 at.alike;
        at = at.at;
        held = at.held.1.1.0;
      }

  module _ (bytes : AreBytes input) (n : ℕ) (s : SourceState) (steps : Steps (program_in file board g) n source s) (going : s.outcome ≡ GoesOn) where
    abbrev start : State
    start = (led file out board g c pl result input bytes).1.0

    at_form : Related source at_start start
    at_form = (led file out board g c pl result input bytes).1.1.1.1

    told : KeepsTold (λ n s s' t es. pace_of (4 + most) n s s' t es × LandsOn Related s s' t es) n source s start
    told =
        runs_at_any p l live comes form holds (few_each 4) (λ s t es. within most s t es × Lands Related s t es)
        (λ s read t es. few_each (4 + most) s read t es × ((next_state p s read).outcome ≡ GoesOn → Lands Related (next_state p s read) t es))
        (λ m. at_start) (liveness_keeps file board g c result.accepted result.code) (forms file out board g c pl result input)
        (λ s m t read at reads paired.
        few_words p l live (comes at.region) at.region s.pc t.hart.pc t (forms file out board g c pl result input at.region s.pc t.hart.pc at.at))
        (arrivals_land p l live comes form holds (within most) (arrives file out board g c pl result input))
        (lands_join p Related (few_each 4) (within most) (few_each (4 + most)) (few_joined p 4 most)) resets
        (λ n s s' t es. pace_of (4 + most) n s s' t es × LandsOn Related s s' t es)
        (lands_fold p Related (few_each (4 + most)) (pace_of (4 + most)) (counts_fold p (4 + most))) n source s at_start start at_form
        (unnamed_paired (program_in file board g) n source s steps)

    pub matched : Matched file out board g c pl plan input n ((n + 1) * most_steps board) s
    matched =
        let way = led file out board g c pl result input bytes in
        let es : List FlatEvent = told.0 in
        let both = going_told s.outcome (λ es. pace_of (4 + most) n source s start es × LandsOn Related source s start es) es going told.1.1.1.0 in
        let pace = both.0 in
        let least = pace.least going in
        let short = pace.most in
        let lands = (both.1 going).1 (at_start, at_form) in
        let first = start_run (start_plan v board g pl) in
        let begun = way.1.1.1.0 in
        let whole = start_few file out board g c pl result input bytes n in
        let behind = stub_runs file out board g c pl result input in
        record {
          steps = first + (length way.0 + length es);
          after = lands.0;
          some = omega (arith, least);
          few = omega (arith, short, begun, whole);
          ran =
              steps_joined first (length way.0 + length es) (file_start out board input) _ lands.0 behind
              (steps_joined (length way.0) (length es) _ start lands.0 (steps_of_events way.0 _ start way.1.1.0)
              (steps_of_events es start lands.0 lands.1.0));
          match = matches s lands.1.1.0 lands.0 lands.1.1.1;
        }

pub placed_states_match : PlacedStatesMatch
placed_states_match file out board g c pl result input n s bytes steps going =
    matched file out board g c pl result input bytes n s steps going
