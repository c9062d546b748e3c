-- A result walks beside its program: the events of each run, unit by unit.
use Rattle.std.proofs.Common.{◌≡◌, ◌∙◌, ℕ, ◌+◌, ◌*◌, true, List, ◌++◌, length, map, Option, refl, sym, ap, subst, arith}
use Rattle.std.proofs.lemmas.List.{length-map}
use Rattle.rv32im.specs.Memory.{word_at}
use Rattle.rv32im.proofs.Meaning.{same_instruction}
use Rattle.flat_machine.specs.Runs.{Does}
use Rattle.flat_machine.specs.Runs as flat
use Rattle.flat_machine.proofs.Runs.{one_run, steps_of_events}
use Rattle.result_laws.proofs.Setting.{setting}
use Rattle.result_laws.proofs.Fetches.{FormOver}
use Rattle.rv32im.specs.declared.instructions.Instr.{Instr}
use Rattle.elf_reader.specs.Loadable.{AreBytes}
use Rattle.board_config.specs.declared.board.Board.{Board}
use Rattle.code_blocks.proofs.EntryLemmas.{entry_leads}
use Rattle.flat_machine.specs.declared.events.FlatEvent.{FlatEvent}
use Rattle.flat_machine.specs.State.{State}
use Rattle.patch_code.specs.Told.{Way, jobs_accesses}
use Rattle.object_graph.specs.declared.parts.Graph.{Graph}
use Rattle.code_blocks.specs.declared.parts.Code.{Code}
use Rattle.object_machine.specs.declared.events.Outcome.{Outcome}
use Rattle.object_machine.specs.declared.events.Outcome.TheVariants.{GoesOn, Exited, Trapped, AddressFault}
use Rattle.object_machine.specs.Program.{Program}
use Rattle.object_machine.specs.State.{SourceState}
use Rattle.object_machine.specs.Step.{Reads, next_state}
use Rattle.object_machine.specs.Runs.{Steps}
use Rattle.object_machine.specs.Paired.{Origins, at_start, origins_after, is_paired_step}
use Rattle.patch_code.specs.Start.{StartPlan, start_at as stub_start, start_bytes, start_run}
use Rattle.patch_code.specs.StubLaws.{started}
use Rattle.result_laws.specs.JobLaws.{room_left}
use Rattle.simulation.specs.Setups.{Setup, Sound}
use Rattle.simulation.specs.Made.{AreMade}
use Rattle.simulation.specs.Forms.{FormAt, InWords, InRow, FormTells}
use Rattle.simulation.specs.Folds.{Folds, KeepsTold}
use Rattle.simulation.specs.Relation.{Alike, After, Tells}
use Rattle.simulation.specs.Ways.{AtAny, Arrivals, TellsJoin}
use Rattle.simulation.proofs.AnyForms.{form_leads}
use Rattle.simulation.proofs.AnyRegions.{runs_at_any}
use Rattle.simulation.proofs.OneUnit.{Before}
use Rattle.simulation.proofs.Resets.{all_made, any_reset}
use Rattle.simulation.proofs.Unnamed.{unnamed_paired}
use Rattle.result_laws.specs.HomeLaws.{program_in, source_start, file_start}
use Rattle.result_laws.proofs.LiveUnits.{liveness_keeps}
use Rattle.result_laws.specs.ChosenPlacement.{ChosenPlacement, slots_in, images_in}
use Rattle.result_laws.specs.PlacedView.{start_plan}
use Rattle.result_laws.specs.PlacedLaws.{IsPlacedResult}
use Rattle.result_laws.specs.Walks.{address_in, unit_fetched, IsNoFault, UnitRuns, ArrivalRuns, StepRuns, On, Ends, Walks, NoSteps, Ended, Step as Goes, PlacedWalk, PlacedWalks}
use Rattle.result_laws.proofs.Arrived.{ArrivedFrom, arrived_from}
use Rattle.result_laws.proofs.Arriving.{IsHeldIn}
use Rattle.result_laws.proofs.PlacedChosen.{sound}
use Rattle.result_laws.proofs.Current.{becomes_current}
use Rattle.result_laws.proofs.HomeForms.{block_comes}
use Rattle.result_laws.proofs.Keeping.{can_switch, forms_over, forms, arrives, forgets, held_first}
use Rattle.result_laws.proofs.Matching.{number_there, matches}
use Rattle.result_laws.proofs.Starting.{stub_way, start_alike}
use Rattle.result_laws.proofs.UnitEvents as events

-- what is told of a form may be told of more
form_more : (p : Program) (l : Setup) (live arrive : ℕ → ℕ → Type 0) (first last : List FlatEvent → Type 0) (r u a : ℕ) (t : State) (form : FormAt p l live arrive r u a) → ((es : List FlatEvent) → first es → last es) → FormTells p l live arrive first r u a t form → FormTells p l live arrive last r u a t form
form_more p l live arrive first last r u a t (InWords words) more told =
    record {
      one = λ single e t' step. more _ (told.one single e t' step);
      two = λ pair e f t' t'' step next. more _ (told.two pair e f t' t'' step next);
    }
form_more p l live arrive first last r u a t (InRow row) more told =
    record {
      one = λ i single reads at. more _ (told.one i single reads at);
      pair = λ is at. more _ (told.pair is at);
    }

-- what is told of a run that ends in no fault
pub fine_told : (o : Outcome) (tells : List FlatEvent → Type 0) (es : List FlatEvent) → IsNoFault o → Tells o tells es → tells es
fine_told GoesOn tells es fine told = told
fine_told (Exited code) tells es fine told = told
fine_told (Trapped pc) tells es fine told = told
fine_told (AddressFault pc why) tells es fine told = absurd fine

module _ (file out : List ℕ) (board : Board) (g : Graph) (c : Code) (pl : ChosenPlacement) (result : IsPlacedResult file out board g c pl) (input : List ℕ) where
  open (setting file out board g c pl result) use {v, p, l, live, plan, form, comes}

  abbrev source : SourceState
  source = source_start file board g input

  abbrev bound : ℕ
  bound = 12 * room_left board g (images_in pl) (slots_in board pl) + 83

  abbrev holds : ℕ → SourceState → Origins → Type 0
  holds = IsHeldIn file out board g c pl result input

  abbrev At : SourceState → Origins → State → Type 0
  At = AtAny p l live form holds

  -- the unit of a state from which both machines go on
  record Unit (s : SourceState) (read : Option Instr) (t : State) (es : List FlatEvent) : Type 0 where
    runs : UnitRuns file out board g c pl plan s read t es
    made : Origins
    at : At s made t
    reads : Reads (p.word s.pc) read
    paired : is_paired_step p s made read ≡ true
    region : runs.match.region ≡ at.region
    addresses : map address_in es ≡ unit_fetched p c g pl plan t.hart.regs s.pc t.hart.pc at.at.stands

  abbrev Arrival : SourceState → State → List FlatEvent → Type 0
  Arrival s t es = ArrivalRuns file out board g c pl plan s t es

  abbrev OneStep : SourceState → Option Instr → State → List FlatEvent → Type 0
  OneStep s read t es = StepRuns file out board g c pl plan s read t es

  -- ---- units

  before : (s : SourceState) (m : Origins) (t : State) (at : At s m t) → Before p l live at.region s m t
  before s m t at =
      record { sound = at.sound; rules = liveness_keeps file board g c result.accepted result.code; alike = at.alike; made = at.made }

  module _ (s : SourceState) (m : Origins) (t : State) (read : Option Instr) (at : At s m t) (reads : Reads (p.word s.pc) read) (paired : is_paired_step p s m read ≡ true) where
    abbrev fetched : State → List ℕ
    fetched x = unit_fetched p c g pl plan x.hart.regs s.pc t.hart.pc at.at.stands

    abbrev over : FormOver p l live (comes at.region) at.region s.pc t.hart.pc fetched
    over = forms_over file out board g c pl result input at.region s.pc t.hart.pc at.at

    abbrev Told : List FlatEvent → Type 0
    Told es = events.Tells p l live (comes at.region) at.region s m t read (before s m t at) reads paired fetched es

    form_told : FormTells p l live (comes at.region) Told at.region s.pc t.hart.pc t over.0
    form_told =
        events.form_told p l live (comes at.region) at.region s m t read (before s m t at) reads paired fetched over.0 over.1

    unit_told : FormTells p l live (comes at.region) (Unit s read t) at.region s.pc t.hart.pc t over.0
    unit_told =
        form_more p l live (comes at.region) Told (Unit s read t) at.region s.pc t.hart.pc t over.0
        (λ es told.
        record {
          runs = record { match = matches file out board g c pl result input s m t at; addresses = told.0; accesses = told.1 };
          made = m;
          at = at;
          reads = reads;
          paired = paired;
          region = refl;
          addresses = told.0;
        })
        form_told

    -- its words leave the first control word as it is
    number_stays : (es : List FlatEvent) (t' : State) → map address_in es ≡ fetched t → Does es t t' → (next_state p s read).outcome ≡ GoesOn → word_at t'.hart.mem board.patch.base ≡ at.region
    number_stays es t' addresses does going =
        let next : SourceState = next_state p s read in
        let leads =
        form_leads p l live (comes at.region) Told at.region s m t (before s m t at) over.0 form_told read reads paired in
        let again : List FlatEvent = leads.0 in
        let told : Told again = fine_told next.outcome Told again (subst IsNoFault (sym going) tt) leads.1.1.1.0 in
        let alike : Alike p l live at.region next.pc next (origins_after p s m read) leads.1.0 =
        (subst (λ o. After o p l live (comes at.region) at.region next (origins_after p s m read) leads.1.0) going leads.1.1.1.1).0 in
        let count : length again ≡ length es =
        sym (length-map again address_in) ∙ (ap (λ (xs : List ℕ). length xs) (told.0 ∙ sym addresses) ∙ length-map es address_in) in
        let same : leads.1.0 ≡ t' =
        one_run same_instruction (length es) t leads.1.0 t'
        (subst (λ (n : ℕ). flat.Steps n t leads.1.0) count (steps_of_events again t leads.1.0 leads.1.1.0)) (steps_of_events es t t' does) in
        subst (λ (x : State). word_at x.hart.mem board.patch.base ≡ at.region) same
        (number_there file out board g c pl result input at.region next (origins_after p s m read) leads.1.0 at.held.0 alike)

  -- ---- arrivals

  -- events of an arrival, behind which states match again
  abbrev Arrives : SourceState → Origins → State → Type 0
  Arrives s m t =
      (es : List FlatEvent) × ((run : Arrival s t es) × At s m run.after)

  arrival_told : (r : ℕ) (s : SourceState) (m : Origins) (t : State) → Sound p l r → holds r s m → Alike p l live r s.pc s m t → AreMade p s m → comes r s.pc t.hart.pc → Arrives s m t
  arrival_told r s m t sound_there held alike made there =
      let from : ArrivedFrom file out board g c pl result input r s m t t.hart.pc there =
      arrived_from file out board g c pl result input bound r (omega arith)
      (λ to some within other. can_switch file out board g c pl result input r to held.0 some within other) s m t sound_there held alike t.hart.pc there refl in
      let to : ℕ = from.to in
      let at : At s m from.lands.after =
      record {
        region = to;
        sound = sound file out board g c pl result to;
        held = from.lands.held;
        alike = from.lands.alike;
        made = made;
        at = from.lands.at;
      } in (
        from.leaving ++ from.entering,
        (
          record {
            from = r;
            number = number_there file out board g c pl result input r s m t held.0 alike;
            at = there;
            leaving = from.leaving;
            entering = from.entering;
            whole = refl;
            leaves = from.leaves;
            to = to;
            enters = from.enters;
            current = becomes_current file out board g c pl result r s.pc t.hart.pc to from.entering there from.enters from.lands.at.may;
            after = from.lands.after;
            does = from.lands.does;
            match = matches file out board g c pl result input s m from.lands.after at;
            region = refl;
          },
          at,
        ),
      )

  arrivals_told : Arrivals p l live comes form holds Arrival
  arrivals_told =
      record {
        stays = (arrives file out board g c pl result input).stays;
        arrives = λ r s m t sound_there held alike made there.
            let told = arrival_told r s m t sound_there held alike made there in
            (told.0, (told.1.0.after, (told.1.0.does, (told.1.0, told.1.1))));
      }

  -- ---- runs

  joins : TellsJoin p Unit Arrival OneStep
  joins =
      record {
        joined = λ s read t t' es fs unit does arrival.
            let stays =
            number_stays s unit.made t read unit.at unit.reads unit.paired es t' unit.addresses does arrival.match.alike.source_going in
            On es fs t' unit.runs does arrival (sym arrival.number ∙ (stays ∙ sym unit.region));
        alone = λ s read t es ended unit. Ends es ended unit.runs;
      }

  folds : Folds p OneStep (Walks file out board g c pl plan)
  folds =
      record {
        none = λ s t. NoSteps s t;
        ended = λ n s t ended. Ended n s t ended;
        more = λ n s s' read t t' es fs going reads told does rest. Goes n s s' read t t' es fs going reads told does rest;
      }

  resets : (s : SourceState) (m : Origins) (t : State) → At s m t → At s at_start t
  resets = any_reset p l live form holds (λ r. refl) (forgets file out board g c pl result input)

  module _ (bytes : AreBytes input) (n : ℕ) (s : SourceState) (steps : Steps (program_in file board g) n source s) (fine : IsNoFault s.outcome) where
    abbrev behind : State
    behind = started (start_plan v board g pl) (file_start out board input)

    entered : Arrives source at_start behind
    entered =
        arrival_told 0 source at_start behind (sound file out board g c pl result 0) (held_first file out board g c pl result input)
        (start_alike file out board g c pl result live input bytes) (all_made p source)
        (block_comes file out board g c pl result 0 v.entry (entry_leads v result.accepted.code))

    walked : (t : State) → At source at_start t → KeepsTold (Walks file out board g c pl plan) n source s t
    walked t at =
        runs_at_any p l live comes form holds Unit Arrival OneStep (λ m. at_start)
        (liveness_keeps file board g c result.accepted result.code) (forms file out board g c pl result input) unit_told arrivals_told joins resets
        (Walks file out board g c pl plan) folds n source s at_start t at (unnamed_paired (program_in file board g) n source s steps)

    pub placed_walk : PlacedWalk file out board g c pl plan input n s
    unfolding entered arrival_told
    placed_walk =
        let run = entered.1.0 in
        let told = walked run.after entered.1.1 in
        record {
          behind = behind;
          begins =
              subst (λ (x : StartPlan). Way (stub_start x) (start_bytes x) (start_run x) (jobs_accesses x.jobs) (file_start out board input) behind)
              (sym result.view.planned.start) (stub_way file out board g c pl result input);
          entering = entered.0;
          entered = run;
          none = refl;
          events = told.0;
          last = told.1.0;
          does = told.1.1.0;
          walk = fine_told s.outcome (Walks file out board g c pl plan n source s run.after) told.0 fine told.1.1.1.0;
          ends = told.1.1.1.1;
        }

pub placed_walks : PlacedWalks
placed_walks file out board g c pl result input n s bytes steps fine =
    placed_walk file out board g c pl result input bytes n s steps fine
