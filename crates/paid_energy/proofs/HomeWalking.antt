-- A file walks at home beside each paired run of its program: its events, unit by unit.
use Rattle.std.proofs.Common.{◌≡◌, ℕ, ◌+◌, true, false, List, [], ◌∷◌, Option, refl, sym, ap, subst}
use Rattle.rv32im.specs.declared.instructions.Instr.{Instr}
use Rattle.elf_reader.specs.File.{view_in}
use Rattle.elf_reader.specs.Loadable.{AreBytes}
use Rattle.board_config.specs.declared.board.Board.{Board}
use Rattle.flat_machine.specs.declared.events.FlatEvent.{FlatEvent}
use Rattle.flat_machine.specs.declared.events.FlatOutcome.TheVariants as flat
use Rattle.flat_machine.specs.Runs.{Does}
use Rattle.flat_machine.specs.State.{State}
use Rattle.object_graph.specs.declared.parts.Graph.{Graph}
use Rattle.object_machine.specs.declared.events.Outcome.{Outcome}
use Rattle.object_machine.specs.declared.events.Outcome.TheVariants.{GoesOn, AddressFault}
use Rattle.object_machine.specs.Program.{Program}
use Rattle.object_machine.specs.State.{SourceState}
use Rattle.object_machine.specs.Step.{Reads, next_state}
use Rattle.object_machine.specs.Paired.{Origins, at_start, origins_after, is_paired_step, PairedSteps}
use Rattle.simulation.specs.Setups.{Setup}
use Rattle.simulation.specs.Made.{AreMade}
use Rattle.simulation.specs.Relation.{Alike, After, Tells}
use Rattle.simulation.specs.Rules.{all_live}
use Rattle.simulation.specs.Laws.{at_home, IsUnit, OfBlock, ReachedBy, Behind}
use Rattle.simulation.specs.Forms.{WordsAt, InWords}
use Rattle.simulation.specs.Folds.{Folds, KeepsTold}
use Rattle.simulation.proofs.AtHome.{all_live_rules, made_at_start}
use Rattle.simulation.proofs.AnyForms.{form_leads, home_words}
use Rattle.simulation.proofs.MadeSteps.{StayMade, next_made}
use Rattle.simulation.proofs.OneUnit.{Before}
use Rattle.simulation.proofs.Runs.{Going, Ends, Stepped, KeptBySteps, runs_told, kept_origins}
use Rattle.result_laws.specs.HomeLaws.{IsAccepted, program_in, setup_in, source_start, file_start}
use Rattle.result_laws.proofs.HomeSound.{sound_home}
use Rattle.result_laws.proofs.HomeStart.{alike_at_start, entry_unit}
use Rattle.result_laws.proofs.HomeUnits.{units_are_home}
use Rattle.result_laws.proofs.Fetches.{WordsFetch}
use Rattle.result_laws.proofs.Walking.{fine_told}
use Rattle.result_laws.proofs.UnitEvents as events
use Rattle.paid_energy.specs.HomeWalks.{home_fetched, HomeUnitRuns, HomeWalks, NoSteps, Ended, Step, PairedRunsWalkHome}

module _ (file : List ℕ) (board : Board) (g : Graph) (accepted : IsAccepted file board g) where
  abbrev p : Program
  p = program_in file board g

  abbrev l : Setup
  l = setup_in file board g

  -- the flat machine arrives at the homes of units
  abbrev arrive : ℕ → ℕ → Type 0
  arrive u a = at_home u a × IsUnit p u

  record AreHome (s : SourceState) (m : Origins) (t : State) : Type 0 where
    alike : Alike p l all_live 0 s.pc s m t
    made : AreMade p s m
    at : arrive s.pc t.hart.pc

  record UnitStep (s : SourceState) (read : Option Instr) (t : State) (es : List FlatEvent) : Type 0 where
    going : t.outcome ≡ flat.GoesOn
    runs : HomeUnitRuns file board g s read es

  -- ---- a unit

  module _ (s : SourceState) (m : Origins) (t : State) (read : Option Instr) (here : AreHome s m t) (reads : Reads (p.word s.pc) read) (paired : is_paired_step p s m read ≡ true) where
    before : Before p l all_live 0 s m t
    before = record { sound = sound_home file board g accepted; rules = all_live_rules p; alike = here.alike; made = here.made }

    abbrev fetched : State → List ℕ
    fetched x = home_fetched p s.pc

    words : WordsAt p l arrive 0 s.pc t.hart.pc
    words =
        subst (λ (a : ℕ). WordsAt p l arrive 0 s.pc a) (sym here.at.0)
        (home_words p l arrive 0 s.pc (λ v block. (refl, OfBlock v block)) (λ v reached. (refl, ReachedBy v reached))
        (λ i single means follows falls. (refl, Behind s.pc here.at.1 single falls)) (units_are_home file board g accepted s.pc here.at.1))

    fetch : WordsFetch p s.pc t.hart.pc fetched
    fetch = record { one = λ single x. one single; two = λ pair x. two pair }
      where
        one : p.is_pair s.pc ≡ false → home_fetched p s.pc ≡ t.hart.pc ∷ []
        one single = rw (single) (ap (λ (a : ℕ). a ∷ []) (sym here.at.0))

        two : p.is_pair s.pc ≡ true → home_fetched p s.pc ≡ t.hart.pc ∷ (t.hart.pc + 4) ∷ []
        two pair = rw (pair) (ap (λ (a : ℕ). a ∷ (a + 4) ∷ []) (sym here.at.0))

    abbrev Told : List FlatEvent → Type 0
    Told es = events.Tells p l all_live arrive 0 s m t read before reads paired fetched es

    unit_step : (es : List FlatEvent) → Told es → UnitStep s read t es
    unit_step es told = record { going = here.alike.going; runs = record { addresses = told.0; accesses = told.1 } }

    -- behind it, by what became of the program
    unit_ends : (o : Outcome) (n : SourceState) (k : Origins) (es : List FlatEvent) (t' : State) → Does es t t' → n.outcome ≡ o → Tells o Told es → After o p l all_live arrive 0 n k t' → StayMade p n k → Stepped (UnitStep s read t) AreHome n k t
    unit_ends GoesOn n k es t' does is told after made = (
      es,
      (
        t',
        (
          does,
          subst (λ o. Tells o (UnitStep s read t) es × Ends o AreHome n k t') (sym is)
              (unit_step es told, record { alike = after.0; made = made is; at = after.1 }),
        ),
      ),
    )
    unit_ends (AddressFault pc why) n k es t' does is told after made =
        (es, (t', (does, subst (λ o. Tells o (UnitStep s read t) es × Ends o AreHome n k t') (sym is) (tt, tt))))
    unit_ends ended n k es t' does is told after made =
        (es, (t', (does, subst (λ o. Tells o (UnitStep s read t) es × Ends o AreHome n k t') (sym is) (unit_step es told, after))))

  home_kept : KeptBySteps p (λ m. m) UnitStep AreHome
  home_kept s m t read here reads paired =
      let n : SourceState = next_state p s read in
      let leads =
      form_leads p l all_live arrive (Told s m t read here reads paired) 0 s m t (before s m t read here reads paired)
      (InWords (words s m t read here reads paired))
      (events.form_told p l all_live arrive 0 s m t read (before s m t read here reads paired) reads paired (fetched s m t read here reads paired)
      (InWords (words s m t read here reads paired)) (fetch s m t read here reads paired)) read reads paired in
      unit_ends s m t read here reads paired n.outcome n (origins_after p s m read) leads.0 leads.1.0 leads.1.1.0 refl leads.1.1.1.0 leads.1.1.1.1
      (next_made p s m read here.made reads)

  -- ---- runs

  home_goes : (s : SourceState) (m : Origins) (t : State) → AreHome s m t → Going s t
  home_goes s m t at = record { source = at.alike.source_going; flat = at.alike.going; output = at.alike.output }

  folds : Folds p UnitStep (HomeWalks file board g)
  folds =
      record {
        none = λ s t. NoSteps s t;
        ended = λ n s t ended. Ended n s t ended;
        more = λ n s s' read t t' es fs going reads told does rest. Step n s s' read t t' es fs going told.going reads told.runs does rest;
      }

  module _ (input : List ℕ) (bytes : AreBytes input) (n : ℕ) (s : SourceState) (steps : PairedSteps p n (source_start file board g input) at_start s) where
    walked : KeepsTold (HomeWalks file board g) n (source_start file board g input) s (file_start file board input)
    walked =
        runs_told p (λ m. m) UnitStep (HomeWalks file board g) folds AreHome home_goes home_kept n (source_start file board g input) s at_start
        (file_start file board input)
        (record {
          alike = alike_at_start file board g accepted input bytes;
          made = made_at_start (view_in file) p g input;
          at = (refl, entry_unit file board g accepted);
        })
        (kept_origins p n (source_start file board g input) s at_start steps)

pub paired_runs_walk_home : PairedRunsWalkHome
paired_runs_walk_home file board g input n s accepted bytes steps fine =
    let told = walked file board g accepted input bytes n s steps in
    record {
      events = told.0;
      last = told.1.0;
      does = told.1.1.0;
      walk = fine_told s.outcome (HomeWalks file board g n (source_start file board g input) s (file_start file board input)) told.0 fine told.1.1.1.0;
      ends = told.1.1.1.1;
    }
