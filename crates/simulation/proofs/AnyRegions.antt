-- Whole runs over units at any form, in any region.
use Rattle.std.proofs.Common.{◌≡◌, ℕ, ◌+◌, ◌*◌, true, List, ◌++◌, map, Option, refl, sym, subst, arith}
use Rattle.std.proofs.lemmas.List.{length-append, length-map}
use Rattle.rv32im.specs.declared.instructions.Instr.{Instr}
use Rattle.flat_machine.specs.declared.events.FlatEvent.{FlatEvent}
use Rattle.flat_machine.specs.Lines.{fetch_of, went}
use Rattle.flat_machine.specs.Runs.{Does}
use Rattle.flat_machine.specs.State.{State}
use Rattle.flat_machine.proofs.Runs.{does_joined}
use Rattle.object_machine.specs.declared.events.Outcome.{Outcome}
use Rattle.object_machine.specs.declared.events.Outcome.TheVariants.{GoesOn, AddressFault}
use Rattle.object_machine.specs.Program.{Program}
use Rattle.object_machine.specs.State.{SourceState}
use Rattle.object_machine.specs.Step.{Reads, next_state}
use Rattle.object_machine.specs.Paired.{Origins, origins_after, is_paired_step}
use Rattle.simulation.specs.Setups.{Setup, Sound}
use Rattle.simulation.specs.Relation.{After, Tells}
use Rattle.simulation.specs.Rules.{LiveRules}
use Rattle.simulation.specs.Laws.{Keeps}
use Rattle.simulation.specs.Forms.{FormAt, InWords, InRow, FormTells}
use Rattle.simulation.specs.Folds.{PairedBy, Folds, KeepsTold, Few, few_each}
use Rattle.simulation.specs.Ways.{Comes, way_fetched, AtAny, Arrivals, TellsJoin, within}
use Rattle.simulation.proofs.MadeSteps.{StayMade, next_made}
use Rattle.simulation.proofs.Runs.{Going, Ends, Stepped, KeptBySteps, runs_told, counts_fold, keeps_of_told}
use Rattle.simulation.proofs.AnyForms.{form_leads}
use Rattle.simulation.proofs.Arriving.{way_leads, way_length}

module _ (p : Program) (l : Setup) (live : ℕ → ℕ → Type 0) (comes form : ℕ → ℕ → ℕ → Type 0) (holds : ℕ → SourceState → Origins → Type 0) where
  pub any_goes : (s : SourceState) (m : Origins) (t : State) → AtAny p l live form holds s m t → Going s t
  any_goes s m t at = record { source = at.alike.source_going; flat = at.alike.going; output = at.alike.output }

  module _ (unit : SourceState → Option Instr → State → List FlatEvent → Type 0) (arrival : SourceState → State → List FlatEvent → Type 0) (tells : SourceState → Option Instr → State → List FlatEvent → Type 0) (reset : Origins → Origins) (rules : LiveRules p live) (forms : (r u a : ℕ) → form r u a → FormAt p l live (comes r) r u a) (told : (s : SourceState) (m : Origins) (t : State) (read : Option Instr) (at : AtAny p l live form holds s m t) → Reads (p.word s.pc) read → is_paired_step p s m read ≡ true → FormTells p l live (comes at.region) (unit s read t) at.region s.pc t.hart.pc t (forms at.region s.pc t.hart.pc at.at)) (arrivals : Arrivals p l live comes form holds arrival) (joins : TellsJoin p unit arrival tells) (resets : (s : SourceState) (m : Origins) (t : State) → AtAny p l live form holds s m t → AtAny p l live form holds s (reset m) t) where
    -- behind the unit's own words, by what became of the other machine
    module _ (r : ℕ) (s : SourceState) (t t' : State) (read : Option Instr) (es : List FlatEvent) (does : Does es t t') (sound : Sound p l r) where
      any_ends : (o : Outcome) (n : SourceState) (k : Origins) → next_state p s read ≡ n → n.outcome ≡ o → Tells o (unit s read t) es → After o p l live (comes r) r n k t' → StayMade p n k → (n.outcome ≡ GoesOn → holds r n k) → Stepped (tells s read t) (AtAny p l live form holds) n (reset k) t
      any_ends GoesOn n k is outcome unit_told after made held =
          let way = arrivals.arrives r n k t' sound (held outcome) after.0 (made outcome) after.1 in
          let joined : tells s read t (es ++ way.0) =
          joins.joined s read t t' es way.0 unit_told does (subst (λ (x : SourceState). arrival x t' way.0) (sym is) way.1.1.1.0) in (
            es ++ way.0,
            (
              way.1.0,
              (
                does_joined es way.0 t t' way.1.0 does way.1.1.0,
                subst (λ o. Tells o (tells s read t) (es ++ way.0) × Ends o (AtAny p l live form holds) n (reset k) way.1.0) (sym outcome)
                    (joined, resets n k way.1.0 way.1.1.1.1),
              ),
            ),
          )
      any_ends (AddressFault pc why) n k is outcome unit_told after made held = (
        es,
        (
          t',
          (
            does,
            subst (λ o. Tells o (tells s read t) es × Ends o (AtAny p l live form holds) n (reset k) t') (sym outcome) (tt, tt),
          ),
        ),
      )
      any_ends ended n k is outcome unit_told after made held =
          let alone : tells s read t es =
          joins.alone s read t es (subst (λ (x : SourceState). x.outcome ≡ GoesOn → ⊥) (sym is) (λ going. cc)) unit_told in (
            es,
            (
              t',
              (
                does,
                subst (λ o. Tells o (tells s read t) es × Ends o (AtAny p l live form holds) n (reset k) t') (sym outcome) (alone, after),
              ),
            ),
          )

    any_kept : KeptBySteps p reset tells (AtAny p l live form holds)
    any_kept s m t read here reads paired =
        let r : ℕ = here.region in
        let n : SourceState = next_state p s read in
        let k : Origins = origins_after p s m read in
        let leads =
        form_leads p l live (comes r) (unit s read t) r s m t
        (record { sound = here.sound; rules = rules; alike = here.alike; made = here.made })
        (forms r s.pc t.hart.pc here.at) (told s m t read here reads paired) read reads paired in
        any_ends r s t leads.1.0 read leads.0 leads.1.1.0 here.sound n.outcome n k refl refl leads.1.1.1.0 leads.1.1.1.1
        (next_made p s m read here.made reads)
        (arrivals.stays r t.hart.pc s m read here.at here.held here.alike.source_going reads paired)

    -- what is told of a run is folded from what is told of its units and arrivals
    pub runs_at_any : (run : ℕ → SourceState → SourceState → State → List FlatEvent → Type 0) → Folds p tells run → (n : ℕ) (s s' : SourceState) (m : Origins) (t : State) → AtAny p l live form holds s m t → PairedBy reset p n s m s' → KeepsTold run n s s' t
    runs_at_any run folds = runs_told p reset tells run folds (AtAny p l live form holds) any_goes any_kept

-- ---- how many steps

-- a unit's words and an arrival behind them
pub few_joined : (p : Program) (bound most : ℕ) → TellsJoin p (few_each bound) (within most) (few_each (bound + most))
few_joined p bound most =
    record {
      joined = λ s read t t' es fs few does short.
          let both = length-append es fs in
          let some = few.0 in
          let less = few.1 in
          (omega (arith, both, some), omega (arith, both, less, short));
      alone = λ s read t es ended few. let less = few.1 in (few.0, omega (arith, less));
    }

-- of any form at least one and at most four
pub few_words : (p : Program) (l : Setup) (live arrive : ℕ → ℕ → Type 0) (r u a : ℕ) (t : State) (form : FormAt p l live arrive r u a) → FormTells p l live arrive (Few 4) r u a t form
few_words p l live arrive r u a t (InWords words) =
    record {
      one = λ single e t' step. (omega arith, omega arith);
      two = λ pair e f t' t'' first second. (omega arith, omega arith);
    }
few_words p l live arrive r u a t (InRow row) =
    record {
      one = λ i single reads at.
          let run = (row.one i single reads).1 t at in
          let count = length-map run.fetched (fetch_of t.hart.mem) in
          let some = run.some in
          let few = run.few in
          (omega (arith, count, some), omega (arith, count, few));
      pair = λ is at.
          let run = row.pair is t at in
          let count = length-map run.fetched (fetch_of t.hart.mem) in
          let some = run.some in
          let few = run.few in
          (omega (arith, count, some), omega (arith, count, few));
    }

module _ (p : Program) (l : Setup) (live : ℕ → ℕ → Type 0) (comes form : ℕ → ℕ → ℕ → Type 0) (holds : ℕ → SourceState → Origins → Type 0) (most : ℕ) (reset : Origins → Origins) (rules : LiveRules p live) (forms : (r u a : ℕ) → form r u a → FormAt p l live (comes r) r u a) (arrivals : Arrivals p l live comes form holds (within most)) (resets : (s : SourceState) (m : Origins) (t : State) → AtAny p l live form holds s m t → AtAny p l live form holds s (reset m) t) where
  -- a run is kept in at most four steps for each unit, and `most` for each arrival
  pub runs_keep : (n : ℕ) (s s' : SourceState) (m : Origins) (t : State) → AtAny p l live form holds s m t → PairedBy reset p n s m s' → Keeps n (n * (4 + most)) s' t
  runs_keep n s s' m t at steps =
      keeps_of_told n (4 + most) s s' t
      (runs_at_any p l live comes form holds (few_each 4) (within most) (few_each (4 + most)) reset rules forms
      (λ s m t read at reads paired.
      few_words p l live (comes at.region) at.region s.pc t.hart.pc t (forms at.region s.pc t.hart.pc at.at)) arrivals
      (few_joined p 4 most) resets _ (counts_fold p (4 + most)) n s s' m t at steps)

-- ---- without a change of the region

-- where all arrivals are ways, and what holds of the other machine stays
pub ways_lead : (p : Program) (l : Setup) (live : ℕ → ℕ → Type 0) (form : ℕ → ℕ → ℕ → Type 0) (holds : ℕ → SourceState → Origins → Type 0) (most : ℕ) → ((r : ℕ) (s : SourceState) (m : Origins) (read : Option Instr) → holds r s m → s.outcome ≡ GoesOn → Reads (p.word s.pc) read → is_paired_step p s m read ≡ true → (next_state p s read).outcome ≡ GoesOn → holds r (next_state p s read) (origins_after p s m read)) → Arrivals p l live (Comes l live form most) form holds (within most)
ways_lead p l live form holds most stays =
    record {
      stays = λ r a s m read at. stays r s m read;
      arrives = λ r s m t sound held alike made comes.
          let fetched : List ℕ = way_fetched l live form r s.pc comes.0 t.hart.pc comes.1.1 in
          let led = way_leads p l live r s.pc s m form comes.0 t.hart.pc comes.1.1 t refl alike in
          let count = length-map fetched (fetch_of t.hart.mem) in
          let steps = way_length l live form r s.pc comes.0 t.hart.pc comes.1.1 in
          let few = comes.1.0 in (
            map (fetch_of t.hart.mem) fetched,
            (
              went t led.regs led.to,
              (
                led.ran,
                (
                  omega (arith, count, steps, few),
                  record { region = r; sound = sound; held = held; alike = led.alike; made = made; at = led.at },
                ),
              ),
            ),
          );
    }

-- where it says of the region alone
pub ways_arrive : (p : Program) (l : Setup) (live : ℕ → ℕ → Type 0) (form : ℕ → ℕ → ℕ → Type 0) (here : ℕ → Type 0) (most : ℕ) → Arrivals p l live (Comes l live form most) form (λ r s m. here r) (within most)
ways_arrive p l live form here most = ways_lead p l live form (λ r s m. here r) most (λ r s m read held going reads paired on. held)
