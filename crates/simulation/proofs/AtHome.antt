-- Units at their homes, where all registers matter.
use Rattle.std.proofs.Common.{◌≡◌, ℕ, ◌*◌, ◌==◌, true, false, List, [], refl, sym, subst, arith}
use Rattle.std.proofs.lemmas.Bool.{cond_both}
use Rattle.cell_values.specs.declared.values.Val.TheVariants.{Int}
use Rattle.cell_values.specs.declared.values.Cell.{Cell}
use Rattle.cell_values.specs.declared.values.Cell.TheVariants.{Byte, Part, Mist}
use Rattle.cell_values.specs.Origins.{ByLui}
use Rattle.flat_machine.specs.declared.events.FlatEvent.{FlatEvent}
use Rattle.flat_machine.specs.Runs.{Does}
use Rattle.flat_machine.specs.State.{State}
use Rattle.object_machine.specs.declared.events.Outcome.{Outcome}
use Rattle.object_machine.specs.declared.events.Outcome.TheVariants.{GoesOn, Exited, Trapped, AddressFault}
use Rattle.object_machine.specs.Program.{Program}
use Rattle.object_machine.specs.State.{SourceState, value}
use Rattle.object_machine.specs.Start.{first_fixed, first_cells}
use Rattle.object_machine.specs.Step.{next_state}
use Rattle.object_machine.specs.Paired.{Origins, origins_after}
use Rattle.simulation.specs.Setups.{Setup}
use Rattle.simulation.specs.Made.{IsMade, CellIsMade}
use Rattle.simulation.specs.Relation.{KeepsPace, After, Leads, Tells}
use Rattle.simulation.specs.Rules.{LiveRules, all_live}
use Rattle.simulation.specs.Laws.{at_home, IsUnit, OfBlock, ReachedBy, Behind, AllAtHome, Keeps, UnitsAtHome, RunsAtHome, MadeAtStart, MadeStays}
use Rattle.simulation.specs.Forms.{WordsAt, FormAt, InWords, WordsTell}
use Rattle.simulation.specs.Folds.{PairedBy, Few, few_each, pace_of}
use Rattle.simulation.specs.Ways.{AtAny, Arrivals, within}
use Rattle.simulation.proofs.Dispatch.{unit_steps}
use Rattle.simulation.proofs.MadeSteps.{next_made}
use Rattle.simulation.proofs.AnyForms.{home_words}
use Rattle.simulation.proofs.AnyRegions.{few_joined, runs_at_any}
use Rattle.simulation.proofs.Runs.{counts_fold, keeps_of_told, kept_origins}

pub all_live_rules : (p : Program) → LiveRules p all_live
all_live_rules p =
    record {
      uses = λ u k i single reads has. tt;
      keeps = λ s i k going single reads next lives other. tt;
      passes = λ s read k going pair next lives other. tt;
    }

-- of which so much is told, so many steps lead there
leads_by : (o : Outcome) (bound : ℕ) (p : Program) (l : Setup) (live arrive : ℕ → ℕ → Type 0) (r : ℕ) (s : SourceState) (m : Origins) (t t' : State) (es : List FlatEvent) → s.outcome ≡ o → Does es t t' → Tells o (Few bound) es → After o p l live arrive r s m t' → Leads bound p l live arrive r s m t
leads_by GoesOn bound p l live arrive r s m t t' es is does told after =
    let some = told.0 in
    (es, (t', (does, (record { least = λ going. some; most = told.1 }, subst (λ o. After o p l live arrive r s m t') (sym is) after))))
leads_by (Exited code) bound p l live arrive r s m t t' es is does told after =
    let some = told.0 in
    (es, (t', (does, (record { least = λ going. some; most = told.1 }, subst (λ o. After o p l live arrive r s m t') (sym is) after))))
leads_by (Trapped pc) bound p l live arrive r s m t t' es is does told after =
    let some = told.0 in
    (es, (t', (does, (record { least = λ going. some; most = told.1 }, subst (λ o. After o p l live arrive r s m t') (sym is) after))))
leads_by (AddressFault pc why) bound p l live arrive r s m t t' es is does told after =
    let none : KeepsPace 1 bound s.outcome 0 = record { least = λ going. absurd (cc); most = omega arith } in
    ([], (t, (refl, (none, subst (λ o. After o p l live arrive r s m t) (sym is) tt))))

-- one or two
home_words_few : (p : Program) (u : ℕ) (t : State) → WordsTell p (Few 2) u t
home_words_few p u t =
    record {
      one = λ single e t' step. (omega arith, omega arith);
      two = λ pair e f t' t'' first second. (omega arith, omega arith);
    }

pub units_at_home : UnitsAtHome
units_at_home p l r s m t read sound unit alike made at reads paired =
    let next : SourceState = next_state p s read in
    let words : WordsAt p l at_home r s.pc s.pc =
    home_words p l at_home r s.pc (λ v block. refl) (λ v reached. refl) (λ i single reads follows falls. refl) unit in
    let leads =
    unit_steps p l all_live at_home (Few 2) r s m t read
    (record {
      before = record { sound = sound; rules = all_live_rules p; alike = alike; made = made };
      unit = subst (λ c. WordsAt p l at_home r s.pc c) (sym at) words;
      told = home_words_few p s.pc t;
    })
    reads paired in
    leads_by next.outcome 2 p l all_live at_home r next (origins_after p s m read) t leads.1.0 leads.0 refl leads.1.1.0
    leads.1.1.1.0 leads.1.1.1.1

-- ---- upper parts

pub made_stays : MadeStays
made_stays p s m read made reads = next_made p s m read made reads

by_lui_made : (p : Program) (c : Cell) → CellIsMade p ByLui c
by_lui_made p (Byte b) = tt
by_lui_made p (Part true o d k) = tt
by_lui_made p (Part false o d k) = tt
by_lui_made p Mist = tt

pub start_value : (p : Program) (k : ℕ) → IsMade p ByLui (value (λ _. Int 0) k)
start_value p k = cond_both (k == 0) (Int 0) (Int 0) (IsMade p ByLui) (λ is. tt) (λ other. tt)

pub made_at_start : MadeAtStart
made_at_start v p g input =
    record {
      regs = start_value p;
      fixed = λ a. by_lui_made p (first_fixed v p g a);
      cells = λ o i. by_lui_made p (first_cells v g o i);
    }

-- ---- runs

-- the flat pc is at the home of a unit, and all units stand at their homes
abbrev pub home_form : Program → Setup → ℕ → ℕ → ℕ → Type 0
home_form p l r u a = AllAtHome p l r × (at_home u a × IsUnit p u)

abbrev pub any_held : ℕ → SourceState → Origins → Type 0
any_held r s m = Unit {0}

module _ (p : Program) (l : Setup) where
  home_forms : (r u a : ℕ) → home_form p l r u a → FormAt p l all_live (home_form p l r) r u a
  home_forms r u a at =
      InWords (subst (λ c. WordsAt p l (home_form p l r) r u c) (sym at.1.0)
      (home_words p l (home_form p l r) r u (λ v block. (at.0, (refl, OfBlock v block)))
      (λ v reached. (at.0, (refl, ReachedBy v reached)))
      (λ i single reads follows falls. (at.0, (refl, Behind u at.1.1 single falls))) (at.0 u at.1.1)))

  home_arrives : Arrivals p l all_live (home_form p l) (home_form p l) any_held (within 0)
  home_arrives =
      record {
        stays = λ r a s m read at held going reads paired on. tt;
        arrives = λ r s m t sound held alike made comes.
            ([], (t, (refl, (omega arith, record { region = r; sound = sound; held = tt; alike = alike; made = made; at = comes }))));
      }

  -- whether or not the origins are set anew
  pub home_runs_keep : (reset : Origins → Origins) → ((s : SourceState) (m : Origins) (t : State) → AtAny p l all_live (home_form p l) any_held s m t → AtAny p l all_live (home_form p l) any_held s (reset m) t) → (n : ℕ) (s s' : SourceState) (m : Origins) (t : State) → AtAny p l all_live (home_form p l) any_held s m t → PairedBy reset p n s m s' → Keeps n (n * 2) s' t
  unfolding home_forms
  home_runs_keep reset resets n s s' m t at steps =
      keeps_of_told n 2 s s' t
      (runs_at_any p l all_live (home_form p l) (home_form p l) any_held (few_each 2) (within 0) (few_each 2) reset
      (all_live_rules p) home_forms (λ s m t read at reads paired. home_words_few p s.pc t) home_arrives (few_joined p 2 0) resets
      (pace_of 2) (counts_fold p 2) n s s' m t at steps)

pub runs_at_home : RunsAtHome
runs_at_home p l r n s s' m t sound units unit alike made at steps =
    home_runs_keep p l (λ m. m) (λ s m t at. at) n s s' m t
    (record { region = r; sound = sound; held = tt; alike = alike; made = made; at = (units, (at, unit)) })
    (kept_origins p n s s' m steps)
