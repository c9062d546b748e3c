-- Where nothing is moved, a file is traced beside each paired run of its program: a step.
use Rattle.std.proofs.Common.{◌≡◌, ◌∙◌, inl, ℕ, suc, ◌+◌, ◌<◌, ◌≤◌, Bool, true, false, if◌then◌else◌, List, [], ◌∷◌, ◌++◌, length, map, slice_index_or, Option, refl, sym, ap, subst, arith, append-nil}
use Rattle.std.proofs.lemmas.List.{length-map, length-append}
use Rattle.rv32im.specs.declared.instructions.Instr.{Instr}
use Rattle.rv32im.proofs.Meaning.{same_instruction}
use Rattle.elf_reader.specs.File.{view_in}
use Rattle.board_config.specs.declared.board.Board.{Board}
use Rattle.flat_machine.specs.State.{State}
use Rattle.flat_machine.specs.Runs.{Does}
use Rattle.flat_machine.specs.declared.events.FlatEvent.{FlatEvent}
use Rattle.object_graph.specs.declared.parts.Graph.{Graph}
use Rattle.code_blocks.specs.Leaders.{is_call_pair}
use Rattle.code_blocks.specs.Blocks.{IsCode}
use Rattle.code_blocks.specs.Numbers.{starts_of}
use Rattle.code_blocks.specs.declared.parts.Code.{Code}
use Rattle.cell_values.specs.Stands.{Places}
use Rattle.object_machine.specs.declared.events.Outcome.{Outcome}
use Rattle.object_machine.specs.declared.events.Outcome.TheVariants.{GoesOn, Exited, Trapped, AddressFault}
use Rattle.object_machine.specs.Program.{Program}
use Rattle.object_machine.specs.State.{SourceState}
use Rattle.object_machine.specs.Step.{Reads, next_state, access_of}
use Rattle.object_machine.specs.Paired.{Origins, origins_after, is_paired_step}
use Rattle.simulation.specs.Setups.{Setup}
use Rattle.simulation.specs.Made.{AreMade}
use Rattle.simulation.specs.Relation.{Alike, After, Tells}
use Rattle.simulation.specs.Rules.{all_live}
use Rattle.simulation.specs.Laws.{EndsAlike, at_home, IsUnit, OfBlock, ReachedBy, Behind}
use Rattle.simulation.specs.Forms.{WordsAt, InWords}
use Rattle.simulation.proofs.AnyForms.{form_leads, home_words}
use Rattle.simulation.proofs.MadeSteps.{next_made}
use Rattle.simulation.proofs.OneUnit.{Before}
use Rattle.simulation.proofs.Unnamed.{next_same}
use Rattle.simulation.proofs.AtHome.{all_live_rules}
use Rattle.result_laws.specs.HomeLaws.{IsAccepted, program_in, unnamed_in, setup_in}
use Rattle.result_laws.specs.LiveUnits.{StandsThere, ComesNext}
use Rattle.result_laws.specs.ResultLaws.{most_steps}
use Rattle.result_laws.proofs.HomeSound.{sound_home}
use Rattle.result_laws.proofs.HomeUnits.{units_are_home}
use Rattle.result_laws.proofs.LiveUnits.{steps_lead_on}
use Rattle.result_laws.specs.Walks.{address_in, IsNoFault}
use Rattle.result_laws.proofs.Fetches.{WordsFetch}
use Rattle.result_laws.proofs.UnitEvents as events
use Rattle.relink_core.specs.declared.unit_forms.UnitAt.{UnitAt}
use Rattle.relink_core.specs.UnitMaps.{IsAtHome, AreUnitsAt}
use Rattle.compare_runner.specs.declared.marks.TracedStep.{TracedStep}
use Rattle.compare_runner.specs.Comings.{IsAtForm, first_access}
use Rattle.compare_runner.specs.TraceLaws.{IsAtPlace, homes_of}
use Rattle.compare_runner.specs.Tracing.{TracedProgram, region_in, IsTracedStep}
use Rattle.compare_runner.proofs.PrefixLemmas.{AreOffForms}
use Rattle.compare_runner.proofs.MadeLemmas.{told_of, goes_traced, ends_traced}
use Rattle.compare_runner.proofs.EndingSteps.{IsOver, ends_alone}
use Rattle.compare_runner.proofs.OutcomeLemmas.{over_ended, over_fine, ends_flat}
use Rattle.compare_runner.proofs.UnitAccess.{IsTold, unit_told}

-- ---- the words of a unit at home

abbrev pub home_fetched : Program → ℕ → List ℕ
home_fetched p u = if p.is_pair u then u ∷ (u + 4) ∷ [] else u ∷ []

fetched_by : (pair : Bool) (u : ℕ) → (1 ≤ length (if pair then u ∷ (u + 4) ∷ [] else u ∷ [])) × (length (if pair then u ∷ (u + 4) ∷ [] else u ∷ []) ≤ 2)
fetched_by true u = (omega arith, omega arith)
fetched_by false u = (omega arith, omega arith)

-- behind the first is the second of two
second_by : (pair : Bool) (u : ℕ) (es fs rest : List FlatEvent) (e : FlatEvent) → map address_in es ≡ (if pair then u ∷ (u + 4) ∷ [] else u ∷ []) → es ≡ fs ++ e ∷ rest → 0 < length fs → (pair ≡ true) × (e.at ≡ u + 4)
second_by pair u es [] rest e are whole some = absurd (omega (arith, some))
second_by true u es (f ∷ []) rest e are whole some =
    (refl, ap (λ (xs : List FlatEvent). slice_index_or (map address_in xs) 1 0) (sym whole) ∙ ap (λ (xs : List ℕ). slice_index_or xs 1 0) are)
second_by false u es (f ∷ []) rest e are whole some =
    let count = ap (λ (xs : List ℕ). length xs) are in
    let same = length-map es address_in in
    let parts : length es ≡ suc (suc (length rest)) = ap (λ (xs : List FlatEvent). length xs) whole in
    absurd (omega (arith, count, same, parts))
second_by pair u es (f ∷ h ∷ fs) rest e are whole some =
    let most = (fetched_by pair u).1 in
    let count = ap (λ (xs : List ℕ). length xs) are in
    let same = length-map es address_in in
    let parts = ap (λ (xs : List FlatEvent). length xs) whole in
    let both = length-append fs (e ∷ rest) in
    absurd (omega (arith, most, count, same, parts, both))

-- `apart` says that no unit begins with the second word of another
module _ (file : List ℕ) (board : Board) (g : Graph) (c : Code) (accepted : IsAccepted file board g) (code : IsCode (view_in file) c) (regions : List ℕ) (units : List UnitAt) (forms : AreUnitsAt (IsAtHome c) units) (apart : (u e j : ℕ) → is_call_pair (view_in file) u ≡ true → StandsThere c (u + 4) e j → ⊥) where
  abbrev p : Program
  p = program_in file board g

  abbrev l : Setup
  l = setup_in file board g

  abbrev pub w : TracedProgram
  w = record { program = p; starts = starts_of c; regions = regions; units = units; board = board }

  abbrev homes : Places
  homes = homes_of g 0

  abbrev arrive : ℕ → ℕ → Type 0
  arrive u a = at_home u a × IsUnit p u

  -- both machines are alike, at the home of a unit of the code
  pub record AreHome (s : SourceState) (m : Origins) (t : State) : Type 0 where
    pub alike : Alike p l all_live 0 s.pc s m t
    pub made : AreMade p s m
    pub at : arrive s.pc t.hart.pc
    pub block : ℕ
    pub unit : ℕ
    pub there : StandsThere c s.pc block unit

  -- ---- forms

  pub home_at_form : (from to u b k : ℕ) (es : List FlatEvent) (t : State) → StandsThere c u b k → t.hart.pc ≡ u → IsAtForm units board from to u es t
  home_at_form from to u b k es t there at =
      record {
        form = record { at = u; region = 0; home = u };
        listed = (forms.each (record { at = u; region = 0; home = u })).1 (record { block = b; unit = k; there = there; at = refl; region = refl });
        home_is = refl;
        at = sym at;
        stands = inl refl;
      }

  home_off : (from to u v : ℕ) (es : List FlatEvent) → map address_in es ≡ home_fetched p u → AreOffForms units board from to v es
  home_off from to u v es are fs rest e x whole some listed home_is at stands =
      let second = second_by (is_call_pair (view_in file) u) u es fs rest e are whole some in
      let home : IsAtHome c x = (forms.each x).0 listed in
      apart u home.block home.unit second.0 (subst (λ (y : ℕ). StandsThere c y home.block home.unit) (sym home.at ∙ (at ∙ second.1)) home.there)

  -- ---- a unit

  module _ (region : ℕ) (s : SourceState) (m : Origins) (t : State) (read : Option Instr) (here : AreHome s m t) (reads : Reads (p.word s.pc) read) (paired : is_paired_step p s m read ≡ true) where
    abbrev next : SourceState
    next = next_state p s read

    before : Before p l all_live 0 s m t
    before = record { sound = sound_home file board g accepted; rules = all_live_rules p; alike = here.alike; made = here.made }

    abbrev fetched : State → List ℕ
    fetched x = home_fetched p s.pc

    words : WordsAt p l arrive 0 s.pc t.hart.pc
    words =
        subst (λ (a : ℕ). WordsAt p l arrive 0 s.pc a) (sym here.at.0)
        (home_words p l arrive 0 s.pc (λ v block. (refl, OfBlock v block)) (λ v reached. (refl, ReachedBy v reached))
        (λ i single means follows falls. (refl, Behind s.pc here.at.1 single falls)) (units_are_home file board g accepted s.pc here.at.1))

    fetch : WordsFetch p s.pc t.hart.pc fetched
    fetch = record { one = λ single x. one single; two = λ pair x. two pair }
      where
        one : p.is_pair s.pc ≡ false → home_fetched p s.pc ≡ t.hart.pc ∷ []
        one single = rw (single) (ap (λ (a : ℕ). a ∷ []) (sym here.at.0))

        two : p.is_pair s.pc ≡ true → home_fetched p s.pc ≡ t.hart.pc ∷ (t.hart.pc + 4) ∷ []
        two pair = rw (pair) (ap (λ (a : ℕ). a ∷ (a + 4) ∷ []) (sym here.at.0))

    abbrev Told : List FlatEvent → Type 0
    Told es = events.Tells p l all_live arrive 0 s m t read before reads paired fetched es

    -- a step that is traced, at its place, and the states behind it where the program goes on
    pub record IsHomeStep : Type 0 where
      pub after : State
      pub step : TracedStep
      pub traced : IsTracedStep w region s read t step after
      pub at_place : IsAtPlace (homes_of g step.region) step.access
      pub again : next.outcome ≡ GoesOn → AreHome next (origins_after p s m read) after

    count : (es : List FlatEvent) → Told es → (1 ≤ length es) × (length es ≤ 2)
    count es told =
        let same = length-map es address_in in
        let are = ap (λ (xs : List ℕ). length xs) told.0 in
        let few = fetched_by (is_call_pair (view_in file) s.pc) s.pc in
        let some = few.0 in
        let most = few.1 in
        (omega (arith, same, are, some), omega (arith, same, are, most))

    one : (es : List FlatEvent) → Told es → p.is_pair s.pc ≡ false → length es ≡ 1
    one es told single =
        sym (length-map es address_in)
        ∙ (ap (λ (xs : List ℕ). length xs) told.0 ∙ ap (λ (t : Bool). length (if t then s.pc ∷ (s.pc + 4) ∷ [] else s.pc ∷ [])) single)

    told_at_home : (es : List FlatEvent) → Told es → IsNoFault next.outcome → IsTold homes (access_of p s next.outcome read) (first_access es)
    told_at_home es told fine =
        subst (λ (xs : List FlatEvent). IsTold homes (access_of p s next.outcome read) (first_access xs)) (append-nil es)
        (unit_told p s homes next.outcome read es [] (λ single alone. one es told single) (told.1 fine))

    -- the next unit is one of the code
    comes_next : next.outcome ≡ GoesOn → ComesNext c here.block here.unit next.pc
    comes_next going =
        let same : next ≡ next_state (unnamed_in file board g) s read = next_same p s read in
        subst (λ (x : SourceState). ComesNext c here.block here.unit x.pc) (sym same)
        (steps_lead_on file board g c s read here.block here.unit accepted code here.there reads
        (subst (λ (x : SourceState). x.outcome ≡ GoesOn) same going))

    goes_on : (es : List FlatEvent) (t' : State) → Does es t t' → next.outcome ≡ GoesOn → Told es → After GoesOn p l all_live arrive 0 next (origins_after p s m read) t' → IsHomeStep
    goes_on es t' does going told after =
        let few = count es told in
        let some = few.0 in
        let most = few.1 in
        let short : length es ≤ most_steps board = omega (arith, most) in
        let access = told_at_home es told (subst IsNoFault (sym going) tt) in
        let follows = comes_next going in
        record {
          after = t';
          step = told_of w region s read t t' es short access.0;
          traced =
              goes_traced w region s read t t' es short access.0 same_instruction going does (omega (arith, some))
              (home_at_form region (region_in w region next) next.pc follows.block follows.unit es t' follows.there after.1.0)
              (home_off region (region_in w region next) s.pc next.pc es told.0);
          at_place = access.1;
          again = λ on.
              record {
                alike = after.0;
                made = next_made p s m read here.made reads on;
                at = after.1;
                block = follows.block;
                unit = follows.unit;
                there = follows.there;
              };
        }

    ends_there : (es : List FlatEvent) (t' : State) → Does es t t' → IsOver next.outcome → Told es → EndsAlike next.outcome next t' → IsHomeStep
    ends_there es t' does over told alike =
        let single = (ends_alone p s here.alike.source_going read over).0 in
        let alone : length es ≡ 1 = one es told single in
        let short : length es ≤ most_steps board = omega (arith, alone) in
        let access = told_at_home es told (over_fine next.outcome over) in
        record {
          after = t';
          step = told_of w region s read t t' es short access.0;
          traced = ends_traced w region s read t t' es short access.0 (over_ended next.outcome over) alone does (ends_flat next.outcome next t' over alike);
          at_place = access.1;
          again = λ on. absurd (subst IsOver on over);
        }

    by_outcome : (o : Outcome) (es : List FlatEvent) (t' : State) → next.outcome ≡ o → IsNoFault o → Does es t t' → Tells o Told es → After o p l all_live arrive 0 next (origins_after p s m read) t' → IsHomeStep
    by_outcome GoesOn es t' is fine does told after = goes_on es t' does is told after
    by_outcome (Exited code) es t' is fine does told after =
        ends_there es t' does (subst IsOver (sym is) tt) told (subst (λ (o : Outcome). EndsAlike o next t') (sym is) after)
    by_outcome (Trapped pc) es t' is fine does told after =
        ends_there es t' does (subst IsOver (sym is) tt) told (subst (λ (o : Outcome). EndsAlike o next t') (sym is) after)
    by_outcome (AddressFault pc why) es t' is fine does told after = absurd fine

    pub home_step : IsNoFault next.outcome → IsHomeStep
    home_step fine =
        let leads =
        form_leads p l all_live arrive Told 0 s m t before (InWords words)
        (events.form_told p l all_live arrive 0 s m t read before reads paired fetched (InWords words) fetch) read reads paired in
        by_outcome next.outcome leads.0 leads.1.0 refl fine leads.1.1.0 leads.1.1.1.0 leads.1.1.1.1
