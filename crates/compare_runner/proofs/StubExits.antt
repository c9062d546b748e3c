-- Behind a displaced unit control is at the home of the next unit, or at the jump home, which stands in the patch range.
use Rattle.std.proofs.Common.{◌≡◌, ◌∙◌, ◌⊎◌, inl, inr, ℕ, true, List, length, Option, refl, sym, ap, subst}
use Rattle.std.specs.Prelude.{Contains}
use Rattle.std.proofs.lemmas.List.{length-map}
use Rattle.rv32im.specs.declared.instructions.Instr.{Instr}
use Rattle.rv32im.proofs.Meaning.{same_instruction}
use Rattle.board_config.specs.declared.board.Board.{Board}
use Rattle.flat_machine.specs.Runs.{Does}
use Rattle.flat_machine.specs.Runs as flat
use Rattle.flat_machine.specs.State.{State}
use Rattle.flat_machine.specs.declared.events.FlatEvent.{FlatEvent}
use Rattle.flat_machine.proofs.Runs.{one_run, steps_of_events}
use Rattle.object_graph.specs.Sites.{in_range}
use Rattle.object_graph.specs.declared.parts.Graph.{Graph}
use Rattle.code_blocks.specs.declared.parts.Code.{Code}
use Rattle.block_splitter.specs.declared.unit_kind.UnitKind.{UnitKind}
use Rattle.block_splitter.specs.declared.unit_kind.UnitKind.TheVariants.{Plain}
use Rattle.block_splitter.specs.Forms.{is_site, kind_of, body_at as body_of}
use Rattle.object_machine.specs.declared.events.Outcome.{Outcome}
use Rattle.object_machine.specs.declared.events.Outcome.TheVariants.{GoesOn}
use Rattle.object_machine.specs.State.{SourceState}
use Rattle.object_machine.specs.Step.{Reads, next_state}
use Rattle.object_machine.specs.Paired.{at_start, origins_after, is_paired_step}
use Rattle.patch_code.specs.Serving.{ServingStub}
use Rattle.patch_code.specs.Served.{body_at}
use Rattle.simulation.specs.Relation.{After, Tells, LeadsTold}
use Rattle.simulation.proofs.AnyForms.{form_leads}
use Rattle.simulation.proofs.OneUnit.{Before}
use Rattle.simulation.proofs.Resets.{all_made}
use Rattle.simulation.proofs.Unnamed.{paired}
use Rattle.result_laws.specs.HomeLaws.{program_in}
use Rattle.result_laws.specs.LiveUnits.{StandsThere}
use Rattle.result_laws.proofs.Setting.{setting}
use Rattle.result_laws.proofs.CodeUnits.{units_stand}
use Rattle.result_laws.proofs.LiveUnits.{liveness_keeps}
use Rattle.result_laws.specs.Entries.{RunsIn}
use Rattle.result_laws.specs.ChosenPlacement.{ChosenPlacement}
use Rattle.result_laws.specs.PlacedView.{IsUncopied, Serves}
use Rattle.result_laws.specs.PlacedLaws.{IsPlacedResult}
use Rattle.result_laws.specs.PlacedForms.{StandsAs, AtHome, InCopy, InStub, MayRun}
use Rattle.result_laws.specs.Walks.{address_in, unit_fetched, UnitRuns}
use Rattle.result_laws.proofs.Apart.{jump_in_patch}
use Rattle.result_laws.proofs.PlacedChosen.{sound}
use Rattle.result_laws.proofs.Fetches.{FormOver}
use Rattle.result_laws.proofs.StubForms as stubs
use Rattle.result_laws.proofs.UnitEvents as events

-- what is told of a unit behind which the program goes on
going_told : (o : Outcome) (tells : List FlatEvent → Type 0) (es : List FlatEvent) → o ≡ GoesOn → Tells o tells es → tells es
going_told GoesOn tells es is told = told
going_told o tells es is told = subst (λ x. Tells x tells es) is told

module _ (file out : List ℕ) (board : Board) (g : Graph) (c : Code) (pl : ChosenPlacement) (result : IsPlacedResult file out board g c pl) where
  open (setting file out board g c pl result) use {p, l, live, plan}

  -- where a displaced unit leads, if the unit at `home` is next: there, or into the patch range
  abbrev pub IsLeft : (home to : ℕ) → Type 0
  IsLeft home to = (to ≡ home) ⊎ (in_range board.patch to ≡ true)

  -- behind a displaced unit it is so. Of other forms nothing is said
  abbrev pub LeavesStub : (home to u a : ℕ) → StandsAs c g pl plan u a → Type 0
  LeavesStub home to _ _ (AtHome u b k there bare) = Prim.Unit {0}
  LeavesStub home to _ _ (InCopy u n b k inside held there) = Prim.Unit {0}
  LeavesStub home to _ _ (InStub u b stub there listed serves uncopied) = IsLeft home to

  abbrev IsDisplaced : (u a : ℕ) → StandsAs c g pl plan u a → Type 0
  IsDisplaced _ _ (AtHome u b k there bare) = ⊥
  IsDisplaced _ _ (InCopy u n b k inside held there) = ⊥
  IsDisplaced _ _ (InStub u b stub there listed serves uncopied) = Prim.Unit {0}

  -- ---- the form of a displaced unit leads so

  module _ (r u b : ℕ) (stub : ServingStub) (there : StandsThere c u b 0) (listed : Contains plan.stubs stub) (serves : Serves c g pl (body_at plan stub) b stub) (uncopied : IsUncopied pl b) (runs : RunsIn pl.regions b r) where
    abbrev kind_there : UnitKind
    kind_there = kind_of (is_site g) (body_of c.blocks.items b) 0

    abbrev Asked : UnitKind → Type 0
    Asked kind = stubs.MayArrive file out board g c pl result r u b stub there listed serves uncopied runs IsLeft kind

    asked : (kind : UnitKind) → kind_there ≡ kind → Asked kind
    asked Plain plain =
        λ i single means follows falls. inr (jump_in_patch file out board g c pl result u b stub there listed serves uncopied plain)
    asked kind is = (λ x leads. inl refl, λ i single means follows falls. inl refl)

  over : (r u a : ℕ) (stands : StandsAs c g pl plan u a) → MayRun c pl.regions r u → IsDisplaced u a stands → FormOver p l live IsLeft r u a (λ t. unit_fetched p c g pl plan t.hart.regs u a stands)
  over r _ _ (AtHome u b k there bare) may is = absurd is
  over r _ _ (InCopy u n b k inside held there) may is = absurd is
  over r _ _ (InStub u b stub there listed serves uncopied) may is =
      let own = ((units_stand file board g c result.accepted result.code).one u may.block may.unit b 0 may.there there).0 in
      let runs : RunsIn pl.regions b r = subst (λ (d : ℕ). RunsIn pl.regions d r) own may.runs in
      stubs.stub_form file out board g c pl result r u b stub there listed serves uncopied runs IsLeft
      (asked r u b stub there listed serves uncopied runs (kind_of (is_site g) (body_of c.blocks.items b) 0) refl)

  -- ---- so control is there behind its words

  module _ (s : SourceState) (read : Option Instr) (t t' : State) (es : List FlatEvent) (unit : UnitRuns file out board g c pl plan s read t es) (reads : Reads (p.word s.pc) read) (does : Does es t t') (on : (next_state p s read).outcome ≡ GoesOn) where
    abbrev r : ℕ
    r = unit.match.region

    abbrev next : SourceState
    next = next_state p s read

    abbrev fetched : State → List ℕ
    fetched x = unit_fetched p c g pl plan x.hart.regs s.pc t.hart.pc unit.match.at.stands

    before : Before p l live r s at_start t
    before =
        record {
          sound = sound file out board g c pl result r;
          rules = liveness_keeps file board g c result.accepted result.code;
          alike = unit.match.alike;
          made = all_made p s;
        }

    is_paired : is_paired_step p s at_start read ≡ true
    is_paired = paired (program_in file board g) s read

    abbrev Told : List FlatEvent → Type 0
    Told = events.Tells p l live IsLeft r s at_start t read before reads is_paired fetched

    -- the words that run are the unit's, so they lead where it is
    same_end : LeadsTold Told p l live IsLeft r next (origins_after p s at_start read) t → IsLeft next.pc t'.hart.pc
    same_end leads =
        let again : List FlatEvent = leads.0 in
        let told = going_told next.outcome Told again on leads.1.1.1.0 in
        let arrives : IsLeft next.pc leads.1.0.hart.pc =
        (subst (λ o. After o p l live IsLeft r next (origins_after p s at_start read) leads.1.0) on leads.1.1.1.1).1 in
        let count : length again ≡ length es =
        sym (length-map again address_in) ∙ (ap (λ (xs : List ℕ). length xs) (told.0 ∙ sym unit.addresses) ∙ length-map es address_in) in
        let same : leads.1.0 ≡ t' =
        one_run same_instruction (length es) t leads.1.0 t'
        (subst (λ (n : ℕ). flat.Steps n t leads.1.0) count (steps_of_events again t leads.1.0 leads.1.1.0)) (steps_of_events es t t' does) in
        subst (λ (x : State). IsLeft next.pc x.hart.pc) same arrives

    leaves : IsDisplaced s.pc t.hart.pc unit.match.at.stands → IsLeft next.pc t'.hart.pc
    leaves is =
        let form : FormOver p l live IsLeft r s.pc t.hart.pc fetched = over r s.pc t.hart.pc unit.match.at.stands unit.match.at.may is in
        same_end
        (form_leads p l live IsLeft Told r s at_start t before form.0
        (events.form_told p l live IsLeft r s at_start t read before reads is_paired fetched form.0 form.1) read reads is_paired)

  by_form : (home to u a : ℕ) (stands : StandsAs c g pl plan u a) → (IsDisplaced u a stands → IsLeft home to) → LeavesStub home to u a stands
  by_form home to _ _ (AtHome u b k there bare) displaced = tt
  by_form home to _ _ (InCopy u n b k inside held there) displaced = tt
  by_form home to _ _ (InStub u b stub there listed serves uncopied) displaced = displaced tt

  pub stubs_are_left : (s : SourceState) (read : Option Instr) (t t' : State) (es : List FlatEvent) (unit : UnitRuns file out board g c pl plan s read t es) → Reads (p.word s.pc) read → Does es t t' → (next_state p s read).outcome ≡ GoesOn → LeavesStub (next_state p s read).pc t'.hart.pc s.pc t.hart.pc unit.match.at.stands
  stubs_are_left s read t t' es unit reads does on =
      by_form (next_state p s read).pc t'.hart.pc s.pc t.hart.pc unit.match.at.stands (leaves s read t t' es unit reads does on)
