-- Where the words of a unit lead, by the form at which it runs.
use Rattle.std.proofs.Common.{◌≡◌, ◌∙◌, ◌⊎◌, inl, inr, ℕ, suc, ◌+◌, ◌*◌, ◌<◌, Bool, true, false, List, length, map, Option, Some, refl, sym, ap, subst, arith}
use Rattle.std.specs.Prelude.{Contains}
use Rattle.std.specs.Bool.{MatchBool}
use Rattle.std.proofs.lemmas.List.{length-map}
use Rattle.std.proofs.lemmas.Bool.{cases_lt, both_ways}
use Rattle.rv32im.specs.Acts.{Registers}
use Rattle.rv32im.specs.declared.instructions.BranchKind.{BranchKind}
use Rattle.rv32im.specs.declared.instructions.Instr.{Instr}
use Rattle.rv32im.proofs.Meaning.{same_instruction}
use Rattle.board_config.specs.declared.board.Board.{Board}
use Rattle.flat_machine.specs.declared.events.FlatEvent.{FlatEvent}
use Rattle.flat_machine.specs.Lines.{words_from}
use Rattle.flat_machine.specs.Runs.{Does}
use Rattle.flat_machine.specs.Runs as flat
use Rattle.flat_machine.specs.State.{State}
use Rattle.flat_machine.proofs.Runs.{one_run, steps_of_events}
use Rattle.object_graph.specs.declared.parts.Graph.{Graph}
use Rattle.code_blocks.specs.Numbers.{end_at}
use Rattle.code_blocks.specs.declared.parts.Code.{Code}
use Rattle.code_blocks.specs.declared.ends.End.{End}
use Rattle.block_splitter.specs.declared.unit_kind.UnitKind.{UnitKind}
use Rattle.block_splitter.specs.declared.unit_kind.UnitKind.TheVariants.{Plain, Upper, Branch, Jump, Call, Tail, Indirect, Linking, Halt}
use Rattle.block_splitter.specs.Forms.{body_at, is_last, is_site, kind_of, holds_block, copy_size}
use Rattle.block_splitter.specs.Copies.{Copy, is_inside, kind_in, words_before, place_of, address_of, LeadsInside}
use Rattle.result_laws.specs.Copied.{Lands, unit_words}
use Rattle.result_laws.specs.Kinds.{takes}
use Rattle.result_laws.specs.CopyLaws.{falls_to, place_behind, is_branch_kind}
use Rattle.result_laws.proofs.Setting.{setting}
use Rattle.result_laws.proofs.Falls.{leads_inside}
use Rattle.result_laws.proofs.Places.{units_follow}
use Rattle.patch_code.specs.Serving.{ServingStub}
use Rattle.patch_code.specs.Served.{body_at as stub_body}
use Rattle.object_machine.specs.declared.events.Outcome.{Outcome}
use Rattle.object_machine.specs.declared.events.Outcome.TheVariants.{GoesOn}
use Rattle.object_machine.specs.State.{SourceState}
use Rattle.object_machine.specs.Step.{Reads, next_state}
use Rattle.object_machine.specs.Paired.{at_start, origins_after, is_paired_step}
use Rattle.simulation.specs.Relation.{After, Tells, LeadsTold}
use Rattle.simulation.specs.Forms.{IsAt, IsRowKind}
use Rattle.simulation.proofs.AnyForms.{form_leads}
use Rattle.simulation.proofs.OneUnit.{Before}
use Rattle.simulation.proofs.Jumps.{run_leads}
use Rattle.simulation.proofs.Steps.{is_at}
use Rattle.simulation.proofs.Unnamed.{paired}
use Rattle.energy_model.specs.Energy.{may_stay}
use Rattle.result_laws.specs.HomeLaws.{program_in}
use Rattle.result_laws.specs.LiveUnits.{StandsThere}
use Rattle.result_laws.proofs.CodeUnits.{units_stand}
use Rattle.result_laws.specs.Entries.{RunsIn}
use Rattle.result_laws.specs.ChosenPlacement.{ChosenPlacement, piece_of, copy_in}
use Rattle.result_laws.specs.PlacedView.{IsUncopied, Serves}
use Rattle.result_laws.specs.PlacedLaws.{IsPlacedResult}
use Rattle.result_laws.specs.PlacedForms.{StandsAs, AtHome, InCopy, InStub, MayRun}
use Rattle.result_laws.specs.Walks.{address_in, unit_fetched, UnitRuns}
use Rattle.result_laws.proofs.Blocks.{unit_low}
use Rattle.result_laws.proofs.CopyForms as copies
use Rattle.result_laws.proofs.CopyWays as ways
use Rattle.result_laws.proofs.Fetches.{RunsOver, FormOver}
use Rattle.result_laws.proofs.HomeForms.{home_form}
use Rattle.result_laws.proofs.StubForms as stubs
use Rattle.result_laws.proofs.UnitEvents as events
use Rattle.result_laws.proofs.UnitEvents.{one_reading, fetched_addresses}
use Rattle.paid_energy.specs.Leading.{unit_count, falls_behind, LeadsFromCopy, ToNext, Stays, FallsOut, Leaves, LeadsFromStub, LeadsOn, UnitsLead}
use Rattle.paid_energy.proofs.Branches.{before}
use Rattle.paid_energy.proofs.KindEnds.{EndsAs, ends_as, is_last_place, body_ends, falls_stays, falls_untaken}

-- what is told of a unit behind which the program goes on
going_told : (o : Outcome) (tells : List FlatEvent → Type 0) (es : List FlatEvent) → o ≡ GoesOn → Tells o tells es → tells es
going_told GoesOn tells es is told = told
going_told o tells es is told = subst (λ x. Tells x tells es) is told

-- ---- from a copy

module _ (file out : List ℕ) (board : Board) (g : Graph) (c : Code) (pl : ChosenPlacement) (result : IsPlacedResult file out board g c pl) where
  open (setting file out board g c pl result) use {v, p, l, live, plan}

  module _ (r u n b k : ℕ) (inside : n < length pl.pieces) (held : holds_block b (piece_of pl n).range ≡ true) (stands : StandsThere c u b k) (may : RunsIn pl.regions b r) where
    abbrev cp : Copy
    cp = copy_in c g pl n

    abbrev a : ℕ
    a = address_of cp (place_of cp b k)

    abbrev kind_there : UnitKind
    kind_there = kind_in cp b k

    abbrev e : End
    e = end_at c b

    abbrev arrive : Bool → ℕ → ℕ → Type 0
    arrive taken x to = LeadsFromCopy cp c b k taken x to

    abbrev Falls : Type 0
    Falls = suc k ≡ unit_count c b → falls_to e ≡ Some (u + 4)

    ends_there : (kind : UnitKind) → kind_there ≡ kind → EndsAs kind (is_last (body_at c.blocks.items b) k) e
    ends_there kind same =
        subst (λ (x : UnitKind). EndsAs x (is_last (body_at c.blocks.items b) k) e) same
        (subst (λ (x : End). EndsAs kind_there (is_last (body_at c.blocks.items b) k) x) (body_ends c.blocks.items b)
        (ends_as (is_site g) (body_at c.blocks.items b) k))

    last_place : is_last (body_at c.blocks.items b) k ≡ true → suc k ≡ unit_count c b
    last_place is = is_last_place k (unit_count c b) is

    -- to a block of the piece
    inner : (taken : Bool) (x to : ℕ) → suc k ≡ unit_count c b → may_stay e ≡ true → (falls_behind taken e ≡ true → falls_to e ≡ Some x) → LeadsInside cp x to → arrive taken x to
    inner taken x to last stays falls leads =
        let first : words_before cp leads.block ≡ place_of cp leads.block 0 = omega arith in
        subst (λ (q : ℕ). arrive taken x q) (sym (leads.there ∙ ap (address_of cp) first))
        (Stays leads.block last stays falls leads.inside leads.begins)

    -- or home
    lands : (taken : Bool) (x to : ℕ) → suc k ≡ unit_count c b → may_stay e ≡ true → falls_behind taken e ≡ false → Lands cp x to → arrive taken x to
    lands taken x to last stays jumps there = by_inside (is_inside cp x) refl there
      where
        by_inside : (test : Bool) → is_inside cp x ≡ test → MatchBool test (LeadsInside cp x to) (to ≡ x) → arrive taken x to
        by_inside true is leads = inner taken x to last stays (λ falls. absurd (both_ways (falls_behind taken e) jumps falls)) leads
        by_inside false is home = subst (λ (q : ℕ). arrive taken x q) (sym home) (Leaves last jumps (inr is))

    falls_out : suc k ≡ unit_count c b → falls_to e ≡ Some (u + 4) → arrive false (u + 4) (address_of cp (place_behind cp b))
    falls_out last falls = by_inside (is_inside cp (u + 4)) refl
      where
        by_inside : (test : Bool) → is_inside cp (u + 4) ≡ test → arrive false (u + 4) (address_of cp (place_behind cp b))
        by_inside true is =
            inner false (u + 4) (address_of cp (place_behind cp b)) last (falls_stays e (u + 4) falls) (λ on. falls)
            (leads_inside v cp (piece_of pl n).words (piece_of pl n).starts (ways.is_copy file out board g c pl result n inside) b (u + 4) held falls is)
        by_inside false is = FallsOut last (falls_untaken e (u + 4) falls) falls is

    -- to what follows
    onward : Falls → arrive false (u + 4) (a + 4 * copy_size (is_inside cp) kind_there)
    onward falls =
        let counts = ways.unit_count file out board g c pl result n inside b in
        let is = stands.is in
        subst (λ (q : ℕ). arrive false (u + 4) q) (units_follow cp b k)
        (elim (cases_lt (suc k) (unit_count c b)) [
          | inl more ↦ ToNext more
          | inr all ↦
              let last : suc k ≡ unit_count c b = omega (arith, all, is, counts) in
              subst (λ (q : ℕ). arrive false (u + 4) (address_of cp (place_of cp b q))) (sym last) (falls_out last (falls last))
        ])

    onward_as : (kind : UnitKind) → kind_there ≡ kind → Falls → arrive false (u + 4) (a + 4 * copy_size (is_inside cp) kind)
    onward_as kind same falls =
        subst (λ (x : UnitKind). arrive false (u + 4) (a + 4 * copy_size (is_inside cp) x)) same (onward falls)

    -- what a form asks
    abbrev Asks : Bool → UnitKind → Type 0
    Asks taken kind = copies.MayArrive file out board g c pl result r u n b k inside held stands may (arrive taken) kind

    abbrev home : (x : ℕ) → is_last (body_at c.blocks.items b) k ≡ true → may_stay e ≡ false → falls_behind false e ≡ false → arrive false x x
    home x last stays jumps = Leaves (last_place last) jumps (inl stays)

    by_kind : (kind : UnitKind) → is_branch_kind kind ≡ false → kind_there ≡ kind → Asks false kind
    by_kind (Branch kind rs1 rs2 target) none same = absurd (cc (none))
    by_kind (Jump target) none same =
        let is = ends_there (Jump target) same in
        λ to leads there. lands false target to (last_place is.0) (ap may_stay is.1) (ap (falls_behind false) is.1) there
    by_kind (Call target back link) none same =
        let is = ends_there (Call target back link) same in
        λ leads. home target is.0 (ap may_stay is.1) (ap (falls_behind false) is.1)
    by_kind (Tail target link) none same =
        let is = ends_there (Tail target link) same in λ leads. home target is.0 (ap may_stay is.1) (ap (falls_behind false) is.1)
    by_kind Indirect none same =
        let is = ends_there Indirect same in λ x reached. home x is.0 (ap may_stay is.1) (ap (falls_behind false) is.1)
    by_kind (Linking back link base imm) none same =
        let is = ends_there (Linking back link base imm) same in
        λ x reached. home x is.0 (ap may_stay is.1) (ap (falls_behind false) is.1)
    by_kind Plain none same = onward_as Plain same
    by_kind (Upper rd value) none same = onward_as (Upper rd value) same
    by_kind Halt none same = onward_as Halt same

    untaken : (kind : UnitKind) (regs : Registers) → is_branch_kind kind ≡ false → takes kind regs ≡ false
    untaken (Branch kind rs1 rs2 target) regs none = absurd (cc (none))
    untaken kind regs none = refl

    pub straight_asks : (regs : Registers) (kind : UnitKind) → is_branch_kind kind ≡ false → kind_there ≡ kind → Asks (takes kind_there regs) kind_there
    straight_asks regs kind none same =
        subst (λ (x : UnitKind). Asks (takes x regs) x) (sym same)
        (subst (λ (taken : Bool). Asks taken kind) (sym (untaken kind regs none)) (by_kind kind none same))

    branch_ways : (taken : Bool) (kind : BranchKind) (rs1 rs2 target : ℕ) → kind_there ≡ Branch kind rs1 rs2 target → copies.Either file out board g c pl result r u n b k inside held stands may (arrive taken) taken (Branch kind rs1 rs2 target) target
    branch_ways true kind rs1 rs2 target same =
        let is = ends_there (Branch kind rs1 rs2 target) same in
        λ to leads there. lands true target to (last_place is.0) (ap may_stay is.1.1) (ap (falls_behind true) is.1.1) there
    branch_ways false kind rs1 rs2 target same = onward_as (Branch kind rs1 rs2 target) same

    pub branch_asks : (regs : Registers) (kind : BranchKind) (rs1 rs2 target : ℕ) → kind_there ≡ Branch kind rs1 rs2 target → copies.Either file out board g c pl result r u n b k inside held stands may (arrive (takes kind_there regs)) (takes (Branch kind rs1 rs2 target) regs) (Branch kind rs1 rs2 target) target
    branch_asks regs kind rs1 rs2 target same =
        subst (λ (x : UnitKind). copies.Either file out board g c pl result r u n b k inside held stands may (arrive (takes x regs)) (takes (Branch kind rs1 rs2 target) regs) (Branch kind rs1 rs2 target) target) (sym same)
        (branch_ways (takes (Branch kind rs1 rs2 target) regs) kind rs1 rs2 target same)

  -- ---- any form

  module _ (s : SourceState) (read : Option Instr) (t t' : State) (es : List FlatEvent) (unit : UnitRuns file out board g c pl plan s read t es) (reads : Reads (p.word s.pc) read) (does : Does es t t') (on : (next_state p s read).outcome ≡ GoesOn) where
    abbrev r : ℕ
    r = unit.match.region

    abbrev next : SourceState
    next = next_state p s read

    abbrev regs : Registers
    regs = t.hart.regs

    abbrev Leads : (u a : ℕ) → StandsAs c g pl plan u a → ℕ → ℕ → Type 0
    Leads u a stands x to = LeadsOn c g pl plan regs x to u a stands

    abbrev fetched : (u a : ℕ) → StandsAs c g pl plan u a → State → List ℕ
    fetched u a stands x = unit_fetched p c g pl plan x.hart.regs u a stands

    -- a form that leads so, or a row that does from this state
    record OneRun (u a : ℕ) (stands : StandsAs c g pl plan u a) : Type 0 where
      instr : Instr
      single : p.is_pair u ≡ false
      means : Reads (p.word u) (Some instr)
      row : IsRowKind instr (p.site u)
      below : u + 4 < 4294967296
      run : RunsOver p live (Leads u a stands) u (fetched u a stands t) t instr

    abbrev Form : (u a : ℕ) → StandsAs c g pl plan u a → Type 0
    Form u a stands = FormOver p l live (Leads u a stands) r u a (fetched u a stands) ⊎ OneRun u a stands

    runs : (u b k : ℕ) → StandsThere c u b k → MayRun c pl.regions r u → RunsIn pl.regions b r
    runs u b k there may =
        let same = ((units_stand file board g c result.accepted result.code).one u may.block may.unit b k may.there there).0 in
        subst (λ (d : ℕ). RunsIn pl.regions d r) same may.runs

    module _ (u n b k : ℕ) (inside : n < length pl.pieces) (held : holds_block b (piece_of pl n).range ≡ true) (there : StandsThere c u b k) (may : RunsIn pl.regions b r) where
      abbrev copy : Copy
      copy = copy_in c g pl n

      abbrev at : ℕ
      at = address_of copy (place_of copy b k)

      abbrev kind_of_it : UnitKind
      kind_of_it = kind_in copy b k

      abbrev stands_so : StandsAs c g pl plan u at
      stands_so = InCopy u n b k inside held there

      straight : (kind : UnitKind) → is_branch_kind kind ≡ false → kind_of_it ≡ kind → Form u at stands_so
      straight kind none same =
          inl
          (copies.copy_form file out board g c pl result r u n b k inside held there may (Leads u at stands_so)
          (straight_asks r u n b k inside held there may regs kind none same))

      branch : (kind : BranchKind) (rs1 rs2 target : ℕ) → kind_of_it ≡ Branch kind rs1 rs2 target → IsAt l r at t → Form u at stands_so
      branch kind rs1 rs2 target same here =
          let run =
          copies.branch_from file out board g c pl result r u n b k inside held there may (Leads u at stands_so) kind rs1 rs2 target same t here
          (branch_asks r u n b k inside held there may regs kind rs1 rs2 target same) in
          inr (record {
            instr = run.instr;
            single = run.single;
            means = run.means;
            row = run.row;
            below = unit_low file out board g c pl result u b k there;
            run = subst (λ (x : UnitKind). RunsOver p live (Leads u at stands_so) u (words_from at (unit_words (is_inside copy) (takes x regs) x)) t run.instr) (sym same) run.run;
          })

      by_kind_there : (kind : UnitKind) → kind_of_it ≡ kind → IsAt l r at t → Form u at stands_so
      by_kind_there (Branch kind rs1 rs2 target) same here = branch kind rs1 rs2 target same here
      by_kind_there kind same here = straight kind refl same

    module _ (u b : ℕ) (stub : ServingStub) (there : StandsThere c u b 0) (listed : Contains plan.stubs stub) (serves : Serves c g pl (stub_body plan stub) b stub) (uncopied : IsUncopied pl b) (may : RunsIn pl.regions b r) where
      abbrev body : ℕ
      body = stub_body plan stub

      abbrev Asked : UnitKind → UnitKind → Type 0
      Asked own kind =
          stubs.MayArrive file out board g c pl result r u b stub there listed serves uncopied may (λ x to. LeadsFromStub body u own x to) kind

      stub_asks : (kind : UnitKind) → Asked kind kind
      stub_asks Plain = λ i single means follows falls. (refl, refl)
      stub_asks kind = (λ x leads. refl, λ i single means follows falls. refl)

      stub_place : Form u body (InStub u b stub there listed serves uncopied)
      stub_place =
          inl
          (stubs.stub_form file out board g c pl result r u b stub there listed serves uncopied may
          (Leads u body (InStub u b stub there listed serves uncopied)) (stub_asks (kind_of (is_site g) (body_at c.blocks.items b) 0)))

    by_place : (u a : ℕ) (x : StandsAs c g pl plan u a) → MayRun c pl.regions r u → IsAt l r a t → Form u a x
    by_place _ _ (AtHome u b k there bare) may here =
        inl
        (home_form file out board g c pl result r u b k there bare (runs u b k there may) (λ x to. to ≡ x) (λ x leads. refl)
        (λ i single means follows falls. refl))
    by_place _ _ (InCopy u n b k inside held there) may here =
        by_kind_there u n b k inside held there (runs u b k there may) (kind_in (copy_in c g pl n) b k) refl here
    by_place _ _ (InStub u b stub there listed serves uncopied) may here =
        stub_place u b stub there listed serves uncopied (runs u b 0 there may)

    -- ---- behind it

    abbrev stands : StandsAs c g pl plan s.pc t.hart.pc
    stands = unit.match.at.stands

    abbrev LeadsSo : ℕ → ℕ → Type 0
    LeadsSo = Leads s.pc t.hart.pc stands

    finish : (told : List FlatEvent → Type 0) → ((fs : List FlatEvent) → told fs → map address_in fs ≡ fetched s.pc t.hart.pc stands t) → LeadsTold told p l live LeadsSo r next (origins_after p s at_start read) t → LeadsSo next.pc t'.hart.pc
    finish told counts leads =
        let again : List FlatEvent = leads.0 in
        let addresses = counts again (going_told next.outcome told again on leads.1.1.1.0) in
        let arrives : LeadsSo next.pc leads.1.0.hart.pc =
        (subst (λ o. After o p l live LeadsSo r next (origins_after p s at_start read) leads.1.0) on leads.1.1.1.1).1 in
        let count : length again ≡ length es =
        sym (length-map again address_in) ∙ (ap (λ (xs : List ℕ). length xs) (addresses ∙ sym unit.addresses) ∙ length-map es address_in) in
        let same : leads.1.0 ≡ t' =
        one_run same_instruction (length es) t leads.1.0 t'
        (subst (λ (n : ℕ). flat.Steps n t leads.1.0) count (steps_of_events again t leads.1.0 leads.1.1.0)) (steps_of_events es t t' does) in
        subst (λ (x : State). LeadsSo next.pc x.hart.pc) same arrives

    abbrev first : Before p l live r s at_start t
    first = before file out board g c pl result s t unit.match

    is_paired : is_paired_step p s at_start read ≡ true
    is_paired = paired (program_in file board g) s read

    by_form : FormOver p l live LeadsSo r s.pc t.hart.pc (fetched s.pc t.hart.pc stands) → LeadsSo next.pc t'.hart.pc
    by_form over =
        finish (events.Tells p l live LeadsSo r s at_start t read first reads is_paired (fetched s.pc t.hart.pc stands)) (λ fs told. told.0)
        (form_leads p l live LeadsSo (events.Tells p l live LeadsSo r s at_start t read first reads is_paired (fetched s.pc t.hart.pc stands)) r s at_start t first over.0
        (events.form_told p l live LeadsSo r s at_start t read first reads is_paired (fetched s.pc t.hart.pc stands) over.0 over.1) read reads is_paired)

    by_run : OneRun s.pc t.hart.pc stands → LeadsSo next.pc t'.hart.pc
    by_run one =
        let i : Instr = one.instr in
        let same : read ≡ Some i = one_reading (p.word s.pc) i read one.means reads in
        let row = one.run.0 in
        finish (λ fs. map address_in fs ≡ fetched s.pc t.hart.pc stands t) (λ fs told. told)
        (subst (λ (x : Option Instr). LeadsTold (λ fs. map address_in fs ≡ fetched s.pc t.hart.pc stands t) p l live LeadsSo r (next_state p s x) (origins_after p s at_start x) t) (sym same)
        (run_leads p l live LeadsSo (λ fs. map address_in fs ≡ fetched s.pc t.hart.pc stands t) r s at_start t first one.single one.below i one.row one.means row
        (fetched_addresses t.hart.mem row.fetched ∙ one.run.1)))

    pub leads_on : LeadsSo next.pc t'.hart.pc
    leads_on =
        elim (by_place s.pc t.hart.pc stands unit.match.at.may (is_at p l live r s.pc s at_start t unit.match.alike)) [
          | inl form ↦ by_form form
          | inr run ↦ by_run run
        ]

pub units_lead : UnitsLead
units_lead file out board g c pl result s read t t' es unit reads does on =
    leads_on file out board g c pl result s read t t' es unit reads does on
