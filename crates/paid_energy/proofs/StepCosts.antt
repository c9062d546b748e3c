-- What a unit of a walk costs: its words as they are counted by its form, and its access by its object.
use Rattle.std.proofs.Common.{◌≡◌, ◌∙◌, ℕ, ◌+◌, ◌*◌, ◌==◌, Bool, true, false, ◌&&◌, if◌then◌else◌, List, Option, Some, None, refl, sym, ap, subst, arith, ℤ}
use Rattle.rv32im.specs.Acts.{Registers, load_width, store_width}
use Rattle.rv32im.specs.Table.{Means}
use Rattle.rv32im.specs.declared.instructions.Instr.{Instr}
use Rattle.rv32im.specs.declared.instructions.Instr.TheVariants.{Load, Store, Ecall}
use Rattle.loaded_file.specs.Code.{image_word}
use Rattle.board_config.specs.declared.board.Board.{Board}
use Rattle.board_config.specs.declared.board.Prices.{Prices}
use Rattle.flat_machine.specs.State.{State}
use Rattle.flat_machine.specs.declared.events.FlatEvent.{FlatEvent}
use Rattle.object_graph.specs.declared.parts.Graph.{Graph}
use Rattle.code_blocks.specs.Leaders.{is_call_pair}
use Rattle.code_blocks.specs.declared.parts.Code.{Code}
use Rattle.block_splitter.specs.declared.block_range.BlockRange.{BlockRange}
use Rattle.block_splitter.specs.declared.unit_kind.UnitKind.{UnitKind}
use Rattle.block_splitter.specs.Forms.{Body, body_at, unit_in, is_site, kind_of, displaced_words}
use Rattle.cell_values.specs.declared.values.Val.{Val}
use Rattle.cell_values.specs.declared.values.Val.TheVariants.{Int, Addr}
use Rattle.result_laws.specs.Kinds.{takes}
use Rattle.patch_code.specs.Told.{accesses}
use Rattle.placement_programme.specs.declared.variables.VarName.{VarName}
use Rattle.object_machine.specs.declared.events.Access.{Access}
use Rattle.object_machine.specs.declared.events.Outcome.{Outcome}
use Rattle.object_machine.specs.declared.events.Outcome.TheVariants.{GoesOn, Exited, Trapped, AddressFault}
use Rattle.object_machine.specs.Places.{Where, located, address_of}
use Rattle.object_machine.specs.Program.{Program, Target}
use Rattle.object_machine.specs.State.{SourceState, value}
use Rattle.object_machine.specs.Step.{Reads, next_state, access_in, access_by, access_of}
use Rattle.profile_runner.specs.Transition.{Transition, is_going, transition_at}
use Rattle.profile_runner.specs.Transitions.{transition_of}
use Rattle.energy_model.specs.Energy.{is_checked, block_in, block_at, unit_number, region_with, words_in_piece, words_at_home, form_words, fetch_price, words_price, is_fast_access, data_price, access_price}
use Rattle.energy_model.specs.Energy as energy
use Rattle.simulation.specs.Unnamed.{unnamed}
use Rattle.simulation.proofs.Unnamed.{next_same}
use Rattle.result_laws.specs.LiveUnits.{StandsThere}
use Rattle.result_laws.specs.ChosenPlacement.{ChosenPlacement, places_in, piece_of}
use Rattle.result_laws.specs.PlacedLaws.{IsPlacedResult}
use Rattle.result_laws.specs.PlacedForms.{StandsAs, AtHome, InCopy, InStub}
use Rattle.result_laws.specs.Walks.{unit_fetched, IsNoFault, UnitRuns}
use Rattle.paid_energy.specs.Costs.{run_cost}
use Rattle.paid_energy.proofs.CostLemmas.{fetches_cost, accesses_cost, run_cost_parts}
use Rattle.paid_energy.specs.Leading.{GoesAs}
use Rattle.paid_energy.specs.CountedWalks.{StandsAsCounted, IsCountedUnit, leaving_of}
use Rattle.paid_energy.proofs.AccessCosts.{is_quick, unit_cost}
use Rattle.paid_energy.proofs.CodeFacts.{pair_reads, UnitFacts, unit_facts}
use Rattle.paid_energy.proofs.Exits.{exits_call}
use Rattle.paid_energy.proofs.HomePrices.{IsSlow, code_slow, fixed_slow}
use Rattle.paid_energy.proofs.HomePrices as home
use Rattle.paid_energy.proofs.PlacedPrices.{object_fast}
use Rattle.paid_energy.proofs.PlacedUnits.{copy_row, copy_last, stub_row, stub_last}
use Rattle.result_laws.proofs.Setting.{setting}
use Rattle.paid_energy.proofs.PlacedScene.{scene_in}

-- ---- accesses don't look at names of sites

module _ (p : Program) where
  located_same : (width : ℕ) (x : Val) → located (unnamed p) width x ≡ located p width x
  located_same width (Int a) = refl
  located_same width (Addr o d) = refl
  located_same width x = refl

  address_same : (site : Option Target) (x : Val) (imm : ℤ) → address_of (unnamed p) site x imm ≡ address_of p site x imm
  address_same None x imm = refl
  address_same (Some t) x imm = refl

  place_same : (width : ℕ) (site : Option Target) (x : Val) (imm : ℤ) → located (unnamed p) width (address_of (unnamed p) site x imm) ≡ located p width (address_of p site x imm)
  place_same width site x imm =
      located_same width (address_of (unnamed p) site x imm) ∙ ap (located p width) (address_same site x imm)

  by_same : (s : SourceState) (read : Option Instr) → access_by (unnamed p) s read ≡ access_by p s read
  by_same s (Some (Load kind rd rs1 imm)) =
      ap (λ (x : Where). access_in x false) (place_same (load_width kind) (p.site s.pc) (value s.regs rs1) imm)
  by_same s (Some (Store kind rs1 rs2 imm)) =
      ap (λ (x : Where). access_in x true) (place_same (store_width kind) (p.site s.pc) (value s.regs rs1) imm)
  by_same s read = refl

  access_same : (s : SourceState) (o : Outcome) (read : Option Instr) → access_of (unnamed p) s o read ≡ access_of p s o read
  access_same s GoesOn read = ap (λ (a : Option Access). if p.is_pair s.pc then None else a) (by_same s read)
  access_same s (Exited code) read = refl
  access_same s (Trapped pc) read = refl
  access_same s (AddressFault pc why) read = refl

quick_is : (names : List VarName) (r : ℕ) (access : Option Access) → is_quick (λ (o : ℕ). energy.is_fast names o r) access ≡ is_fast_access names r access
quick_is names r None = refl
quick_is names r (Some a) = refl

module _ (file out : List ℕ) (board : Board) (g : Graph) (c : Code) (pl : ChosenPlacement) (result : IsPlacedResult file out board g c pl) where
  open (setting file out board g c pl result) use {v, p as q, named as p, plan}
  open (scene_in board g c pl) use {w, taken}

  abbrev prices : Prices
  prices = board.prices

  abbrev body : ℕ → Body
  body b = body_at c.blocks.items b

  abbrev kind : ℕ → ℕ → UnitKind
  kind b k = kind_of (is_site g) (body b) k

  -- ---- words, by the form of a unit

  -- those that are counted where the program goes on
  abbrev form_on : Option BlockRange → Bool → ℕ → ℕ → ℕ → ℕ
  form_on (Some piece) checked b k next = words_in_piece w piece (body b) k next
  form_on None checked b k next = words_at_home w checked (body b) k

  abbrev words_of : (u a : ℕ) → StandsAs c g pl plan u a → Registers → ℕ
  words_of u a stands regs = fetches_cost board (unit_fetched q c g pl plan regs u a stands)

  abbrev behind_of : (u a : ℕ) → StandsAs c g pl plan u a → Registers → ℕ
  behind_of u a stands regs = fetches_cost board (leaving_of c g pl plan regs u a stands)

  row_on : (u a : ℕ) (stands : StandsAs c g pl plan u a) (piece : Option BlockRange) (checked : Bool) (b k : ℕ) → StandsThere c u b k → StandsAsCounted c g pl plan piece checked b k u a stands → (regs : Registers) (next : ℕ) → GoesAs (kind b k) regs (u + 4) next → words_of u a stands regs + behind_of u a stands regs ≡ form_on piece checked b k next * fetch_price piece prices
  row_on _ _ (AtHome u d j stands bare) piece checked b k there form regs next goes =
      let facts = unit_facts file board g c result.accepted result.code u b k there in
      let words : fetches_cost board (unit_fetched q c g pl plan regs u u (AtHome u d j stands bare)) ≡ home.unit_words file board g result.accepted u * prices.main_fetch =
      home.words_cost file board g result.accepted u facts.is_code in
      let counted : words_at_home w checked (body b) k ≡ home.unit_words file board g result.accepted u =
      ap (λ (t : Bool). if t then displaced_words (kind b k) else (unit_in (body b) k).words) form.1.0 ∙ facts.words in
      let paid = ap (λ (n : ℕ). n * prices.main_fetch) counted in
      subst (λ (x : Option BlockRange). fetches_cost board (unit_fetched q c g pl plan regs u u (AtHome u d j stands bare)) + 0 ≡ form_on x checked b k next * fetch_price x prices) (sym form.0)
      (omega (arith, words, paid))
  row_on _ _ (InCopy u n d j inside held stands) piece checked b k there form regs next goes =
      let here : GoesAs (kind d j) regs (u + 4) next =
      subst (λ (e : ℕ). GoesAs (kind e j) regs (u + 4) next) (sym form.1.0)
      (subst (λ (m : ℕ). GoesAs (kind b m) regs (u + 4) next) (sym form.1.1) goes) in
      let row = copy_row file out board g c pl result n inside d held u j stands regs next here in
      subst
      (λ (x : Option BlockRange). fetches_cost board (unit_fetched q c g pl plan regs u _ (InCopy u n d j inside held stands)) + fetches_cost board (leaving_of c g pl plan regs u _ (InCopy u n d j inside held stands)) ≡ form_on x checked b k next * fetch_price x prices)
      (sym form.0)
      (row
      ∙ (ap (λ (e : ℕ). words_in_piece w (piece_of pl n).range (body e) j next * prices.spm_fetch) form.1.0
      ∙ ap (λ (m : ℕ). words_in_piece w (piece_of pl n).range (body b) m next * prices.spm_fetch) form.1.1))
  row_on _ _ (InStub u d stub stands listed serves uncopied) piece checked b k there form regs next goes =
      let row = stub_row file out board g c pl result u d stub stands listed serves uncopied (takes (kind d 0) regs) in
      let counted : displaced_words (kind d 0) ≡ words_at_home w checked (body b) k =
      ap (λ (e : ℕ). displaced_words (kind e 0)) form.1.1.0
      ∙ (ap (λ (m : ℕ). if true && (m == 0) then displaced_words (kind b m) else (unit_in (body b) m).words) (sym form.1.1.1)
      ∙ ap (λ (t : Bool). if t && (k == 0) then displaced_words (kind b k) else (unit_in (body b) k).words) (sym form.1.0)) in
      subst
      (λ (x : Option BlockRange). fetches_cost board (unit_fetched q c g pl plan regs u _ (InStub u d stub stands listed serves uncopied)) + fetches_cost board (leaving_of c g pl plan regs u _ (InStub u d stub stands listed serves uncopied)) ≡ form_on x checked b k next * fetch_price x prices)
      (sym form.0) (row ∙ ap (λ (n : ℕ). n * prices.main_fetch) counted)

  -- a unit at which the program exits
  row_last : (u a : ℕ) (stands : StandsAs c g pl plan u a) (piece : Option BlockRange) (checked : Bool) (b k : ℕ) → StandsThere c u b k → StandsAsCounted c g pl plan piece checked b k u a stands → (regs : Registers) → is_call_pair v u ≡ false → Means (image_word v u) Ecall → words_of u a stands regs ≡ fetch_price piece prices
  row_last _ _ (AtHome u d j stands bare) piece checked b k there form regs single call =
      let facts = unit_facts file board g c result.accepted result.code u b k there in
      let words : fetches_cost board (unit_fetched q c g pl plan regs u u (AtHome u d j stands bare)) ≡ home.unit_words file board g result.accepted u * prices.main_fetch =
      home.words_cost file board g result.accepted u facts.is_code in
      let one : home.unit_words file board g result.accepted u ≡ 1 = ap (λ (t : Bool). if t then 2 else 1) single in
      let paid = ap (λ (n : ℕ). n * prices.main_fetch) one in
      subst (λ (x : Option BlockRange). fetches_cost board (unit_fetched q c g pl plan regs u u (AtHome u d j stands bare)) ≡ fetch_price x prices) (sym form.0)
      (omega (arith, words, paid))
  row_last _ _ (InCopy u n d j inside held stands) piece checked b k there form regs single call =
      subst (λ (x : Option BlockRange). fetches_cost board (unit_fetched q c g pl plan regs u _ (InCopy u n d j inside held stands)) ≡ fetch_price x prices) (sym form.0)
      (copy_last file out board g c pl result n inside d held u j stands regs single call)
  row_last _ _ (InStub u d stub stands listed serves uncopied) piece checked b k there form regs single call =
      subst (λ (x : Option BlockRange). fetches_cost board (unit_fetched q c g pl plan regs u _ (InStub u d stub stands listed serves uncopied)) ≡ fetch_price x prices) (sym form.0)
      (stub_last file out board g c pl result u d stub stands listed serves uncopied (takes (kind d 0) regs) single call)

  -- as they are counted by a transition
  form_going : (piece : Option BlockRange) (checked : Bool) (b k : ℕ) (m : Transition) → m.goes_on ≡ true → form_words piece w checked (body b) k m ≡ form_on piece checked b k m.next
  form_going (Some piece) checked b k m is = ap (λ (t : Bool). if t then words_in_piece w piece (body b) k m.next else 1) is
  form_going None checked b k m is = ap (λ (t : Bool). if t then words_at_home w checked (body b) k else 1) is

  form_ended : (piece : Option BlockRange) (checked : Bool) (b k : ℕ) (m : Transition) → m.goes_on ≡ false → form_words piece w checked (body b) k m ≡ 1
  form_ended (Some piece) checked b k m is = ap (λ (t : Bool). if t then words_in_piece w piece (body b) k m.next else 1) is
  form_ended None checked b k m is = ap (λ (t : Bool). if t then words_at_home w checked (body b) k else 1) is

  -- ---- a unit of a walk

  module _ (ts : List Transition) (i : ℕ) (s : SourceState) (read : Option Instr) (t : State) (es : List FlatEvent) (unit : UnitRuns file out board g c pl plan s read t es) (counted : IsCountedUnit board c g pl plan ts i unit.match.region s.pc t.hart.pc unit.match.at.stands) (reads : Reads (q.word s.pc) read) (is : transition_at ts i ≡ transition_of p s (next_state p s read) read) (fine : IsNoFault (next_state q s read).outcome) where
    abbrev o : Outcome
    o = (next_state q s read).outcome

    abbrev b : ℕ
    b = block_at w ts i

    abbrev k : ℕ
    k = unit_number w ts i

    abbrev r : ℕ
    r = unit.match.region

    abbrev piece : Option BlockRange
    piece = energy.piece_of taken.names b

    abbrev quick : ℕ → Bool
    quick x = energy.is_fast taken.names x r

    going : s.outcome ≡ GoesOn
    going = unit.match.alike.source_going

    same : next_state p s read ≡ next_state q s read
    same = next_same p s read

    here : transition_at ts i ≡ transition_of p s (next_state q s read) read
    here = is ∙ ap (λ (n : SourceState). transition_of p s n read) same

    facts : UnitFacts file board g c result.accepted result.code s.pc b k
    facts = unit_facts file board g c result.accepted result.code s.pc b k counted.there

    -- its accesses
    data_cost : accesses_cost board (accesses es) ≡ access_price w taken ts i
    data_cost =
        ap (accesses_cost board) (unit.accesses fine)
        ∙ (unit_cost board q (places_in board g pl r) quick (fixed_slow file board g result.accepted) (object_fast file out board g c pl result r) s going read
        (pair_reads file board g c result.accepted result.code s.pc read reads) fine
        ∙ (ap (λ (a : Option Access). if is_going o then data_price prices (is_quick quick a) read else 0) (access_same p s o read)
        ∙ (ap (λ (f : Bool). if is_going o then data_price prices f read else 0) (quick_is taken.names r (access_of p s o read))
        ∙ (ap (λ (m : Transition). if m.goes_on then data_price prices (is_fast_access taken.names r m.access) read else 0) (sym here)
        ∙ (ap (λ (n : ℕ). if (transition_at ts i).goes_on then data_price prices (is_fast_access taken.names n (transition_at ts i).access) read else 0) counted.region
        ∙ ap (λ (x : Option Instr). if (transition_at ts i).goes_on then data_price prices (is_fast_access taken.names (region_with w ts i) (transition_at ts i).access) x else 0)
        (sym (facts.reads read reads)))))))

    -- its words and those behind it, where the program goes on
    pub going_cost : o ≡ GoesOn → GoesAs (kind b k) t.hart.regs (s.pc + 4) (next_state q s read).pc → run_cost board es + fetches_cost board (leaving_of c g pl plan t.hart.regs s.pc t.hart.pc unit.match.at.stands) ≡ words_price w taken ts i + access_price w taken ts i
    going_cost on goes =
        let goes_on : (transition_at ts i).goes_on ≡ true = ap (λ (m : Transition). m.goes_on) here ∙ ap is_going on in
        let next : (next_state q s read).pc ≡ (transition_at ts i).next = sym (ap (λ (m : Transition). m.next) here) in
        let row =
        row_on s.pc t.hart.pc unit.match.at.stands piece (is_checked w taken b) b k counted.there counted.form t.hart.regs (transition_at ts i).next
        (subst (λ (n : ℕ). GoesAs (kind b k) t.hart.regs (s.pc + 4) n) next goes) in
        let words : words_price w taken ts i ≡ form_on piece (is_checked w taken b) b k (transition_at ts i).next * fetch_price piece prices =
        ap (λ (n : ℕ). n * fetch_price piece prices) (form_going piece (is_checked w taken b) b k (transition_at ts i) goes_on) in
        let parts = run_cost_parts board es in
        let fetched = ap (fetches_cost board) unit.addresses in
        let told = data_cost in
        omega (arith, row, words, parts, fetched, told)

    -- at its end
    pub ending_cost : (code : ℕ) → o ≡ Exited code → run_cost board es ≡ words_price w taken ts i + access_price w taken ts i
    ending_cost code ended =
        let call = exits_call q s going code read ended in
        let goes_on : (transition_at ts i).goes_on ≡ false = ap (λ (m : Transition). m.goes_on) here ∙ ap is_going ended in
        let means : Means (image_word v s.pc) Ecall = subst (λ (x : Option Instr). Reads (image_word v s.pc) x) call.1 reads in
        let row =
        row_last s.pc t.hart.pc unit.match.at.stands piece (is_checked w taken b) b k counted.there counted.form t.hart.regs call.0 means in
        let words : words_price w taken ts i ≡ 1 * fetch_price piece prices =
        ap (λ (n : ℕ). n * fetch_price piece prices) (form_ended piece (is_checked w taken b) b k (transition_at ts i) goes_on) in
        let parts = run_cost_parts board es in
        let fetched = ap (fetches_cost board) unit.addresses in
        let told = data_cost in
        omega (arith, row, words, parts, fetched, told)
