-- No word of a step of a result is fetched at a form of the next unit before control comes there, and none of the start stub and
-- of the way to the entry.
use Rattle.std.proofs.Common.{◌≡◌, ◌∙◌, ◌⊎◌, inl, inr, ℕ, ◌+◌, ◌*◌, ◌<◌, Bool, true, false, if◌then◌else◌, List, [], ◌∷◌, ◌++◌, length, map, drop, Option, Some, refl, sym, ap, subst, arith}
use Rattle.std.specs.Prelude.{All, Contains}
use Rattle.std.proofs.lemmas.Bool.{both_ways}
use Rattle.std.proofs.lemmas.List.Elements.{All-nil, All-cons, All-weaker}
use Rattle.rv32im.specs.Acts.{Registers}
use Rattle.rv32im.specs.declared.instructions.Instr.{Instr}
use Rattle.board_config.specs.declared.board.Board.{Board}
use Rattle.flat_machine.specs.Lines.{words_from}
use Rattle.flat_machine.specs.Runs.{Does}
use Rattle.flat_machine.specs.State.{State}
use Rattle.flat_machine.specs.declared.events.FlatEvent.{FlatEvent}
use Rattle.object_graph.specs.Sites.{in_range}
use Rattle.object_graph.specs.declared.parts.Graph.{Graph}
use Rattle.code_blocks.specs.Leaders.{is_call_pair}
use Rattle.code_blocks.specs.Numbers.{start_at, end_at}
use Rattle.code_blocks.specs.declared.parts.Code.{Code}
use Rattle.block_splitter.specs.Forms.{holds_block, is_site, kind_of, body_at as body_of}
use Rattle.block_splitter.specs.Copies.{Copy, is_inside, kind_in, place_of, address_of}
use Rattle.result_laws.specs.Copied.{unit_words}
use Rattle.result_laws.specs.Kinds.{takes}
use Rattle.result_laws.specs.CopyLaws.{falls_to, place_behind}
use Rattle.patch_code.specs.Told.{IsFrom}
use Rattle.object_machine.specs.State.{SourceState}
use Rattle.object_machine.specs.Step.{Reads, next_state}
use Rattle.patch_code.specs.Start.{start_at as stub_start, start_bytes}
use Rattle.patch_code.specs.Served.{body_at}
use Rattle.result_laws.specs.HomeLaws.{source_start}
use Rattle.result_laws.specs.LiveUnits.{StandsThere}
use Rattle.result_laws.proofs.Setting.{setting}
use Rattle.result_laws.proofs.CodeUnits.{first, units_stand}
use Rattle.result_laws.proofs.Loaded.{refuted}
use Rattle.result_laws.specs.Entries.{RunsIn}
use Rattle.result_laws.specs.ChosenPlacement.{ChosenPlacement, piece_of, copy_in}
use Rattle.result_laws.specs.PlacedLaws.{IsPlacedResult}
use Rattle.result_laws.specs.PlacedForms.{StandsAs, AtHome, InCopy, InStub, MayRun, ArrivesAt, AtForm, AtItsHome, BehindCopy, BehindStub}
use Rattle.result_laws.specs.Walks.{address_in, unit_fetched, UnitRuns, leaving_fetched, Enters, BlockEntered, ArrivalRuns}
use Rattle.relink_core.specs.UnitMaps.{IsUnitAt, AreUnitsAt}
use Rattle.relink_core.specs.declared.unit_forms.UnitAt.{UnitAt}
use Rattle.compare_runner.proofs.CopyForms.{copy_free, fall_free}
use Rattle.compare_runner.proofs.CopyPlaces.{words_stand}
use Rattle.compare_runner.proofs.HomeForms.{home_free}
use Rattle.compare_runner.proofs.OffForms.{StartIsOff, StepsAreOff, AreWordsOff, PlacedWordsAreOff}
use Rattle.compare_runner.proofs.OffParts.{IsOutside, IsNoForm, MayCount, PartIsOff, IsWordAt, word_there, each_address, each_behind, each_from, parts_off, never_off, behind_off, outside_off}
use Rattle.compare_runner.proofs.PatchForms.{own_free, jump_free, start_free, entered_free}
use Rattle.compare_runner.proofs.Ranges.{IsOff, home_off, pair_off, unit_in_spm, behind_in_spm, ranges_apart}
use Rattle.compare_runner.proofs.StubExits.{LeavesStub, stubs_are_left}

module _ (file out : List ℕ) (board : Board) (g : Graph) (c : Code) (pl : ChosenPlacement) (result : IsPlacedResult file out board g c pl) (units : List UnitAt) (are : AreUnitsAt (IsUnitAt board c g pl result.view.plan) units) where
  open (setting file out board g c pl result) use {v, p, plan}

  abbrev copy : ℕ → Copy
  copy n = copy_in c g pl n

  -- ---- what is no form at all

  abbrev Off : ℕ → ℕ → Type 0
  Off home a = IsOff board c g pl plan home a

  none_listed : (home : ℕ) (es : List FlatEvent) → All (λ (e : FlatEvent). Off home e.at) es → All (IsNoForm units home) es
  none_listed home es all =
      All-weaker (λ (e : FlatEvent). Off home e.at) (IsNoForm units home) (λ e off x listed own at. off x ((are.each x).0 listed) own at) es all

  -- ---- the patch range

  off_patch : (a : ℕ) → in_range board.spm a ≡ true → in_range board.patch a ≡ false
  off_patch a spm = refuted (in_range board.patch a) (λ patch. ranges_apart file out board g c pl result a spm patch)

  abbrev IsAway : ℕ → Type 0
  IsAway a = in_range board.patch a ≡ false

  -- ---- a unit

  runs : (r u b k : ℕ) → StandsThere c u b k → MayRun c pl.regions r u → RunsIn pl.regions b r
  runs r u b k there may =
      let own = ((units_stand file board g c result.accepted result.code).one u may.block may.unit b k may.there there).0 in
      subst (λ (d : ℕ). RunsIn pl.regions d r) own may.runs

  -- at home
  home_behind : (home u : ℕ) (pair : Bool) → is_call_pair v u ≡ pair → All (Off home) (drop 1 (if pair then u ∷ (u + 4) ∷ [] else u ∷ []))
  home_behind home u true is =
      All-cons (Off home) (u + 4) [] (λ x form own at. home_free file out board g c pl result u is x form at) (All-nil (Off home))
  home_behind home u false is = All-nil (Off home)

  home_away : (u b k : ℕ) → StandsThere c u b k → (pair : Bool) → is_call_pair v u ≡ pair → All IsAway (if pair then u ∷ (u + 4) ∷ [] else u ∷ [])
  home_away u b k there true is =
      All-cons IsAway u ((u + 4) ∷ []) (home_off file out board g c pl result u b k there).patch
      (All-cons IsAway (u + 4) [] (pair_off file out board g c pl result u is).patch (All-nil IsAway))
  home_away u b k there false is = All-cons IsAway u [] (home_off file out board g c pl result u b k there).patch (All-nil IsAway)

  -- in a copy
  module _ (taken : Bool) (r u n b k : ℕ) (inside : n < length pl.pieces) (held : holds_block b (piece_of pl n).range ≡ true) (there : StandsThere c u b k) (es : List FlatEvent) (same : map address_in es ≡ words_from (address_of (copy n) (place_of (copy n) b k)) (unit_words (is_inside (copy n)) taken (kind_in (copy n) b k))) where
    abbrev count : ℕ
    count = unit_words (is_inside (copy n)) taken (kind_in (copy n) b k)

    abbrev first_word : ℕ
    first_word = address_of (copy n) (place_of (copy n) b k)

    copy_away : All (IsOutside board) es
    copy_away =
        let words = words_stand (is_inside (copy n)) taken (kind_in (copy n) b k) in
        each_address IsAway es (words_from first_word count) same
        (each_from IsAway first_word count
        (λ i small. off_patch (first_word + 4 * i) (unit_in_spm file out board g c pl result n b inside held u k i there (omega (arith, small, words)))))

    copy_off : (to home : ℕ) → RunsIn pl.regions b r → PartIsOff units board r to home 1 [] es
    copy_off to home run =
        outside_off units board r to home 1 [] es (All-nil (IsOutside board)) copy_away
        (λ fs rest e x whole some listed at stands.
        let word : IsWordAt first_word count (length fs) e =
        word_there fs e rest first_word count (ap (λ (xs : List FlatEvent). map address_in xs) (sym whole) ∙ same) in
        copy_free file out board g c pl result r u n b k taken inside held there run (length fs) (omega (arith, some)) word.below x ((are.each x).0 listed)
        stands (at ∙ word.at))

  unit_off : (regs : Registers) (r to home u a : ℕ) (stands : StandsAs c g pl plan u a) → MayRun c pl.regions r u → (es : List FlatEvent) → map address_in es ≡ unit_fetched p c g pl plan regs u a stands → PartIsOff units board r to home 1 [] es
  unit_off regs r to home _ _ (AtHome u b k there bare) may es same =
      behind_off units board r to home 1 (omega arith) es
      (none_listed home (drop 1 es)
      (each_behind (Off home) es (if is_call_pair v u then u ∷ (u + 4) ∷ [] else u ∷ []) same (home_behind home u (is_call_pair v u) refl)))
  unit_off regs r to home _ _ (InCopy u n b k inside held there) may es same =
      copy_off (takes (kind_in (copy n) b k) regs) r u n b k inside held there es same to home (runs r u b k there may)
  unit_off regs r to home _ _ (InStub u b stub there listed serves uncopied) may es same =
      behind_off units board r to home 1 (omega arith) es
      (none_listed home (drop 1 es)
      (each_behind (Off home) es _ same
      (own_free file out board g c pl result u b stub there listed serves uncopied home (takes (kind_of (is_site g) (body_of c.blocks.items b) 0) regs))))

  -- ---- the words behind a copy

  -- they are reached from outside the patch range, or from no region; or control isn't there, but at home or in the patch range
  data ComesOut (r v a : ℕ) (before : List FlatEvent) : Type 0 where
    FromOutside : All (IsOutside board) before → ComesOut r v a before
    FromNone : r ≡ 0 → ComesOut r v a before
    AtHomeOf : a ≡ v → ComesOut r v a before
    InPatch : in_range board.patch a ≡ true → ComesOut r v a before

  module _ (r u n b d : ℕ) (inside : n < length pl.pieces) (held : holds_block b (piece_of pl n).range ≡ true) (run : RunsIn pl.regions b r) (falls : falls_to (end_at c b) ≡ Some u) (leaves : is_inside (copy n) u ≡ false) (below : d < length c.blocks.items) (starts : start_at c d ≡ u) where
    abbrev behind : ℕ
    behind = address_of (copy n) (place_behind (copy n) b)

    in_spm : in_range board.spm behind ≡ true
    in_spm =
        let same : behind + 4 * 0 ≡ behind = omega arith in
        subst (λ (a : ℕ). in_range board.spm a ≡ true) same (behind_in_spm file out board g c pl result n b inside held r u 0 run falls leaves (omega arith))

    not_home : behind ≡ u → ⊥
    not_home same =
        let there : StandsThere c u d 0 = subst (λ (x : ℕ). StandsThere c x d 0) starts (first file board g c result.accepted result.code d below) in
        both_ways (in_range board.spm u) (home_off file out board g c pl result u d 0 there).spm (subst (λ (a : ℕ). in_range board.spm a ≡ true) same in_spm)

    behind_away : (leaving : List FlatEvent) → map address_in leaving ≡ words_from behind 2 → All (IsOutside board) leaving
    behind_away leaving same =
        each_address IsAway leaving (words_from behind 2) same
        (each_from IsAway behind 2 (λ i small. off_patch (behind + 4 * i) (behind_in_spm file out board g c pl result n b inside held r u i run falls leaves small)))

    -- control falls out in no region alone where it does in each
    in_each : (to : ℕ) → r ≡ 0 → RunsIn pl.regions b r → RunsIn pl.regions b to
    in_each to none (inl all) = inl all
    in_each to none (inr here) = inl (here ∙ none)

    falls_by : (q : ℕ) → RunsIn pl.regions b q → (leaving fs rest : List FlatEvent) (e : FlatEvent) (x : UnitAt) → map address_in leaving ≡ words_from behind 2 → leaving ≡ fs ++ e ∷ rest → Contains units x → x.at ≡ e.at → (x.region ≡ 0) ⊎ (x.region ≡ q) → ⊥
    falls_by q run_too leaving fs rest e x same whole listed at stands =
        let word : IsWordAt behind 2 (length fs) e = word_there fs e rest behind 2 (ap (λ (xs : List FlatEvent). map address_in xs) (sym whole) ∙ same) in
        fall_free file out board g c pl result q n b u inside held run_too falls leaves (length fs) word.below x ((are.each x).0 listed) stands (at ∙ word.at)

    any_region : (to : ℕ) (x : UnitAt) (fs : List FlatEvent) → MayCount board r to x fs → (x.region ≡ 0) ⊎ (x.region ≡ to)
    any_region to x fs (inl none) = inl none
    any_region to x fs (inr counts) = inr counts.0

    behind_off_by : (to least : ℕ) (before leaving : List FlatEvent) → map address_in leaving ≡ words_from behind 2 → ComesOut r u behind before → PartIsOff units board r to u least before leaving
    behind_off_by to least before leaving same (FromOutside outside) =
        outside_off units board r to u least before leaving outside (behind_away leaving same)
        (λ fs rest e x whole some listed at stands. falls_by r run leaving fs rest e x same whole listed at stands)
    behind_off_by to least before leaving same (FromNone none) =
        λ fs rest e x whole some listed own at counts.
        falls_by to (in_each to none run) leaving fs rest e x same whole listed at (any_region to x (before ++ fs) counts)
    behind_off_by to least before leaving same (AtHomeOf home) = absurd (not_home home)
    behind_off_by to least before leaving same (InPatch patch) = absurd (ranges_apart file out board g c pl result behind in_spm patch)

  leaving_off : (r to u a least : ℕ) (at : ArrivesAt c g pl plan r u a) (before leaving : List FlatEvent) → ComesOut r u a before → map address_in leaving ≡ leaving_fetched c g pl plan r u a at → PartIsOff units board r to u least before leaving
  leaving_off r to u _ least (AtForm a at) before leaving comes same =
      never_off units board r to u least before leaving (none_listed u leaving (each_address (Off u) leaving [] same (All-nil (Off u))))
  leaving_off r to u _ least (AtItsHome home) before leaving comes same =
      never_off units board r to u least before leaving (none_listed u leaving (each_address (Off u) leaving [] same (All-nil (Off u))))
  leaving_off r to u _ least (BehindCopy n b d inside held run falls leaves below starts) before leaving comes same =
      behind_off_by r u n b d inside held run falls leaves below starts to least before leaving same comes
  leaving_off r to u _ least (BehindStub w b stub there listed serves uncopied plain is home) before leaving comes same =
      never_off units board r to u least before leaving
      (none_listed u leaving
      (each_address (Off u) leaving ((body_at plan stub + 4) ∷ []) same
      (All-cons (Off u) (body_at plan stub + 4) [] (jump_free file out board g c pl result w b stub there listed serves uncopied u plain) (All-nil (Off u)))))

  -- how control comes out of a unit
  comes_out : (regs : Registers) (r home to u a : ℕ) (stands : StandsAs c g pl plan u a) (es : List FlatEvent) → map address_in es ≡ unit_fetched p c g pl plan regs u a stands → LeavesStub file out board g c pl result home to u a stands → ComesOut r home to es
  comes_out regs r home to _ _ (AtHome u b k there bare) es same leaves =
      FromOutside
      (each_address IsAway es (if is_call_pair v u then u ∷ (u + 4) ∷ [] else u ∷ []) same (home_away u b k there (is_call_pair v u) refl))
  comes_out regs r home to _ _ (InCopy u n b k inside held there) es same leaves =
      FromOutside (copy_away (takes (kind_in (copy n) b k) regs) r u n b k inside held there es same)
  comes_out regs r home to _ _ (InStub u b stub there listed serves uncopied) es same (inl here) = AtHomeOf here
  comes_out regs r home to _ _ (InStub u b stub there listed serves uncopied) es same (inr patch) = InPatch patch

  -- ---- the way in

  by_block : (r to u least : ℕ) (before entering : List FlatEvent) → BlockEntered c g pl plan r u to entering → PartIsOff units board r to u least before entering
  by_block r to u least before entering entered =
      never_off units board r to u least before entering
      (none_listed u entering (entered_free file out board g c pl result u r to entering entered))

  entering_off : (r to u a least : ℕ) (at : ArrivesAt c g pl plan r u a) (before entering : List FlatEvent) → Enters c g pl plan r u a to entering at → PartIsOff units board r to u least before entering
  entering_off r to u _ least (AtForm a at) before entering enters =
      never_off units board r to u least before entering
      (subst (λ (xs : List FlatEvent). All (IsNoForm units u) xs) (sym enters.0) (All-nil (IsNoForm units u)))
  entering_off r to u _ least (AtItsHome home) before entering enters = by_block r to u least before entering enters
  entering_off r to u _ least (BehindCopy n b d inside held run falls leaves below starts) before entering enters = by_block r to u least before entering enters
  entering_off r to u _ least (BehindStub w b stub there listed serves uncopied plain is home) before entering enters = by_block r to u least before entering enters

  arrival_off : (s : SourceState) (t : State) (least : ℕ) (before fs : List FlatEvent) (arrival : ArrivalRuns file out board g c pl plan s t fs) → ComesOut arrival.from s.pc t.hart.pc before → PartIsOff units board arrival.from arrival.to s.pc least before fs
  arrival_off s t least before fs arrival comes =
      subst (λ (xs : List FlatEvent). PartIsOff units board arrival.from arrival.to s.pc least before xs) (sym arrival.whole)
      (parts_off units board arrival.from arrival.to s.pc least before arrival.leaving arrival.entering
      (leaving_off arrival.from arrival.to s.pc t.hart.pc least arrival.at before arrival.leaving comes arrival.leaves.addresses)
      (entering_off arrival.from arrival.to s.pc t.hart.pc least arrival.at (before ++ arrival.leaving) arrival.entering arrival.enters))

  -- ---- the start

  -- the words of the start stub are at no form, and behind them control is in no region
  start_by : (s : SourceState) (behind : State) (entering es : List FlatEvent) → All (IsFrom (stub_start plan.start) (start_bytes plan.start)) es → (entered : ArrivalRuns file out board g c pl plan s behind entering) → entered.from ≡ 0 → PartIsOff units board 0 entered.to s.pc 0 [] (es ++ entering)
  start_by s behind entering es fetched entered none =
      subst (λ (q : ℕ). PartIsOff units board q entered.to s.pc 0 [] (es ++ entering)) none
      (parts_off units board entered.from entered.to s.pc 0 [] es entering
      (never_off units board entered.from entered.to s.pc 0 [] es
      (none_listed s.pc es
      (All-weaker (IsFrom (stub_start plan.start) (start_bytes plan.start)) (λ (e : FlatEvent). Off s.pc e.at)
      (λ e from. start_free file out board g c pl result s.pc e from) es fetched)))
      (arrival_off s behind 0 es entering entered (FromNone none)))

  pub start_off : (input : List ℕ) → StartIsOff file out board g c pl result units input
  start_off input behind entering begins entered none fs rest e x whole listed own at counts =
      start_by (source_start file board g input) behind entering begins.events begins.fetched entered none fs rest e x whole (omega arith) listed own at counts

  -- ---- steps

  step_by : (s : SourceState) (read : Option Instr) (t t' : State) (es fs : List FlatEvent) → Reads (p.word s.pc) read → (unit : UnitRuns file out board g c pl plan s read t es) → Does es t t' → (arrival : ArrivalRuns file out board g c pl plan (next_state p s read) t' fs) → arrival.from ≡ unit.match.region → PartIsOff units board unit.match.region arrival.to (next_state p s read).pc 1 [] (es ++ fs)
  step_by s read t t' es fs reads unit does arrival same =
      let next : SourceState = next_state p s read in
      let may : MayRun c pl.regions arrival.from s.pc = subst (λ (q : ℕ). MayRun c pl.regions q s.pc) (sym same) unit.match.at.may in
      let leaves : LeavesStub file out board g c pl result next.pc t'.hart.pc s.pc t.hart.pc unit.match.at.stands =
      stubs_are_left file out board g c pl result s read t t' es unit reads does arrival.match.alike.source_going in
      subst (λ (q : ℕ). PartIsOff units board q arrival.to next.pc 1 [] (es ++ fs)) same
      (parts_off units board arrival.from arrival.to next.pc 1 [] es fs
      (unit_off t.hart.regs arrival.from arrival.to next.pc s.pc t.hart.pc unit.match.at.stands may es unit.addresses)
      (arrival_off next t' 1 es fs arrival (comes_out t.hart.regs arrival.from next.pc t'.hart.pc s.pc t.hart.pc unit.match.at.stands es unit.addresses leaves)))

  pub steps_off : StepsAreOff file out board g c pl result units
  steps_off s read t t' es fs going reads unit does arrival same gs rest e x whole some listed own at counts =
      step_by s read t t' es fs reads unit does arrival same gs rest e x whole (omega (arith, some)) listed own at counts

  pub words_off : AreWordsOff file out board g c pl result units
  words_off = record { steps = steps_off; start = start_off }

-- so it is for every result
pub placed_words_off : PlacedWordsAreOff
placed_words_off file out board g c pl result units are =
    words_off file out board g c pl result units are
