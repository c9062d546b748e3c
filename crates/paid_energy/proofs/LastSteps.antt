-- Runs of the flat machine that end in their last step, and walks that do.
use Rattle.std.proofs.Common.{◌≡◌, ◌∙◌, inl, inr, Bool, ℕ, ◌+◌, ◌*◌, ◌-◌, ◌≤◌, true, false, if◌then◌else◌, List, [], ◌∷◌, ◌++◌, length, Option, refl, sym, ap, subst, arith}
use Rattle.std.proofs.lemmas.Bool.{cases_lt}
use Rattle.std.proofs.lemmas.List.{length-map, length-append, append_assoc}
use Rattle.rv32im.specs.Acts.{Registers}
use Rattle.rv32im.specs.Table.{Means}
use Rattle.rv32im.specs.declared.instructions.Instr.{Instr}
use Rattle.rv32im.specs.declared.instructions.Instr.TheVariants as instr
use Rattle.rv32im.proofs.Meaning.{same_instruction}
use Rattle.board_config.specs.declared.board.Board.{Board}
use Rattle.flat_machine.specs.declared.events.FlatEvent.{FlatEvent}
use Rattle.flat_machine.specs.declared.events.FlatOutcome.{FlatOutcome}
use Rattle.flat_machine.specs.declared.events.FlatOutcome.TheVariants as flat
use Rattle.flat_machine.specs.Runs.{Does, HasEnded}
use Rattle.flat_machine.specs.Runs as flat_runs
use Rattle.flat_machine.specs.State.{State}
use Rattle.flat_machine.proofs.Runs.{does_joined, steps_of_events, steps_cut, one_run}
use Rattle.flat_machine.proofs.Runs as flat_lemmas
use Rattle.loaded_file.specs.Code.{image_word}
use Rattle.object_graph.specs.declared.parts.Graph.{Graph}
use Rattle.code_blocks.specs.Leaders.{is_call_pair}
use Rattle.code_blocks.specs.declared.parts.Unit.{Unit}
use Rattle.code_blocks.specs.declared.parts.Code.{Code}
use Rattle.block_splitter.specs.declared.unit_kind.UnitKind.{UnitKind}
use Rattle.block_splitter.specs.Forms.{body_at, is_site, kind_of}
use Rattle.block_splitter.specs.Copies.{is_inside, kind_in, place_of, address_of}
use Rattle.result_laws.specs.Copied.{unit_words}
use Rattle.result_laws.specs.Kinds.{takes}
use Rattle.result_laws.specs.CopyLaws.{unit_at}
use Rattle.result_laws.proofs.Setting.{setting}
use Rattle.result_laws.proofs.CopiedUnits.{held_below}
use Rattle.result_laws.proofs.Counts.{runs_count}
use Rattle.result_laws.proofs.FirstUnits.{Halts}
use Rattle.result_laws.proofs.KindFacts.{FallsLast, kinds_so}
use Rattle.object_machine.specs.declared.events.Outcome.{Outcome}
use Rattle.object_machine.specs.declared.events.Outcome.TheVariants.{GoesOn, Exited, Trapped, AddressFault}
use Rattle.object_machine.specs.Program.{Program}
use Rattle.object_machine.specs.State.{SourceState}
use Rattle.object_machine.specs.Step.{Reads, next_state}
use Rattle.patch_code.specs.Served.{body_at as stub_body}
use Rattle.profile_runner.specs.Transition.{Transition}
use Rattle.profile_runner.specs.Transitions.{TransitionsFrom, FirstOf, Transitions}
use Rattle.result_laws.specs.HomeLaws.{program_in}
use Rattle.result_laws.specs.ChosenPlacement.{ChosenPlacement, copy_in}
use Rattle.result_laws.specs.ChosenPlacement.{piece_of as placed_piece}
use Rattle.result_laws.specs.PlacedLaws.{IsPlacedResult}
use Rattle.result_laws.specs.PlacedForms.{StandsAs, AtHome, InCopy, InStub}
use Rattle.result_laws.specs.Walks.{address_in, unit_fetched, UnitRuns, StepRuns, On, Ends, Walks, NoSteps, Ended, Step}
use Rattle.result_laws.proofs.Counting.{ended_on, one_read}
use Rattle.result_laws.proofs.CopyWays as ways
use Rattle.result_laws.proofs.StubWords as stubs
use Rattle.paid_energy.specs.FlatRuns.{RunsFor}
use Rattle.paid_energy.specs.HomeWalks as homes
use Rattle.paid_energy.proofs.Exits.{exits_call}
use Rattle.paid_energy.proofs.PlacedUnits.{call_one, copied_one, displaced_one}

-- ---- runs of the flat machine

-- the machine goes on up to the last of these events
pub record EndsIn (t : State) (es : List FlatEvent) : Type 0 where
  pub first : List FlatEvent
  pub last : List FlatEvent
  pub middle : State
  pub whole : es ≡ first ++ last
  pub before : Does first t middle
  pub going : middle.outcome ≡ flat.GoesOn
  pub short : length last ≤ 1

ended_not : (o : FlatOutcome) → HasEnded o → o ≡ flat.GoesOn → ⊥
ended_not flat.GoesOn ended going = ended
ended_not (flat.Exited code) ended going = absurd (cc (going))
ended_not (flat.Trapped pc) ended going = absurd (cc (going))

-- behind a machine that has ended nothing goes on
earlier_goes : (t u middle : State) (k j : ℕ) → flat_runs.Steps k t u → flat_runs.Steps (k + j) t middle → middle.outcome ≡ flat.GoesOn → u.outcome ≡ flat.GoesOn
earlier_goes t u middle k j steps whole going = by_outcome u.outcome refl
  where
    stays : HasEnded u.outcome → u.outcome ≡ flat.GoesOn
    stays ended =
        let cut = steps_cut k j t middle whole in
        let same : cut.0 ≡ u = one_run same_instruction k t cut.0 u cut.1.0 steps in
        let there : middle ≡ u =
        flat_lemmas.ended_steps j u middle ended (subst (λ (x : State). flat_runs.Steps j x middle) same cut.1.1) in
        absurd (ended_not u.outcome ended (ap (λ (x : State). x.outcome) (sym there) ∙ going))

    by_outcome : (o : FlatOutcome) → u.outcome ≡ o → u.outcome ≡ flat.GoesOn
    by_outcome flat.GoesOn is = is
    by_outcome (flat.Exited code) is = stays (subst HasEnded (sym is) tt)
    by_outcome (flat.Trapped pc) is = stays (subst HasEnded (sym is) tt)

-- so its run is one until it ends
pub runs_for : (most : ℕ) (t u : State) (es : List FlatEvent) → Does es t u → HasEnded u.outcome → length es ≤ most → EndsIn t es → RunsFor most t es u
runs_for most t u es does ended few ends =
    record {
      does = does;
      few = few;
      ended = λ less. ended;
      going = λ k x less steps.
          let count = ap (λ (fs : List FlatEvent). length fs) ends.whole in
          let both = length-append ends.first ends.last in
          let short = ends.short in
          let same : k + (length ends.first - k) ≡ length ends.first = omega (arith, less, count, both, short) in
          earlier_goes t x ends.middle k (length ends.first - k) steps
          (subst (λ (n : ℕ). flat_runs.Steps n t ends.middle) (sym same) (steps_of_events ends.first t ends.middle ends.before)) ends.going;
    }

-- a machine that has ended after so many steps takes no more
pub no_longer : (n : ℕ) (t u x : State) (es : List FlatEvent) → Does es t u → EndsIn t es → flat_runs.Steps n t x → HasEnded x.outcome → length es ≤ n
no_longer n t u x es does ends steps ended =
    let count = ap (λ (fs : List FlatEvent). length fs) ends.whole in
    let both = length-append ends.first ends.last in
    let short = ends.short in
    elim (cases_lt n (length es)) [
      | inr enough ↦ omega (arith, enough)
      | inl less ↦
          let same : n + (length ends.first - n) ≡ length ends.first = omega (arith, less, count, both, short) in
          absurd (ended_not x.outcome ended
          (earlier_goes t x ends.middle n (length ends.first - n) steps
          (subst (λ (m : ℕ). flat_runs.Steps m t ends.middle) (sym same) (steps_of_events ends.first t ends.middle ends.before)) ends.going))
    ]

-- behind other events
pub ends_behind : (t m : State) (es fs : List FlatEvent) → Does es t m → EndsIn m fs → EndsIn t (es ++ fs)
ends_behind t m es fs does ends =
    record {
      first = es ++ ends.first;
      last = ends.last;
      middle = ends.middle;
      whole = ap (λ (xs : List FlatEvent). es ++ xs) ends.whole ∙ sym (append_assoc es ends.first ends.last);
      before = does_joined es ends.first t m ends.middle does ends.before;
      going = ends.going;
      short = ends.short;
    }

pub ends_here : (t : State) (es : List FlatEvent) → t.outcome ≡ flat.GoesOn → length es ≤ 1 → EndsIn t es
ends_here t es going short =
    record { first = []; last = es; middle = t; whole = refl; before = refl; going = going; short = short }

-- ---- walks of placed results

module _ (file out : List ℕ) (board : Board) (g : Graph) (c : Code) (pl : ChosenPlacement) (result : IsPlacedResult file out board g c pl) where
  open (setting file out board g c pl result) use {v, p as q, plan}

  -- an environment call is one word at each form
  last_word : (regs : Registers) (u a : ℕ) (stands : StandsAs c g pl plan u a) → is_call_pair v u ≡ false → Means (image_word v u) instr.Ecall → length (unit_fetched q c g pl plan regs u a stands) ≡ 1
  last_word regs _ _ (AtHome u b k there bare) single call = ap (λ (t : Bool). length (if t then u ∷ (u + 4) ∷ [] else u ∷ [])) single
  last_word regs _ _ (InCopy u n b k inside held there) single call =
      let copied = ways.is_copy file out board g c pl result n inside in
      let below = held_below v (copy_in c g pl n) (placed_piece pl n).words (placed_piece pl n).starts b copied held in
      let counts = ways.unit_count file out board g c pl result n inside b in
      let is = there.is in
      let kind : UnitKind = kind_in (copy_in c g pl n) b k in
      let at : (unit_at c b k).at ≡ u = ap (λ (x : Unit). x.at) (ways.unit_same file out board g c pl result n inside b k) ∙ there.at in
      let one =
      copied_one (is_inside (copy_in c g pl n)) (takes kind regs) kind
      (call_one v c (is_site g) (unit_at c b k).at (FallsLast c b k) ⊥ kind
      (kinds_so v c (is_site g) b k result.code below (copied.piece.blocks b held) (omega (arith, counts, is)))
      (subst (λ (x : ℕ). is_call_pair v x ≡ false) (sym at) single) (subst (λ (x : ℕ). Means (image_word v x) instr.Ecall) (sym at) call)) in
      runs_count.fetched (address_of (copy_in c g pl n) (place_of (copy_in c g pl n) b k)) (unit_words (is_inside (copy_in c g pl n)) (takes kind regs) kind) ∙ one
  last_word regs _ _ (InStub u b stub there listed serves uncopied) single call =
      let kind : UnitKind = kind_of (is_site g) (body_at c.blocks.items b) 0 in
      displaced_one (stub_body plan stub) (takes kind regs) kind
      (call_one v c (is_site g) u (Prim.Unit {0}) (Halts v u) kind (stubs.kind_is file out board g c pl result u b stub there listed serves uncopied) single call)

  unit_short : (s : SourceState) (read : Option Instr) (t : State) (es : List FlatEvent) (code : ℕ) → UnitRuns file out board g c pl plan s read t es → Reads (q.word s.pc) read → (next_state q s read).outcome ≡ Exited code → length es ≤ 1
  unit_short s read t es code unit reads exits =
      let call = exits_call q s unit.match.alike.source_going code read exits in
      let means : Means (image_word v s.pc) instr.Ecall = subst (λ (x : Option Instr). Reads (image_word v s.pc) x) call.1 reads in
      let one = last_word t.hart.regs s.pc t.hart.pc unit.match.at.stands call.0 means in
      let count = ap (λ (xs : List ℕ). length xs) unit.addresses in
      let events = length-map es address_in in
      omega (arith, one, count, events)

  -- behind an end nothing more runs
  nothing_more : (n : ℕ) (s s' : SourceState) (t : State) (es : List FlatEvent) → Walks file out board g c pl plan n s s' t es → (s.outcome ≡ GoesOn → ⊥) → (s' ≡ s) × (es ≡ [])
  nothing_more _ _ _ _ _ (NoSteps s t) off = (refl, refl)
  nothing_more _ _ _ _ _ (Ended n s t ended) off = (refl, refl)
  nothing_more _ _ _ _ _ (Step n s s' read t t' es fs going reads step does more) off = absurd (off going)

  step_ends : (n : ℕ) (s s' : SourceState) (read : Option Instr) (t t' : State) (es fs : List FlatEvent) (code : ℕ) → Reads (q.word s.pc) read → StepRuns file out board g c pl plan s read t es → Does es t t' → Walks file out board g c pl plan n (next_state q s read) s' t' fs → s'.outcome ≡ Exited code → ((next_state q s read).outcome ≡ GoesOn → EndsIn t' fs) → EndsIn t (es ++ fs)
  step_ends n s s' read t t' _ fs code reads (On es gs t1 unit does_unit arrival same) does more exits later =
      ends_behind t t' (es ++ gs) fs does (later arrival.match.alike.source_going)
  step_ends n s s' read t t' _ fs code reads (Ends es off unit) does more exits later =
      let rest = nothing_more n (next_state q s read) s' t' fs more off in
      let exits_here : (next_state q s read).outcome ≡ Exited code = ap (λ (x : SourceState). x.outcome) (sym rest.0) ∙ exits in
      let short = unit_short s read t es code unit reads exits_here in
      let none = ap (λ (xs : List FlatEvent). length xs) rest.1 in
      let both = length-append es fs in
      ends_here t (es ++ fs) unit.match.alike.going (omega (arith, short, none, both))

  pub walk_ends : (n : ℕ) (s s' : SourceState) (t : State) (es : List FlatEvent) (code : ℕ) → Walks file out board g c pl plan n s s' t es → s.outcome ≡ GoesOn → s'.outcome ≡ Exited code → EndsIn t es
  walk_ends _ _ _ _ _ code (NoSteps s t) going exits = absurd (cc (sym going ∙ exits))
  walk_ends _ _ _ _ _ code (Ended n s t ended) going exits = absurd (ended_on s.outcome ended going)
  walk_ends _ _ _ _ _ code (Step n s s' read t t' es fs going reads step does more) on exits =
      step_ends n s s' read t t' es fs code reads step does more exits
      (λ next_on. walk_ends n (next_state q s read) s' t' fs code more next_on exits)

-- ---- walks at home

module _ (file : List ℕ) (board : Board) (g : Graph) where
  abbrev p : Program
  p = program_in file board g

  home_short : (s : SourceState) (read : Option Instr) (es : List FlatEvent) → homes.HomeUnitRuns file board g s read es → length es ≤ 2
  home_short s read es unit =
      let count = ap (λ (xs : List ℕ). length xs) unit.addresses in
      let events = length-map es address_in in
      by_pair (p.is_pair s.pc) (length es) (sym events ∙ count)
    where
      by_pair : (pair : Bool) (n : ℕ) → n ≡ length (if pair then s.pc ∷ (s.pc + 4) ∷ [] else s.pc ∷ []) → n ≤ 2
      by_pair true n is = omega (arith, is)
      by_pair false n is = omega (arith, is)

  home_last : (s : SourceState) (read : Option Instr) (es : List FlatEvent) (code : ℕ) → s.outcome ≡ GoesOn → homes.HomeUnitRuns file board g s read es → (next_state p s read).outcome ≡ Exited code → length es ≤ 1
  home_last s read es code going unit exits =
      let call = exits_call p s going code read exits in
      let count = ap (λ (xs : List ℕ). length xs) unit.addresses in
      let events = length-map es address_in in
      let one = ap (λ (t : Bool). length (if t then s.pc ∷ (s.pc + 4) ∷ [] else s.pc ∷ [])) call.0 in
      omega (arith, count, events, one)

  home_nothing : (n : ℕ) (s s' : SourceState) (t : State) (es : List FlatEvent) → homes.HomeWalks file board g n s s' t es → (s.outcome ≡ GoesOn → ⊥) → (s' ≡ s) × (es ≡ [])
  home_nothing _ _ _ _ _ (homes.NoSteps s t) off = (refl, refl)
  home_nothing _ _ _ _ _ (homes.Ended n s t ended) off = (refl, refl)
  home_nothing _ _ _ _ _ (homes.Step n s s' read t t' es fs going on reads unit does more) off = absurd (off going)

  home_step : (n : ℕ) (s s' : SourceState) (read : Option Instr) (t t' : State) (es fs : List FlatEvent) (code : ℕ) → s.outcome ≡ GoesOn → t.outcome ≡ flat.GoesOn → homes.HomeUnitRuns file board g s read es → Does es t t' → homes.HomeWalks file board g n (next_state p s read) s' t' fs → s'.outcome ≡ Exited code → ((next_state p s read).outcome ≡ GoesOn → EndsIn t' fs) → EndsIn t (es ++ fs)
  home_step n s s' read t t' es fs code going on unit does more exits later = by_outcome (next_state p s read).outcome refl
    where
      ended_here : ((next_state p s read).outcome ≡ GoesOn → ⊥) → EndsIn t (es ++ fs)
      ended_here off =
          let rest = home_nothing n (next_state p s read) s' t' fs more off in
          let exits_here : (next_state p s read).outcome ≡ Exited code = ap (λ (x : SourceState). x.outcome) (sym rest.0) ∙ exits in
          let short = home_last s read es code going unit exits_here in
          let none = ap (λ (xs : List FlatEvent). length xs) rest.1 in
          let both = length-append es fs in
          ends_here t (es ++ fs) on (omega (arith, short, none, both))

      by_outcome : (o : Outcome) → (next_state p s read).outcome ≡ o → EndsIn t (es ++ fs)
      by_outcome GoesOn is = ends_behind t t' es fs does (later is)
      by_outcome (Exited other) is = ended_here (λ goes. absurd (cc (sym is ∙ goes)))
      by_outcome (Trapped pc) is = ended_here (λ goes. absurd (cc (sym is ∙ goes)))
      by_outcome (AddressFault pc why) is = ended_here (λ goes. absurd (cc (sym is ∙ goes)))

  pub home_ends : (n : ℕ) (s s' : SourceState) (t : State) (es : List FlatEvent) (code : ℕ) → homes.HomeWalks file board g n s s' t es → s.outcome ≡ GoesOn → s'.outcome ≡ Exited code → EndsIn t es
  home_ends _ _ _ _ _ code (homes.NoSteps s t) going exits = absurd (cc (sym going ∙ exits))
  home_ends _ _ _ _ _ code (homes.Ended n s t ended) going exits = absurd (ended_on s.outcome ended going)
  home_ends _ _ _ _ _ code (homes.Step n s s' read t t' es fs going on reads unit does more) started exits =
      home_step n s s' read t t' es fs code going on unit does more exits
      (λ next_on. home_ends n (next_state p s read) s' t' fs code more next_on exits)

  -- two words a transition are enough
  pub home_few : (n : ℕ) (s s' : SourceState) (t : State) (es : List FlatEvent) (ts : List Transition) → homes.HomeWalks file board g n s s' t es → Transitions p n s ts s' → length es ≤ 2 * length ts
  home_few _ _ _ _ _ ts (homes.NoSteps s t) transitions = omega arith
  home_few _ _ _ _ _ ts (homes.Ended n s t ended) transitions = omega arith
  home_few _ _ _ _ _ ts (homes.Step n s s' read t t' es fs going on reads unit does more) transitions =
      let found : FirstOf (Transitions p n) p s ts s' = subst (λ o. TransitionsFrom o (Transitions p n) p s ts s') going transitions in
      let others : List Transition = found.1.1.0 in
      let count = ap (λ (xs : List Transition). length xs) found.1.1.1.0 in
      let same : found.0 ≡ read = one_read (p.word s.pc) found.0 read found.1.0 reads in
      let behind : Transitions p n (next_state p s read) others s' =
      subst (λ (x : Option Instr). Transitions p n (next_state p s x) others s') same found.1.1.1.1 in
      let rest = home_few n (next_state p s read) s' t' fs others more behind in
      let here = home_short s read es unit in
      let both = length-append es fs in
      omega (arith, count, rest, here, both)
