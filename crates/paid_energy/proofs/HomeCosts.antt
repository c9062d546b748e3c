-- At home a run costs the energy with nothing taken, step by step.
use Rattle.std.proofs.Common.{◌≡◌, ◌∙◌, ℕ, suc, ◌+◌, ◌*◌, ◌<◌, Bool, true, false, if◌then◌else◌, List, [], ◌∷◌, length, Option, Some, None, refl, sym, ap, subst, arith}
use Rattle.rv32im.specs.declared.instructions.Instr.{Instr}
use Rattle.elf_reader.specs.File.{PlainView, view_in}
use Rattle.loaded_file.specs.Code.{image_word}
use Rattle.board_config.specs.declared.board.Board.{Board}
use Rattle.flat_machine.specs.declared.events.FlatEvent.{FlatEvent}
use Rattle.flat_machine.specs.State.{State}
use Rattle.object_graph.specs.declared.parts.Graph.{Graph}
use Rattle.code_blocks.specs.Leaders.{is_call_pair}
use Rattle.code_blocks.specs.Blocks.{IsCode}
use Rattle.code_blocks.specs.declared.parts.Unit.{Unit}
use Rattle.code_blocks.specs.declared.parts.Block.{Block}
use Rattle.code_blocks.specs.declared.parts.Code.{Code}
use Rattle.block_splitter.specs.Forms.{unit_in, body_at}
use Rattle.patch_code.specs.Told.{accesses}
use Rattle.object_machine.specs.declared.events.Access.{Access}
use Rattle.object_machine.specs.declared.events.Outcome.{Outcome}
use Rattle.object_machine.specs.declared.events.Outcome.TheVariants.{GoesOn}
use Rattle.object_machine.specs.Program.{Program}
use Rattle.object_machine.specs.State.{SourceState}
use Rattle.object_machine.specs.Step.{Reads, next_state, access_of}
use Rattle.object_machine.specs.Flow.{calls_pair}
use Rattle.object_machine.specs.Step.{one_word}
use Rattle.profile_runner.specs.Standing.{block_of}
use Rattle.code_blocks.specs.Numbers.{starts_of}
use Rattle.profile_runner.specs.Transition.{Transition, is_going, transition_at}
use Rattle.profile_runner.specs.Transitions.{Transitions, transition_of}
use Rattle.energy_model.specs.Energy.{Scene, nothing_taken, unit_number, data_price, step_energy, steps_energy}
use Rattle.energy_model.proofs.EnergyLemmas.{home_step}
use Rattle.result_laws.specs.HomeLaws.{IsAccepted, program_in, source_start}
use Rattle.result_laws.specs.LiveUnits.{StandsThere}
use Rattle.cell_values.specs.Objects.{objects_of}
use Rattle.energy_model.specs.Priced.{price_at}
use Rattle.paid_energy.specs.Counted.{IsCountedAt}
use Rattle.paid_energy.proofs.Counted.{regions_are_counted}
use Rattle.result_laws.specs.Walks.{unit_accesses, IsNoFault}
use Rattle.result_laws.proofs.Counting.{none_ended, ended_on, one_read}
use Rattle.paid_energy.specs.Costs.{run_cost}
use Rattle.paid_energy.proofs.CostLemmas.{run_cost_joined, fetches_cost, accesses_cost, run_cost_parts}
use Rattle.paid_energy.specs.HomeWalks.{home_fetched, HomeUnitRuns, HomeWalks, NoSteps, Ended, Step}
use Rattle.paid_energy.specs.WalkCosts.{HomeCostsEnergy}
use Rattle.paid_energy.proofs.Transitions.{IsFrom, from_start, behind_first, has_first, sum_from, sum_more, sum_all}
use Rattle.paid_energy.proofs.HomePrices.{fixed_slow, object_slow, unit_words, words_cost}
use Rattle.paid_energy.proofs.AccessCosts.{is_quick, unit_cost, pair_goes}
use Rattle.paid_energy.proofs.CodeFacts.{fine_before, pair_reads, UnitFacts, unit_facts}

-- ---- numbers

words_pair : (pair : Bool) (words : ℕ) → words ≡ (if pair then 2 else 1) → (pair ≡ true → ⊥) → words ≡ 1
words_pair true words is single = absurd (single refl)
words_pair false words is single = is

-- by whether the program goes on
step_by : (going : Bool) (words fetch more : ℕ) → (going ≡ false → words ≡ 1) → words * fetch + (if going then more else 0) ≡ (if going then words * fetch + more else fetch)
step_by true words fetch more one = refl
step_by false words fetch more one = let single = one refl in rw single (omega arith)

none_quick : (access : Option Access) → is_quick (λ (o : ℕ). false) access ≡ false
none_quick None = refl
none_quick (Some a) = refl

going_not : (o : Outcome) → o ≡ GoesOn → is_going o ≡ false → ⊥
going_not o on off = let is : is_going o ≡ true = ap is_going on in cc

module _ (file : List ℕ) (board : Board) (g : Graph) (c : Code) (w : Scene) (accepted : IsAccepted file board g) (code : IsCode (view_in file) c) (whole : List Transition) (counted : (i : ℕ) → i < length whole → IsCountedAt c [] [] whole i) where
  abbrev v : PlainView
  v = view_in file

  abbrev p : Program
  p = program_in file board g

  -- the scene of the file's code on the board
  abbrev scene : Scene
  scene = record w { blocks = c.blocks.items; board = board }

  abbrev energy_at : ℕ → ℕ
  energy_at i = step_energy scene nothing_taken whole i

  -- ---- one step

  module _ (i : ℕ) (below : i < length whole) (s : SourceState) (read : Option Instr) (going : s.outcome ≡ GoesOn) (reads : Reads (image_word v s.pc) read) (is : transition_at whole i ≡ transition_of p s (next_state p s read) read) (fine : IsNoFault (next_state p s read).outcome) where
    abbrev o : Outcome
    o = (next_state p s read).outcome

    abbrev b : ℕ
    b = block_of (starts_of c) whole i

    here : IsCountedAt c [] [] whole i
    here = counted i below

    facts : UnitFacts file board g c accepted code s.pc b here.unit
    facts =
        unit_facts file board g c accepted code s.pc b here.unit
        (subst (λ (a : ℕ). StandsThere c a b here.unit) (ap (λ (m : Transition). m.at) is) here.there)

    abbrev u : Unit
    u = unit_in (body_at c.blocks.items b) here.unit

    number : unit_number scene whole i ≡ here.unit
    number = let units = here.units in omega (arith, units)

    abbrev fetch : ℕ
    fetch = board.prices.main_fetch

    abbrev quick : Bool
    quick = is_quick (λ (x : ℕ). false) (access_of p s o read)

    words : fetches_cost board (home_fetched p s.pc) ≡ unit_words file board g accepted s.pc * fetch
    words = words_cost file board g accepted s.pc facts.is_code

    accessed : accesses_cost board (unit_accesses p s (objects_of g).home read) ≡ (if is_going o then data_price board.prices false read else 0)
    accessed =
        unit_cost board p (objects_of g).home (λ (x : ℕ). false) (fixed_slow file board g accepted) (object_slow file board g accepted) s going read
        (pair_reads file board g c accepted code s.pc read reads) fine
        ∙ ap (λ (b : Bool). if is_going o then data_price board.prices b read else 0) (none_quick (access_of p s o read))

    -- a call of two words goes on
    pair_on : is_call_pair v s.pc ≡ true → is_going o ≡ false → ⊥
    pair_on pair off =
        let same : next_state p s read ≡ calls_pair p s = ap (λ (x : Bool). if x then calls_pair p s else one_word p s read) pair in
        let on : o ≡ GoesOn =
        ap (λ (x : SourceState). x.outcome) same ∙ pair_goes p s going (subst (λ (x : SourceState). IsNoFault x.outcome) same fine) in
        going_not o on off

    energy : energy_at i ≡ (if is_going o then unit_words file board g accepted s.pc * fetch + data_price board.prices false read else fetch)
    energy =
        home_step scene whole i
        ∙ (ap (λ (m : Transition). if m.goes_on then price_at scene b (unit_number scene whole i) else fetch) is
        ∙ (ap (λ (k : ℕ). if is_going o then price_at scene b k else fetch) number
        ∙ (ap (λ (n : ℕ). if is_going o then n * fetch + data_price board.prices false u.instr else fetch) facts.words
        ∙ ap (λ (r : Option Instr). if is_going o then unit_words file board g accepted s.pc * fetch + data_price board.prices false r else fetch) (facts.reads read reads))))

    step_cost : (es : List FlatEvent) → HomeUnitRuns file board g s read es → run_cost board es ≡ energy_at i
    step_cost es runs =
        let parts = run_cost_parts board es in
        let fetched = ap (fetches_cost board) runs.addresses ∙ words in
        let told = ap (accesses_cost board) (runs.accesses fine) ∙ accessed in
        parts
        ∙ (ap (λ (n : ℕ). n + accesses_cost board (accesses es)) fetched
        ∙ (ap (λ (n : ℕ). unit_words file board g accepted s.pc * fetch + n) told
        ∙ (step_by (is_going o) (unit_words file board g accepted s.pc) fetch (data_price board.prices false read)
        (λ off. words_pair (is_call_pair v s.pc) (unit_words file board g accepted s.pc) refl (λ pair. pair_on pair off))
        ∙ sym energy)))

  -- ---- all steps

  abbrev sum_at : ℕ → List Transition → ℕ
  sum_at i rest = sum_from energy_at i rest

  none_cost : (i : ℕ) (rest : List Transition) → rest ≡ [] → 0 ≡ sum_at i rest
  none_cost i rest none = ap (sum_at i) (sym none)

  home_costs : (n : ℕ) (s s' : SourceState) (t : State) (es : List FlatEvent) → HomeWalks file board g n s s' t es → (i : ℕ) (rest : List Transition) → Transitions p n s rest s' → IsNoFault s'.outcome → IsFrom whole i rest → run_cost board es ≡ sum_at i rest
  home_costs _ _ _ _ _ (NoSteps s t) i rest run fine here = none_cost i rest run.0
  home_costs _ _ _ _ _ (Ended n s t ended) i rest run fine here = none_cost i rest (none_ended n p s s rest (ended_on s.outcome ended) run)
  home_costs _ _ _ _ _ (Step n s s' read t t' es fs going on reads runs does more) i rest run fine here =
      let found = has_first whole p n s s' i rest going run here in
      let same : found.read ≡ read = one_read (p.word s.pc) found.read read found.reads reads in
      let is : transition_at whole i ≡ transition_of p s (next_state p s read) read =
      found.at ∙ (found.is ∙ ap (λ (r : Option Instr). transition_of p s (next_state p s r) r) same) in
      let behind : Transitions p n (next_state p s read) found.others s' =
      subst (λ (r : Option Instr). Transitions p n (next_state p s r) found.others s') same found.behind in
      let step = step_cost i found.below s read going reads is (fine_before p n (next_state p s read) s' found.others fine behind) es runs in
      let later = home_costs n (next_state p s read) s' t' fs more (suc i) found.others behind fine (behind_first whole i found.first found.others found.there) in
      let joined = run_cost_joined board es fs in
      let sum = sum_more energy_at i found.first found.others in
      let all : sum_at i rest ≡ sum_at i (found.first ∷ found.others) = ap (sum_at i) found.whole_rest in
      omega (arith, step, later, joined, sum, all)

  pub home_cost : (n : ℕ) (s s' : SourceState) (t : State) (es : List FlatEvent) → HomeWalks file board g n s s' t es → Transitions p n s whole s' → IsNoFault s'.outcome → run_cost board es ≡ steps_energy scene nothing_taken whole
  home_cost n s s' t es walk run fine =
      home_costs n s s' t es walk 0 whole run fine (from_start whole) ∙ sum_all energy_at whole

-- the parts of a scene on which energies at home depend
same_scene : (w : Scene) (blocks : List Block) (board : Board) → w.blocks ≡ blocks → w.board ≡ board → w ≡ record w { blocks = blocks; board = board }
same_scene w blocks board same on =
    λ i. record {
      blocks = same i;
      graph = w.graph;
      regions = w.regions;
      borders = w.borders;
      region_count = w.region_count;
      board = on i;
    }

pub home_costs_energy : HomeCostsEnergy
home_costs_energy file board g c input w n s t transitions es accepted code blocks graph on walk run fine =
    let cost =
    home_cost file board g c w accepted code transitions
    (λ i below. regions_are_counted file board g c input [] [] n i transitions s accepted code (λ b is. refl) run below) n
    (source_start file board g input) s t es walk run fine in
    subst (λ (x : Scene). run_cost board es ≡ steps_energy x nothing_taken transitions) (sym (same_scene w c.blocks.items board blocks on)) cost
