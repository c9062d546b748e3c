-- The energy of a run in which nothing is moved is what a profile's tables count.
use Rattle.std.proofs.Common.{◌≡◌, ◌∙◌, ℕ, suc, ◌+◌, ◌-◌, ◌*◌, ◌<◌, ◌≤◌, Bool, true, false, List, length, slice_index_or, sym, ap, subst, arith, if◌then◌else◌}
use Rattle.std.proofs.lemmas.List.{length-map}
use Rattle.rv32im.specs.Table.{OneInstruction}
use Rattle.elf_reader.specs.File.{plain_view}
use Rattle.elf_reader.specs.declared.view.ElfView.{ElfView}
use Rattle.board_config.specs.declared.board.Board.{Board}
use Rattle.object_graph.specs.declared.parts.Graph.{Graph}
use Rattle.code_blocks.specs.Blocks.{start_of}
use Rattle.code_blocks.specs.declared.parts.Code.{Code}
use Rattle.object_machine.specs.Program.{program_of}
use Rattle.region_former.specs.declared.table.RegionTable.{RegionTable}
use Rattle.profile_runner.specs.declared.counts.Profile.{Profile}
use Rattle.profile_runner.specs.Transition.{Transition, is_going, transition_at}
use Rattle.block_splitter.specs.Forms.{unit_in, body_at}
use Rattle.energy_model.specs.Energy.{block_in, block_at, unit_number, step_energy, steps_energy, nothing_taken}
use Rattle.list_checks.proofs.SumLemmas.{sum_same}
use Rattle.energy_model.specs.Scenes.{scene_of, AreOfSameFile}
use Rattle.energy_model.specs.Priced.{price_at, unit_price, units_price}
use Rattle.energy_model.specs.Base.{body_price, arrived_price, part_price, CountsEnergy, IsCounted}
use Rattle.profile_runner.proofs.RunLemmas.{transitions_few, some_transitions}
use Rattle.list_checks.specs.Sorted.{sum_below}
use Rattle.energy_model.proofs.StepLemmas.{end_of_run}
use Rattle.energy_model.proofs.SceneLemmas.{unit_of_transition, follows}
use Rattle.energy_model.proofs.SumLemmas.{arrived, block_sum, blocks_sum, sum_small}
use Rattle.energy_model.proofs.EnergyLemmas.{home_step, last_price, base_is}
use Rattle.energy_model.proofs.PriceLemmas.{unit_small}

abbrev Given : ElfView → Board → Graph → Code → RegionTable → Profile → List Transition → Type 0
Given view board g c t q ms = AreOfSameFile view board g c t q ms

-- ---- the last transition

pub last_of : (n : ℕ) → 0 < n → n ≡ suc (n - 1)
last_of n some = omega (arith, some)

pub few_transitions : (view : ElfView) (board : Board) (g : Graph) (c : Code) (t : RegionTable) (q : Profile) (ms : List Transition) → Given view board g c t q ms → length ms ≤ 1000000000
few_transitions view board g c t q ms given =
    let r = given.run in
    let few = transitions_few (program_of (plain_view view) board g) board.steps r.from r.to ms r.run in
    let most = given.lawful.most_steps in
    omega (arith, few, most)

pub has_transitions : (view : ElfView) (board : Board) (g : Graph) (c : Code) (t : RegionTable) (q : Profile) (ms : List Transition) → Given view board g c t q ms → 0 < length ms
has_transitions view board g c t q ms given =
    let r = given.run in
    let least = given.lawful.least_steps in
    some_transitions (program_of (plain_view view) board g) board.steps r.from r.to ms (omega (arith, least)) r.going r.run

-- ---- the base

-- the tables' sum over the blocks is that over the transitions
arrived_is : (view : ElfView) (board : Board) (g : Graph) (c : Code) (t : RegionTable) (q : Profile) (ms : List Transition) → Given view board g c t q ms → arrived_price board.prices c.blocks.items q.arrivals.items (length c.blocks.items) ≡ blocks_sum (scene_of g c t board) ms (price_at (scene_of g c t board)) (length ms)
arrived_is view board g c t q ms given =
    let w = scene_of g c t board in
    let tables = given.run.profile in
    let count = length-map c.blocks.items start_of in
    sum_same (λ k. slice_index_or q.arrivals.items k 0 * body_price board.prices (body_at c.blocks.items k))
    (λ b. arrived w ms (length ms) b * block_sum w (price_at w) b) (length c.blocks.items)
    (λ k below. ap (λ n. n * body_price board.prices (body_at c.blocks.items k)) (tables.arrivals.each k (omega (arith, count, below))))

part_is : (view : ElfView) (board : Board) (g : Graph) (c : Code) (t : RegionTable) (q : Profile) (ms : List Transition) → Given view board g c t q ms → part_price board.prices q.outcome (body_at c.blocks.items q.last.0) (q.last.1 - 1) ≡ sum_below (price_at (scene_of g c t board) (block_at (scene_of g c t board) ms (length ms - 1))) (unit_number (scene_of g c t board) ms (length ms - 1)) + last_price (scene_of g c t board) ms (length ms - 1)
part_is view board g c t q ms given =
    let w = scene_of g c t board in
    let i = length ms - 1 in
    let tables = given.run.profile in
    let r = given.run in
    let goes : (transition_at ms i).goes_on ≡ is_going q.outcome =
    (end_of_run (program_of (plain_view view) board g) board.steps r.from r.to ms r.run).goes_on i (last_of (length ms) (has_transitions view board g c t q ms given)) ∙ ap is_going (sym tables.outcome_is) in
    let block = tables.last_block in
    let units = tables.last_units in
    let going = λ (b : Bool). units_price board.prices (body_at c.blocks.items (block_at w ms i)).units (unit_number w ms i) + (if b then unit_price board.prices (unit_of_transition w ms i) else board.prices.main_fetch) in
    ap (λ k. part_price board.prices q.outcome (body_at c.blocks.items k) (q.last.1 - 1)) block
    ∙ (ap (λ n. part_price board.prices q.outcome (body_at c.blocks.items (block_at w ms i)) (n - 1)) units
    ∙ ap going (sym goes))

whole_is : (view : ElfView) (board : Board) (g : Graph) (c : Code) (t : RegionTable) (q : Profile) (ms : List Transition) → Given view board g c t q ms → body_price board.prices (body_at c.blocks.items q.last.0) ≡ block_sum (scene_of g c t board) (price_at (scene_of g c t board)) (block_at (scene_of g c t board) ms (length ms - 1))
whole_is view board g c t q ms given = ap (λ k. body_price board.prices (body_at c.blocks.items k)) given.run.profile.last_block

-- the energy with nothing taken is what is counted
home_counted : OneInstruction → (view : ElfView) (board : Board) (g : Graph) (c : Code) (t : RegionTable) (q : Profile) (ms : List Transition) → Given view board g c t q ms → IsCounted board.prices c.blocks.items q (steps_energy (scene_of g c t board) nothing_taken ms)
home_counted one view board g c t q ms given =
    let w = scene_of g c t board in
    let i = length ms - 1 in
    let sum = base_is w ms i (follows one view board g c t q ms given) (last_of (length ms) (has_transitions view board g c t q ms given)) in
    let blocks = arrived_is view board g c t q ms given in
    let part = part_is view board g c t q ms given in
    let whole = whole_is view board g c t q ms given in
    omega (arith, sum, blocks, part, whole)

pub base_stated : OneInstruction → (view : ElfView) (board : Board) (g : Graph) (c : Code) (t : RegionTable) (q : Profile) (ms : List Transition) (base : ℕ) → Given view board g c t q ms → IsCounted board.prices c.blocks.items q base → base ≡ steps_energy (scene_of g c t board) nothing_taken ms
base_stated one view board g c t q ms base given counted =
    let home = home_counted one view board g c t q ms given in
    omega (arith, home, counted)

choice_small : (b : Bool) (x y : ℕ) → x ≤ 30000 → y ≤ 10000 → (if b then x else y) ≤ 30000
choice_small true x y first second = first
choice_small false x y first second = omega (arith, second)

pub home_small : OneInstruction → (view : ElfView) (board : Board) (g : Graph) (c : Code) (t : RegionTable) (q : Profile) (ms : List Transition) → Given view board g c t q ms → steps_energy (scene_of g c t board) nothing_taken ms ≤ length ms * 30000
home_small one view board g c t q ms given =
    let w = scene_of g c t board in
    let all = follows one view board g c t q ms given in
    let prices = given.lawful.prices in
    sum_small (step_energy w nothing_taken ms) 30000 (length ms) (λ i below.
    let small = choice_small (transition_at ms i).goes_on (price_at w (block_at w ms i) (unit_number w ms i)) board.prices.main_fetch (unit_small board.prices (unit_of_transition w ms i) prices (all.each i below).words) prices.main_fetch in
    let is = home_step w ms i in
    omega (arith, is, small))

pub counts_energy : OneInstruction → (view : ElfView) (board : Board) (g : Graph) (c : Code) (t : RegionTable) (q : Profile) (ms : List Transition) → Given view board g c t q ms → CountsEnergy board.prices c.blocks.items q
counts_energy one view board g c t q ms given =
    let w = scene_of g c t board in
    let n = length ms in
    let i = n - 1 in
    let some = has_transitions view board g c t q ms given in
    let tables = given.run.profile in
    let all = follows one view board g c t q ms given in
    let transition = all.each i (omega (arith, some)) in
    let count = length-map c.blocks.items start_of in
    let arrivals = tables.arrivals.size_is in
    let block = tables.last_block in
    let units = tables.last_units in
    let inside = transition.inside in
    let runs = transition.runs in
    let below = transition.below in
    let counted = home_counted one view board g c t q ms given in
    let energy = home_small one view board g c t q ms given in
    let few = few_transitions view board g c t q ms given in
    let whole = whole_is view board g c t q ms given in
    let block_small = sum_small (price_at w (block_at w ms i)) 30000 (length (block_in w (block_at w ms i)).units) (λ k in_block. unit_small board.prices (unit_in (block_in w (block_at w ms i)) k) given.lawful.prices (transition.each_words k in_block)) in
    let few_units = transition.few in
    record {
      arrivals = omega (arith, arrivals, count);
      block = omega (arith, block, inside);
      some = omega (arith, units, runs);
      units = subst (λ k. q.last.1 ≤ length (body_at c.blocks.items k).units) (sym block) (omega (arith, units, runs, below));
      small = omega (arith, counted, energy, few, whole, block_small, few_units);
      enough = omega (arith, counted);
    }
