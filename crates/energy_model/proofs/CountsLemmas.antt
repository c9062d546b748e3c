-- The tables of a profile can be counted, and what they count of a piece is what the run paid for it.
use Rattle.std.proofs.Common.{◌≡◌, ◌∙◌, ℕ, zero, suc, ◌+◌, ◌-◌, ◌*◌, ◌<◌, ◌≤◌, ◌==◌, Bool, true, false, not, ◌&&◌, List, length, refl, sym, ap, arith, if◌then◌else◌}
use Rattle.std.proofs.lemmas.List.{length-map}
use Rattle.list_checks.proofs.SumLemmas.{sum_same}
use Rattle.list_checks.specs.Sorted.{sum_below}
use Rattle.rv32im.specs.Table.{OneInstruction}
use Rattle.elf_reader.specs.File.{plain_view}
use Rattle.elf_reader.specs.declared.view.ElfView.{ElfView}
use Rattle.board_config.specs.declared.board.Board.{Board}
use Rattle.object_graph.specs.declared.parts.Graph.{Graph}
use Rattle.code_blocks.specs.Blocks.{start_of}
use Rattle.code_blocks.specs.declared.ends.End.{End}
use Rattle.code_blocks.specs.declared.ends.End.TheVariants as end
use Rattle.code_blocks.specs.declared.parts.Code.{Code}
use Rattle.object_machine.specs.Program.{program_of}
use Rattle.region_former.specs.declared.table.RegionTable.{RegionTable}
use Rattle.profile_runner.specs.declared.counts.Profile.{Profile}
use Rattle.profile_runner.specs.Transition.{Transition, is_going, transition_at}
use Rattle.placement_programme.specs.declared.variables.VarName.TheVariants.{StaticCode}
use Rattle.block_splitter.specs.declared.block_range.BlockRange.{BlockRange}
use Rattle.block_splitter.specs.declared.unit_kind.UnitKind.{UnitKind}
use Rattle.block_splitter.specs.declared.unit_kind.UnitKind.TheVariants.{Plain, Upper, Branch, Jump, Call, Tail, Indirect, Linking, Halt}
use Rattle.block_splitter.specs.Forms.{Body, is_last, is_site, kind_of, copied_words, copy_size, fall_out_words}
use Rattle.energy_model.specs.Energy.{Scene, block_in, block_at, unit_number, is_inside, words_in_piece}
use Rattle.energy_model.specs.Scenes.{scene_of, AreOfSameFile}
use Rattle.energy_model.specs.Priced.{range}
use Rattle.energy_model.specs.Copied.{arrivals_in, home_words, copy_words_run, came_in}
use Rattle.energy_model.specs.Counts.{CountsCode}
use Rattle.energy_model.proofs.StepLemmas.{first_transition, end_of_run}
use Rattle.energy_model.proofs.FollowLemmas.{some_start}
use Rattle.energy_model.proofs.SceneLemmas.{unit_of_transition, Follows, follows}
use Rattle.energy_model.proofs.SumLemmas.{sum_small, sum_two, arrived}
use Rattle.energy_model.proofs.TakenLemmas.{fetched_at_home, fetched_in_copy, comes_in, is_held, home_fetches, copy_fetches, slow_sum, fast_sum}
use Rattle.energy_model.proofs.WordLemmas.{IsCountedRun, began, words_ran, block_counted}
use Rattle.energy_model.proofs.CopyLemmas.{home_counted, copy_counted}
use Rattle.energy_model.proofs.ArrivalLemmas.{outside_at, arrivals_enough, few_coming, few_pending, came_counted, stays_few, arrivals_few}
use Rattle.energy_model.proofs.BaseLemmas.{last_of, few_transitions, has_transitions, counts_energy}

abbrev Given : ElfView → Board → Graph → Code → RegionTable → Profile → List Transition → Type 0
Given view board g c t q ms = AreOfSameFile view board g c t q ms

-- ---- the run that the tables count

pub counted_run : OneInstruction → (view : ElfView) (board : Board) (g : Graph) (c : Code) (t : RegionTable) (q : Profile) (ms : List Transition) → Given view board g c t q ms → IsCountedRun c g t board q ms
counted_run one view board g c t q ms given =
    let p = program_of (plain_view view) board g in
    let r = given.run in
    let tables = r.profile in
    let some = has_transitions view board g c t q ms given in
    let count = length-map c.blocks.items start_of in
    let first = first_transition p board.steps r.from r.to ms r.run some in
    record {
      all = follows one view board g c t q ms given;
      last = last_of (length ms) some;
      few = few_transitions view board g c t q ms given;
      goes = (end_of_run p board.steps r.from r.to ms r.run).goes_on (length ms - 1) (last_of (length ms) some) ∙ ap is_going (sym tables.outcome_is);
      arrivals = λ b below. tables.arrivals.each b (omega (arith, count, below));
      block = tables.last_block;
      units = tables.last_units;
      edges = tables.edges;
      entry = sym first.at ∙ (r.entry ∙ sym given.code.entry);
      ascending = given.code.ascending;
    }

-- ---- bounds

kind_small : (kind : UnitKind) → copy_size (λ a. true) kind ≤ 4
kind_small Plain = omega arith
kind_small (Upper rd value) = omega arith
kind_small (Branch kind rs1 rs2 target) = omega arith
kind_small (Jump target) = omega arith
kind_small (Call target back link) = omega arith
kind_small (Tail target register) = omega arith
kind_small Indirect = omega arith
kind_small (Linking back link base imm) = omega arith
kind_small Halt = omega arith

choose_small : (b : Bool) (x y most : ℕ) → x ≤ most → y ≤ most → (if b then x else y) ≤ most
choose_small true x y most first second = first
choose_small false x y most first second = second

copied_small : (inside : ℕ → Bool) (next : ℕ) (kind : UnitKind) → copied_words inside next kind ≤ 4
copied_small inside next Plain = omega arith
copied_small inside next (Upper rd value) = omega arith
copied_small inside next (Branch kind rs1 rs2 target) = choose_small ((next == target) && not (inside target)) 3 1 4 (omega arith) (omega arith)
copied_small inside next (Jump target) = choose_small (inside target) 1 2 4 (omega arith) (omega arith)
copied_small inside next (Call target back link) = omega arith
copied_small inside next (Tail target register) = omega arith
copied_small inside next Indirect = omega arith
copied_small inside next (Linking back link base imm) = omega arith
copied_small inside next Halt = omega arith

fall_small : (inside : ℕ → Bool) (next : ℕ) (e : End) → fall_out_words inside next e ≤ 2
fall_small inside next (end.Fall behind) = choose_small (inside behind) 0 2 2 (omega arith) (omega arith)
fall_small inside next (end.Branch target behind) = choose_small _ 0 2 2 (omega arith) (omega arith)
fall_small inside next (end.Jump target) = omega arith
fall_small inside next (end.Call target back link) = omega arith
fall_small inside next (end.Tail target) = omega arith
fall_small inside next (end.Indirect back) = omega arith
fall_small inside next end.Stop = omega arith

piece_small : (w : Scene) (p : BlockRange) (b : Body) (k next : ℕ) → words_in_piece w p b k next ≤ 6
piece_small w p b k next =
    let words = copied_small (is_inside w p) next (kind_of (is_site w.graph) b k) in
    let fall = choose_small (is_last b k) (fall_out_words (is_inside w p) next b.end) 0 2 (fall_small (is_inside w p) next b.end) (omega arith) in
    omega (arith, words, fall)

ran_small : (w : Scene) (ms : List Transition) (copied : Bool) (i : ℕ) → Follows w ms → i < length ms → words_ran w ms copied i ≤ 4
ran_small w ms true i all below =
    choose_small (transition_at ms i).goes_on (copy_size (λ a. true) (kind_of (is_site w.graph) (block_in w (block_at w ms i)) (unit_number w ms i))) 1 4 (kind_small (kind_of (is_site w.graph) (block_in w (block_at w ms i)) (unit_number w ms i))) (omega arith)
ran_small w ms false i all below =
    let words = (all.each i below).words in
    choose_small (transition_at ms i).goes_on (unit_of_transition w ms i).words 1 4 (omega (arith, words)) (omega arith)

held_sum_small : (test : ℕ → Bool) (f : ℕ → ℕ) (most n : ℕ) → ((i : ℕ) → i < n → f i ≤ most) → sum_below (λ i. if test i then f i else 0) n ≤ n * most
held_sum_small test f most n each = sum_small (λ i. if test i then f i else 0) most n (λ i below. choose_small (test i) (f i) 0 most (each i below) (omega arith))

pub counts_code : OneInstruction → (view : ElfView) (board : Board) (g : Graph) (c : Code) (t : RegionTable) (q : Profile) (ms : List Transition) → Given view board g c t q ms → CountsCode c g q
counts_code one view board g c t q ms given =
    let w = scene_of g c t board in
    let run = counted_run one view board g c t q ms given in
    let energy = counts_energy one view board g c t q ms given in
    let few = run.few in
    let count = length-map c.blocks.items start_of in
    record {
      graph = (plain_view view, board, given.graph);
      ascending = given.code.ascending;
      filled = λ b below. some_start view c b given.read given.code below;
      arrivals = energy.arrivals;
      block = energy.block;
      begun = begun_last c g t board q ms run energy.block;
      some = energy.some;
      units = energy.units;
      ordered = run.edges.ordered;
      within = λ k d below. let (from, to) = run.edges.within k d below in (omega (arith, from, count), omega (arith, to, count));
      small = λ copied b below.
          let is = block_counted c g t board q ms copied b run below in
          let small = held_sum_small (λ i. block_at w ms i == b) (words_ran w ms copied) 4 (length ms) (λ i inside. ran_small w ms copied i run.all inside) in
          omega (arith, is, small, few);
      few_come = λ b below. let come = few_coming c g t board q ms b run below in omega (arith, come, few);
      enough = λ b below. arrivals_enough c g t board q ms b run below;
      home = λ p.
          let is = home_counted c g t board q ms p run in
          let small = held_sum_small (is_held w p ms) (fetched_at_home w ms) 4 (length ms) (λ i below. ran_small w ms false i run.all below) in
          omega (arith, is, small, few);
      copies = λ p.
          let is = copy_counted c g t board q ms p run in
          let small = held_sum_small (is_held w p ms) (fetched_in_copy w p ms) 6 (length ms) (λ i below.
          choose_small (transition_at ms i).goes_on (words_in_piece w p (block_in w (block_at w ms i)) (unit_number w ms i) (transition_at ms i).next) 1 6 (piece_small w p (block_in w (block_at w ms i)) (unit_number w ms i) (transition_at ms i).next) (omega arith)) in
          omega (arith, is, small, few);
      arrived = λ p. let small = arrivals_few c g t board q ms p run in omega (arith, small, few);
      stays = λ p. stays_few c g t board q ms p run;
      few_pending = λ p. let small = few_pending c g t board q ms p run in omega (arith, small);
    }
  where
    begun_last : (c : Code) (g : Graph) (t : RegionTable) (board : Board) (q : Profile) (ms : List Transition) (run : IsCountedRun c g t board q ms) → q.last.0 < length c.blocks.items → 0 < arrivals_in q q.last.0
    begun_last c g t board q ms run below =
        let w = scene_of g c t board in
        let i = length ms - 1 in
        let last = run.last in
        let begun = began w ms i run.all (omega (arith, last)) in
        let count = run.arrivals q.last.0 below in
        let same : arrived w ms (length ms) q.last.0 ≡ arrived w ms (suc i) (block_at w ms i) = ap (λ n. arrived w ms n q.last.0) last ∙ ap (arrived w ms (suc i)) run.block in
        omega (arith, begun, count, same)

-- ---- prices

times_if : (test : Bool) (n x : ℕ) → (if test then n * x else 0) ≡ (if test then n else 0) * x
times_if true n x = refl
times_if false n x = omega arith

pub sum_times : (f : ℕ → ℕ) (x n : ℕ) → sum_below (λ i. f i * x) n ≡ sum_below f n * x
sum_times f x zero = omega arith
sum_times f x (suc n) =
    let earlier = sum_times f x n in
    let times : (sum_below f n + f n) * x ≡ sum_below f n * x + f n * x = grind arith in
    omega (arith, earlier, times)

-- at home
pub slow_counted : (c : Code) (g : Graph) (t : RegionTable) (board : Board) (q : Profile) (ms : List Transition) (first last : ℕ) → IsCountedRun c g t board q ms → slow_sum (scene_of g c t board) ms (StaticCode first last) ≡ home_words c g q (range first last) * board.prices.main_fetch
slow_counted c g t board q ms first last run =
    let w = scene_of g c t board in
    let p = range first last in
    sum_same (λ i. if is_held w p ms i then home_fetches w p ms i else 0) (λ i. (if is_held w p ms i then fetched_at_home w ms i else 0) * board.prices.main_fetch) (length ms)
    (λ i below. times_if (is_held w p ms i) (fetched_at_home w ms i) board.prices.main_fetch)
    ∙ (sum_times (λ i. if is_held w p ms i then fetched_at_home w ms i else 0) board.prices.main_fetch (length ms)
    ∙ ap (λ n. n * board.prices.main_fetch) (sym (home_counted c g t board q ms p run)))

copy_term : (test comes : Bool) (n x y : ℕ) → (if test then n * x + (if comes then y else 0) else 0) ≡ (if test then n else 0) * x + (if test then (if comes then 1 else 0) else 0) * y
copy_term true true n x y = omega arith
copy_term true false n x y = omega arith
copy_term false comes n x y = omega arith

-- copied
pub fast_counted : (c : Code) (g : Graph) (t : RegionTable) (board : Board) (q : Profile) (ms : List Transition) (first last : ℕ) → IsCountedRun c g t board q ms → fast_sum (scene_of g c t board) ms (StaticCode first last) ≡ copy_words_run c g q (range first last) * board.prices.spm_fetch + came_in c q (range first last) * (3 * board.prices.main_fetch)
fast_counted c g t board q ms first last run =
    let w = scene_of g c t board in
    let p = range first last in
    let words = λ (i : ℕ). if is_held w p ms i then fetched_in_copy w p ms i else 0 in
    let each = sum_same (λ i. if is_held w p ms i then copy_fetches w p ms i else 0) (λ i. words i * board.prices.spm_fetch + outside_at w p ms i * (3 * board.prices.main_fetch)) (length ms)
    (λ i below. copy_term (is_held w p ms i) (comes_in w p ms i) (fetched_in_copy w p ms i) board.prices.spm_fetch (3 * board.prices.main_fetch)) in
    let two = sum_two (λ i. words i * board.prices.spm_fetch) (λ i. outside_at w p ms i * (3 * board.prices.main_fetch)) (length ms) in
    let fetches = sum_times words board.prices.spm_fetch (length ms) ∙ ap (λ n. n * board.prices.spm_fetch) (sym (copy_counted c g t board q ms p run)) in
    let pads = sum_times (outside_at w p ms) (3 * board.prices.main_fetch) (length ms) ∙ ap (λ n. n * (3 * board.prices.main_fetch)) (sym (came_counted c g t board q ms p run)) in
    omega (arith, each, two, fetches, pads)
