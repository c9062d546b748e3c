-- What a profile's tables count is what the programme of its run states.
use Rattle.std.proofs.Common.{◌≡◌, ◌∙◌, inl, inr, ℕ, zero, suc, ◌+◌, ◌-◌, ◌*◌, ◌/◌, ◌%◌, ◌^◌, ◌<◌, ◌≤◌, ◌==◌, Bool, true, false, ◌&&◌, ℤ, pos, ◌-ℤ◌, List, [], ◌∷◌, ◌++◌, length, map, slice_index_or, replicate, Option, None, refl, sym, ap, subst, arith, Vec, if◌then◌else◌}
use Rattle.std.specs.List.{All, sum_by}
use Rattle.std.specs.Prelude.{unsigned_abs}
use Rattle.std.specs.Global.{Global}
use Rattle.std.proofs.lemmas.List.{length-map, length-replicate}
use Rattle.std.proofs.lemmas.List.Elements.{All-append, All-push, All-replicate}
use Rattle.std.proofs.lemmas.List.Sums.{sum_by-append, sum_by-cons}
use Rattle.std.proofs.lemmas.Int.{ints}
use Rattle.std.proofs.lemmas.Nat.{mul-le}
use Rattle.rv32im.specs.Table.{OneInstruction}
use Rattle.elf_reader.specs.File.{plain_view}
use Rattle.elf_reader.specs.declared.view.ElfView.{ElfView}
use Rattle.board_config.specs.Board.{IsLawful, AreLawfulPrices, IsGrain}
use Rattle.board_config.specs.declared.board.Board.{Board}
use Rattle.board_config.specs.declared.board.Prices.{Prices}
use Rattle.object_graph.specs.declared.parts.Graph.{Graph}
use Rattle.cell_values.specs.Objects.{object_of, datum_of}
use Rattle.code_blocks.specs.Blocks.{start_of}
use Rattle.code_blocks.specs.declared.parts.Code.{Code}
use Rattle.block_splitter.specs.declared.piece.Piece.{Piece}
use Rattle.object_machine.proofs.GraphLemmas.{ends_below}
use Rattle.region_former.specs.declared.table.RegionTable.{RegionTable}
use Rattle.profile_runner.specs.declared.counts.Profile.{Profile}
use Rattle.profile_runner.specs.Transition.{Transition, transition_at}
use Rattle.profile_runner.specs.Counts.{plain_rows, row_of, IsTable, accesses_of, is_access_to}
use Rattle.list_checks.specs.Sorted.{sum_below}
use Rattle.placement_programme.specs.declared.variables.VarName.TheVariants.{StaticData}
use Rattle.placement_programme.specs.Plain.{PlainFullVar, PlainFullSide, PlainFull}
use Rattle.placement_programme.specs.Bounds.{AreWeights, value_of, IsWithinFullBounds}
use Rattle.placement_programme.specs.Rows.{data_span}
use Rattle.energy_model.specs.Energy.{Scene, steps_energy, into_price, object_rounds, start_job, fence_words, stub_energy, side_energy, nothing_taken}
use Rattle.profile_runner.proofs.CountLemmas.{count_few}
use Rattle.list_checks.proofs.SumLemmas.{sum_same}
use Rattle.energy_model.specs.Scenes.{scene_of, layout_of, AreOfSameFile}
use Rattle.placement_candidates.specs.Stated.{taken_alone, gain_alone, data_var, data_vars, AreSomePieces, static_vars, off_side, IsStaticFull}
use Rattle.energy_model.specs.Priced.{touches_price}
use Rattle.energy_model.specs.Base.{IsCounted}
use Rattle.placement_candidates.specs.Counted.{total, reads_of, writes_of, home_price, moved_price, counted_gain, counted_var, counted_vars, CountsAccesses, stub_price, start_size, counted_rows, counted_code_var, counted_static, counted_side, CanCount}
use Rattle.energy_model.proofs.SceneLemmas.{follows}
use Rattle.energy_model.proofs.EnergyLemmas.{touched, touches_are, by_regions}
use Rattle.energy_model.proofs.TakenLemmas.{one_more}
use Rattle.energy_model.proofs.CountsLemmas.{counts_code}
use Rattle.energy_model.proofs.BaseLemmas.{few_transitions, base_stated, home_small, counts_energy}
use Rattle.placement_candidates.proofs.LimitLemmas.{blocks_few, objects_few}
use Rattle.placement_candidates.proofs.SpanLemmas.{spans_small}
use Rattle.placement_candidates.proofs.PieceLemmas.{job_within, code_vars_counted, can_count_piece, pieces_few, code_gains_small, code_vars_weigh}

abbrev Given : ElfView → Board → Graph → Code → RegionTable → Profile → List Transition → Type 0
Given view board g c t q ms = AreOfSameFile view board g c t q ms

-- ---- accesses

row_total : (rows : List (List ℕ)) (height width : ℕ) (count : ℕ → ℕ → ℕ) (k : ℕ) → IsTable rows height width count → k < height → total (row_of rows k) ≡ sum_below (count k) width
row_total rows height width count k is below =
    let wide = is.widths k below in
    ap (sum_below (λ r. slice_index_or (row_of rows k) r 0)) wide
    ∙ sum_same (λ r. slice_index_or (row_of rows k) r 0) (count k) width (λ r inside. is.counts k r below inside)

reads_are : (view : ElfView) (board : Board) (g : Graph) (c : Code) (t : RegionTable) (q : Profile) (ms : List Transition) (k : ℕ) → Given view board g c t q ms → k < length g.objects.items → reads_of q k ≡ touched ms false k (length ms)
reads_are view board g c t q ms k given below =
    let starts = map start_of c.blocks.items in
    row_total (plain_rows q.reads.items) (length g.objects.items) (suc t.count) (accesses_of starts t.of_block.items ms false) k given.run.profile.reads below
    ∙ by_regions starts t.of_block.items ms t.count false k t.within

writes_are : (view : ElfView) (board : Board) (g : Graph) (c : Code) (t : RegionTable) (q : Profile) (ms : List Transition) (k : ℕ) → Given view board g c t q ms → k < length g.objects.items → writes_of q k ≡ touched ms true k (length ms)
writes_are view board g c t q ms k given below =
    let starts = map start_of c.blocks.items in
    row_total (plain_rows q.writes.items) (length g.objects.items) (suc t.count) (accesses_of starts t.of_block.items ms true) k given.run.profile.writes below
    ∙ by_regions starts t.of_block.items ms t.count true k t.within

touched_few : (ms : List Transition) (write : Bool) (k n : ℕ) → touched ms write k n ≤ n
touched_few ms write k n = count_few (λ i. is_access_to write k (transition_at ms i).access) n

pub counts_accesses : (view : ElfView) (board : Board) (g : Graph) (c : Code) (t : RegionTable) (q : Profile) (ms : List Transition) → Given view board g c t q ms → CountsAccesses g q
counts_accesses view board g c t q ms given =
    let few = objects_few (plain_view view) board g given.graph in
    let transitions = few_transitions view board g c t q ms given in
    let reads = given.run.profile.reads.height_is in
    let writes = given.run.profile.writes.height_is in
    let read_rows = length-map q.reads.items (λ (row : Vec ℕ Global). row.items) in
    let write_rows = length-map q.writes.items (λ (row : Vec ℕ Global). row.items) in
    record {
      few = omega (arith, few);
      read_rows = omega (arith, reads, read_rows);
      write_rows = omega (arith, writes, write_rows);
      reads = λ k below.
          let are = reads_are view board g c t q ms k given below in
          let at_most = touched_few ms false k (length ms) in
          omega (arith, are, at_most, transitions);
      writes = λ k below.
          let are = writes_are view board g c t q ms k given below in
          let at_most = touched_few ms true k (length ms) in
          omega (arith, are, at_most, transitions);
    }

-- ---- gains

-- what an object saves, by what is counted of its accesses
gain_parts : (base with_it slow fast stub job : ℕ) → with_it + slow ≡ base + fast → pos (stub + base) -ℤ pos (job + stub + with_it) ≡ pos slow -ℤ pos (fast + job)
gain_parts base with_it slow fast stub job sum = omega (arith, ints, sum)

-- a start stub with no job, and with one
pub stub_empty : (w : Scene) → stub_price w.board ≡ stub_energy w nothing_taken
stub_empty w =
    let none : sum_by (start_job w) [] ≡ 0 = refl in
    omega (arith, none)

stub_alone : (w : Scene) (k : ℕ) → into_price w.board.prices (object_rounds (object_of w.graph k)) + stub_price w.board ≡ stub_energy w (taken_alone (StaticData k))
stub_alone w k =
    let none : sum_by (start_job w) [] ≡ 0 = refl in
    let one : sum_by (start_job w) (StaticData k ∷ []) ≡ start_job w (StaticData k) + sum_by (start_job w) [] = sum_by-cons (start_job w) (StaticData k) [] in
    omega (arith, none, one)

gain_shape : (a b c d : ℕ) → a ≡ c → b ≡ d → pos a -ℤ pos b ≡ pos c -ℤ pos d
gain_shape a b c d first second = ap (λ n. pos n -ℤ pos b) first ∙ ap (λ n. pos c -ℤ pos n) second

pub gain_counted : OneInstruction → (view : ElfView) (board : Board) (g : Graph) (c : Code) (t : RegionTable) (q : Profile) (ms : List Transition) (k : ℕ) → Given view board g c t q ms → k < length g.objects.items → counted_gain board.prices q g k ≡ gain_alone (scene_of g c t board) ms (StaticData k)
gain_counted one view board g c t q ms k given below =
    let w = scene_of g c t board in
    let prices = board.prices in
    let all = follows one view board g c t q ms given in
    let reads = reads_are view board g c t q ms k given below in
    let writes = writes_are view board g c t q ms k given below in
    let slow = touches_are w ms false k in
    let fast = touches_are w ms true k in
    let sum = one_more w (StaticData k) [] ms all (tt, tt) in
    let home : home_price prices (reads_of q k) (writes_of q k) ≡ touches_price w ms false k =
    ap (λ n. n * prices.main_read + writes_of q k * prices.main_write) reads
    ∙ (ap (λ n. touched ms false k (length ms) * prices.main_read + n * prices.main_write) writes ∙ sym slow) in
    let spm : reads_of q k * prices.spm_read + writes_of q k * prices.spm_write ≡ touches_price w ms true k =
    ap (λ n. n * prices.spm_read + writes_of q k * prices.spm_write) reads
    ∙ (ap (λ n. touched ms false k (length ms) * prices.spm_read + n * prices.spm_write) writes ∙ sym fast) in
    let job = into_price prices (object_rounds (object_of g k)) in
    let parts = gain_parts (steps_energy w nothing_taken ms) (steps_energy w (taken_alone (StaticData k)) ms) (touches_price w ms false k) (touches_price w ms true k) (stub_price board) job sum in
    ap (λ n. pos n -ℤ pos (moved_price prices (reads_of q k) (writes_of q k) (object_of g k))) home
    ∙ (ap (λ n. pos (touches_price w ms false k) -ℤ pos (n + job)) spm
    ∙ (sym parts
    ∙ gain_shape (stub_price board + steps_energy w nothing_taken ms) (job + stub_price board + steps_energy w (taken_alone (StaticData k)) ms)
    (side_energy w nothing_taken ms) (side_energy w (taken_alone (StaticData k)) ms)
    (ap (λ n. n + steps_energy w nothing_taken ms) (stub_empty w)) (ap (λ n. n + steps_energy w (taken_alone (StaticData k)) ms) (stub_alone w k))))

vars_stated : OneInstruction → (view : ElfView) (board : Board) (g : Graph) (c : Code) (t : RegionTable) (q : Profile) (ms : List Transition) (n : ℕ) → Given view board g c t q ms → n ≤ length g.objects.items → counted_vars board.prices q g board.grain n ≡ data_vars (scene_of g c t board) (layout_of g c t board) ms n
vars_stated one view board g c t q ms zero given le = refl
vars_stated one view board g c t q ms (suc n) given le =
    let w = scene_of g c t board in
    let earlier = vars_stated one view board g c t q ms n given (omega (arith, le)) in
    let gain = gain_counted one view board g c t q ms n given (omega (arith, le)) in
    let here : counted_var board.prices q g board.grain n ≡ data_var w (layout_of g c t board) ms n =
    ap (λ (z : ℤ). record { name = StaticData n; gain = z; weights = (0, data_span board.grain (datum_of g n)) ∷ (1, 44) ∷ [] }) gain in
    ap (λ (vs : List PlainFullVar). vs ++ counted_var board.prices q g board.grain n ∷ []) earlier
    ∙ ap (λ (v : PlainFullVar). data_vars w (layout_of g c t board) ms n ++ v ∷ []) here

side_path : (a b : ℕ) (rows : List ℕ) (vs us : List PlainFullVar) → a ≡ b → vs ≡ us → ◌≡◌ {A = PlainFullSide} (record { fixed = a; rows = rows; vars = vs }) (record { fixed = b; rows = rows; vars = us })
side_path a b rows vs us first second = λ i. record { fixed = first i; rows = rows; vars = second i }

statics_stated : OneInstruction → (view : ElfView) (board : Board) (g : Graph) (c : Code) (t : RegionTable) (q : Profile) (pieces : List Piece) (ms : List Transition) → Given view board g c t q ms → AreSomePieces c g pieces → counted_static board q c g pieces ≡ static_vars (scene_of g c t board) (layout_of g c t board) pieces ms
statics_stated one view board g c t q pieces ms given are =
    let objects = vars_stated one view board g c t q ms (length g.objects.items) given (omega arith) in
    let code = code_vars_counted one view board g c t q ms pieces given are.each in
    λ i. objects i ++ code i

side_stated : OneInstruction → (view : ElfView) (board : Board) (g : Graph) (c : Code) (t : RegionTable) (q : Profile) (pieces : List Piece) (ms : List Transition) → Given view board g c t q ms → AreSomePieces c g pieces → counted_side board q c g pieces ≡ off_side (scene_of g c t board) (layout_of g c t board) pieces ms
side_stated one view board g c t q pieces ms given are =
    let stub = stub_empty (scene_of g c t board) in
    side_path (stub_price board) (stub_energy (scene_of g c t board) nothing_taken) (counted_rows board (length c.blocks.items)) (counted_static board q c g pieces) (static_vars (scene_of g c t board) (layout_of g c t board) pieces ms) stub
    (statics_stated one view board g c t q pieces ms given are)

-- ---- bounds

abs_difference : (a b bound : ℕ) → a ≤ bound → b ≤ bound → unsigned_abs (pos a -ℤ pos b) ≤ bound
abs_difference a b bound first second = omega (arith, ints, first, second)

by_flag : (b : Bool) → (if b then 1 else 0) ≤ 1
by_flag true = omega arith
by_flag false = omega arith

fence_small : (board : Board) → fence_words board ≤ 1
fence_small board = by_flag board.fence_i

pub stub_small : (board : Board) → IsLawful board → stub_price board ≤ 60000
stub_small board lawful =
    let words = fence_small board in
    mul-le (5 + fence_words board) board.prices.main_fetch 6 10000 (omega (arith, words)) lawful.prices.main_fetch

pub rounds_few : (a b : Bool) (size : ℕ) → (if a && b then size / 4 else size) ≤ size
rounds_few true true size = omega arith
rounds_few true false size = omega arith
rounds_few false b size = omega arith

pub accesses_small : (reads writes read write : ℕ) → reads ≤ 1000000000 → writes ≤ 1000000000 → read ≤ 10000 → write ≤ 10000 → reads * read + writes * write ≤ 20000000000000
accesses_small reads writes read write first second third fourth =
    let left = mul-le reads read 1000000000 10000 first third in
    let right = mul-le writes write 1000000000 10000 second fourth in
    omega (arith, left, right)

pub job_small : (prices : Prices) (n : ℕ) → AreLawfulPrices prices → n ≤ 4294967296 → into_price prices n ≤ 400000000000000
job_small prices n lawful few =
    let within = job_within prices n 4294967296 lawful few in omega (arith, within)

pub gain_small : (view : ElfView) (board : Board) (g : Graph) (c : Code) (t : RegionTable) (q : Profile) (ms : List Transition) (k : ℕ) → Given view board g c t q ms → k < length g.objects.items → unsigned_abs (counted_gain board.prices q g k) ≤ 500000000000000
gain_small view board g c t q ms k given below =
    let counts = counts_accesses view board g c t q ms given in
    let reads = counts.reads k below in
    let writes = counts.writes k below in
    let prices = given.lawful.prices in
    let o = object_of g k in
    let ends = ends_below (plain_view view) board g given.graph k in
    let rounds = rounds_few (o.home % 4 == 0) (o.size % 4 == 0) o.size in
    let job = job_small board.prices (object_rounds o) prices (omega (arith, rounds, ends)) in
    let home = accesses_small (reads_of q k) (writes_of q k) board.prices.main_read board.prices.main_write reads writes prices.main_read prices.main_write in
    let moved = accesses_small (reads_of q k) (writes_of q k) board.prices.spm_read board.prices.spm_write reads writes prices.spm_read prices.spm_write in
    abs_difference (home_price board.prices (reads_of q k) (writes_of q k)) (moved_price board.prices (reads_of q k) (writes_of q k) o) 500000000000000 (omega (arith, home)) (omega (arith, moved, job))

gains_small : (view : ElfView) (board : Board) (g : Graph) (c : Code) (t : RegionTable) (q : Profile) (ms : List Transition) (n : ℕ) → Given view board g c t q ms → n ≤ length g.objects.items → sum_by (λ v. unsigned_abs v.gain) (counted_vars board.prices q g board.grain n) ≤ n * 500000000000000
gains_small view board g c t q ms zero given le = omega arith
gains_small view board g c t q ms (suc n) given le =
    let earlier = gains_small view board g c t q ms n given (omega (arith, le)) in
    let here = gain_small view board g c t q ms n given (omega (arith, le)) in
    let sum = sum_by-append (λ (v : PlainFullVar). unsigned_abs v.gain) (counted_vars board.prices q g board.grain n) (counted_var board.prices q g board.grain n ∷ []) in
    omega (arith, earlier, here, sum)

two_small : (n : ℕ) → n < 2 ^ 32 → All (λ w. value_of w < 2 ^ 32) ((0, n) ∷ (1, 44) ∷ [])
two_small n small zero d below = small
two_small n small (suc zero) d below = omega arith
two_small n small (suc (suc k)) d below = absurd (omega (arith, below))

first_all : (P : ℕ → Type 0) (x : ℕ) (xs : List ℕ) → P x → All P xs → All P (x ∷ xs)
first_all P x xs here rest zero d below = here
first_all P x xs here rest (suc k) d below = rest k d (omega (arith, below))

vars_weigh : (board : Board) (g : Graph) (q : Profile) (rows n : ℕ) → 2 ≤ rows → ((k : ℕ) → k < n → data_span board.grain (datum_of g k) < 2 ^ 32) → All (λ v. AreWeights rows v.weights) (counted_vars board.prices q g board.grain n)
vars_weigh board g q rows zero few spans = λ k d below. absurd (omega (arith, below))
vars_weigh board g q rows (suc n) few spans =
    let small = spans n (omega arith) in
    All-push (λ (v : PlainFullVar). AreWeights rows v.weights) (counted_vars board.prices q g board.grain n) (counted_var board.prices q g board.grain n)
    (vars_weigh board g q rows n few (λ k below. spans k (omega (arith, below))))
    (record {
      ascending = (omega arith, omega (arith, few), (omega arith, omega (arith, few), tt));
      small = two_small (data_span board.grain (datum_of g n)) small;
    })

rows_small : (board : Board) (blocks : ℕ) → IsLawful board → All (λ n. n < 2 ^ 32) (counted_rows board blocks)
rows_small board blocks lawful =
    let spm = lawful.spm.most_size in
    let patch = lawful.patch.most_size in
    first_all (λ n. n < 2 ^ 32) board.spm.size ((board.patch.size - start_size board) ∷ replicate blocks 1) (omega (arith, spm))
    (first_all (λ n. n < 2 ^ 32) (board.patch.size - start_size board) (replicate blocks 1) (omega (arith, patch))
    (All-replicate (λ n. n < 2 ^ 32) blocks 1 (omega arith)))

all_gains_small : OneInstruction → (view : ElfView) (board : Board) (g : Graph) (c : Code) (t : RegionTable) (q : Profile) (pieces : List Piece) (ms : List Transition) → Given view board g c t q ms → AreSomePieces c g pieces → sum_by (λ v. unsigned_abs v.gain) (counted_static board q c g pieces) < 2 ^ 90
all_gains_small one view board g c t q pieces ms given are =
    let objects = gains_small view board g c t q ms (length g.objects.items) given (omega arith) in
    let few = objects_few (plain_view view) board g given.graph in
    let blocks = blocks_few view c given.read given.code given.no_code_fault in
    let counts = counts_code one view board g c t q ms given in
    let code = code_gains_small c g q board.prices board.grain pieces counts given.lawful.prices (can_count_piece view board g c t q ms pieces given are) in
    let count = pieces_few c g pieces blocks counts.filled are in
    let sum = sum_by-append (λ (v : PlainFullVar). unsigned_abs v.gain) (counted_vars board.prices q g board.grain (length g.objects.items)) (map (counted_code_var board.prices q c g board.grain) pieces) in
    omega (arith, objects, few, code, count, sum)

side_within : OneInstruction → (view : ElfView) (board : Board) (g : Graph) (c : Code) (t : RegionTable) (q : Profile) (pieces : List Piece) (ms : List Transition) → Given view board g c t q ms → AreSomePieces c g pieces → IsWithinFullBounds (counted_side board q c g pieces)
side_within one view board g c t q pieces ms given are =
    let stub = stub_small board given.lawful in
    let gains = all_gains_small one view board g c t q pieces ms given are in
    let blocks = blocks_few view c given.read given.code given.no_code_fault in
    let ones = length-replicate {A = ℕ} (length c.blocks.items) 1 in
    let rows = length (counted_rows board (length c.blocks.items)) in
    record {
      fixed = omega (arith, stub);
      gains = omega (arith, gains);
      few_rows = omega (arith, ones, blocks);
      capacities = rows_small board (length c.blocks.items) given.lawful;
      weights = All-append (λ (v : PlainFullVar). AreWeights rows v.weights) (counted_vars board.prices q g board.grain (length g.objects.items)) (map (counted_code_var board.prices q c g board.grain) pieces)
          (vars_weigh board g q rows (length g.objects.items) (omega (arith, ones)) (spans_small view board g given.read given.lawful given.graph))
          (code_vars_weigh c g q board.prices board.grain rows pieces given.lawful.grain (omega (arith, ones)) (can_count_piece view board g c t q ms pieces given are));
    }

pub grain_some : (n : ℕ) → IsGrain n → 0 < n
grain_some n (inl is) = omega (arith, is)
grain_some n (inr (inl is)) = omega (arith, is)
grain_some n (inr (inr is)) = omega (arith, is)

pub can_count : OneInstruction → (view : ElfView) (board : Board) (g : Graph) (c : Code) (t : RegionTable) (q : Profile) (pieces : List Piece) (ms : List Transition) → AreOfSameFile view board g c t q ms → AreSomePieces c g pieces → CanCount g c pieces board q
can_count one view board g c t q pieces ms given are =
    let small = home_small one view board g c t q ms given in
    let few = few_transitions view board g c t q ms given in
    record {
      energy = counts_energy one view board g c t q ms given;
      accesses = counts_accesses view board g c t q ms given;
      code = counts_code one view board g c t q ms given;
      countable = can_count_piece view board g c t q ms pieces given are;
      patch = given.patch;
      grain = grain_some board.grain given.lawful.grain;
      base = λ energy counted.
          let is = base_stated one view board g c t q ms energy given counted in
          omega (arith, is, small, few);
      side = side_within one view board g c t q pieces ms given are;
    }

full_path : (a b : ℕ) (s u : PlainFullSide) (o : Option PlainFullSide) → a ≡ b → s ≡ u → o ≡ None → ◌≡◌ {A = PlainFull} (record { base = a; off = s; on = o }) (record { base = b; off = u; on = None })
full_path a b s u o first second third = λ i. record { base = first i; off = second i; on = third i }

-- a programme of what the tables count is that which the run states
pub full_stated : OneInstruction → (view : ElfView) (board : Board) (g : Graph) (c : Code) (t : RegionTable) (q : Profile) (pieces : List Piece) (ms : List Transition) (f : PlainFull) → AreOfSameFile view board g c t q ms → AreSomePieces c g pieces → IsCounted board.prices c.blocks.items q f.base → f.off ≡ counted_side board q c g pieces → f.on ≡ None → IsStaticFull (scene_of g c t board) (layout_of g c t board) pieces ms f
full_stated one view board g c t q pieces ms f given are counted off on =
    let base = base_stated one view board g c t q ms f.base given counted in
    let small = home_small one view board g c t q ms given in
    let few = few_transitions view board g c t q ms given in
    let stub = stub_small board given.lawful in
    let gains = all_gains_small one view board g c t q pieces ms given are in
    let fixed : f.off.fixed ≡ stub_price board = ap (λ (s : PlainFullSide). s.fixed) off in
    record {
      is = full_path f.base (steps_energy (scene_of g c t board) nothing_taken ms) f.off (off_side (scene_of g c t board) (layout_of g c t board) pieces ms) f.on base (off ∙ side_stated one view board g c t q pieces ms given are) on;
      base_small = omega (arith, base, small, few);
      off_small = record {
        fixed = omega (arith, fixed, stub);
        gains = subst (λ (s : PlainFullSide). sum_by (λ v. unsigned_abs v.gain) s.vars < 2 ^ 90) (sym off) gains;
      };
    }
