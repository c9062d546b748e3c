-- Pieces of code: what they save is counted, they are few, and they weigh little.
use Rattle.std.proofs.Common.{◌≡◌, ◌∙◌, inl, inr, ℕ, zero, suc, ◌+◌, ◌-◌, ◌*◌, ◌/◌, ◌^◌, ◌<◌, ◌≤◌, nat_le, Bool, true, false, not, ◌&&◌, pos, ◌-ℤ◌, List, [], ◌∷◌, ◌++◌, length, map, take, slice_index_or, refl, sym, ap, subst, arith, if◌then◌else◌, length-append}
use Rattle.std.specs.List.{All, filter, sum_by}
use Rattle.std.specs.Prelude.{unsigned_abs}
use Rattle.std.proofs.lemmas.Bool.{cases_lt}
use Rattle.std.proofs.lemmas.Bool.Decides.{nat_tests}
use Rattle.std.proofs.lemmas.List.{length-map, get_or-map, map-append, take_more}
use Rattle.std.proofs.lemmas.List.Filters.{length-filter_both}
use Rattle.std.proofs.lemmas.List.Sums.{sum_by-cons}
use Rattle.std.proofs.lemmas.Int.{ints}
use Rattle.std.proofs.lemmas.Nat.{mul-le}
use Rattle.list_checks.specs.Sorted.{collected, sum_below}
use Rattle.list_checks.proofs.SumLemmas.{sum_rises}
use Rattle.list_checks.proofs.TestLemmas.{both}
use Rattle.rv32im.specs.Table.{OneInstruction}
use Rattle.elf_reader.specs.declared.view.ElfView.{ElfView}
use Rattle.board_config.specs.Board.{AreLawfulPrices, IsGrain}
use Rattle.board_config.specs.declared.board.Board.{Board}
use Rattle.board_config.specs.declared.board.Prices.{Prices}
use Rattle.object_graph.specs.declared.parts.Graph.{Graph}
use Rattle.code_blocks.specs.Blocks.{start_of}
use Rattle.code_blocks.specs.Numbers.{ending_of, end_at}
use Rattle.code_blocks.specs.declared.ends.End.TheVariants.{Stop}
use Rattle.code_blocks.specs.declared.parts.Block.{Block}
use Rattle.code_blocks.specs.declared.parts.Code.{Code}
use Rattle.region_former.specs.declared.table.RegionTable.{RegionTable}
use Rattle.profile_runner.specs.declared.counts.Profile.{Profile}
use Rattle.profile_runner.specs.Transition.{Transition}
use Rattle.placement_programme.specs.declared.variables.VarName.TheVariants.{StaticCode}
use Rattle.placement_programme.specs.Plain.{PlainFullVar}
use Rattle.placement_programme.specs.Bounds.{AscendWithin, AreWeights, row_of, value_of}
use Rattle.placement_programme.specs.Rows.{Layout, static_code, rounded_up, in_rows, off_weights}
use Rattle.block_splitter.specs.declared.block_range.BlockRange.{BlockRange}
use Rattle.block_splitter.specs.declared.piece.Piece.{Piece}
use Rattle.block_splitter.specs.Forms.{Body, body_of, no_body, body_at, is_site, kind_of, holds_block, begins_in, copy_size, block_size, copy_words}
use Rattle.block_splitter.specs.Pieces.{range_of, is_entry, IsPiece, IsRange, ComesBefore}
use Rattle.block_splitter.proofs.CopySizeLemmas.{some_word}
use Rattle.energy_model.specs.Energy.{Scene, steps_energy, stub_energy, nothing_taken, start_job, into_price, may_stay}
use Rattle.energy_model.specs.Scenes.{scene_of, layout_of, AreOfSameFile}
use Rattle.energy_model.specs.Copied.{sum_in, home_words, copy_words_run, pending, pending_inside, came_in}
use Rattle.energy_model.specs.Counts.{CountsCode, LeadsToBlocks}
use Rattle.energy_model.proofs.SceneLemmas.{follows}
use Rattle.energy_model.proofs.TakenLemmas.{slow_sum, fast_sum, one_more}
use Rattle.energy_model.proofs.CountsLemmas.{counted_run, slow_counted, fast_counted}
use Rattle.placement_candidates.specs.Stated.{taken_alone, gain_alone, is_border, displaced_at, part_of, code_var, AreSomePieces}
use Rattle.placement_candidates.specs.Counted.{copied_price, counted_code_gain, piece_weights, counted_code_var, CanCountPiece}
use Rattle.placement_candidates.proofs.ChoiceLemmas.{piece_range}
use Rattle.placement_candidates.proofs.LimitLemmas.{blocks_few}

abbrev Given : ElfView → Board → Graph → Code → RegionTable → Profile → List Transition → Type 0
Given view board g c t q ms = AreOfSameFile view board g c t q ms

-- ---- gains

gain_parts : (base with_it slow fast stub all_stub none_stub job : ℕ) → with_it + slow ≡ base + fast → all_stub ≡ job + none_stub → pos (none_stub + base) -ℤ pos (all_stub + with_it) ≡ pos slow -ℤ pos (fast + job)
gain_parts base with_it slow fast stub all_stub none_stub job sum stubs = omega (arith, ints, sum, stubs)

pub quarter : (bytes words : ℕ) → bytes ≡ 4 * words → bytes / 4 ≡ words
quarter bytes words is = omega (arith, is)

pub code_gain_counted : OneInstruction → (view : ElfView) (board : Board) (g : Graph) (c : Code) (t : RegionTable) (q : Profile) (ms : List Transition) (p : Piece) → Given view board g c t q ms → IsPiece c g p → counted_code_gain board.prices q c g p ≡ gain_alone (scene_of g c t board) ms (StaticCode p.first p.last)
code_gain_counted one view board g c t q ms p given is =
    let w = scene_of g c t board in
    let run = counted_run one view board g c t q ms given in
    let all = follows one view board g c t q ms given in
    let name = StaticCode p.first p.last in
    let rounds : p.bytes / 4 ≡ copy_words (is_site g) c.blocks.items (range_of p) = quarter p.bytes (copy_words (is_site g) c.blocks.items (range_of p)) is.bytes in
    let sum = one_more w name [] ms all (tt, tt) in
    let stubs = sum_by-cons (start_job w) name [] in
    let none : sum_by (start_job w) [] ≡ 0 = refl in
    let slow = slow_counted c g t board q ms p.first p.last run in
    let fast = fast_counted c g t board q ms p.first p.last run in
    let parts = gain_parts (steps_energy w nothing_taken ms) (steps_energy w (taken_alone name) ms) (slow_sum w ms name) (fast_sum w ms name) 0 (stub_energy w (taken_alone name)) (stub_energy w nothing_taken) (start_job w name) sum (omega (arith, stubs, none)) in
    ap (λ n. pos (home_words c g q (range_of p) * board.prices.main_fetch) -ℤ pos (copied_price board.prices (copy_words_run c g q (range_of p)) (came_in c q (range_of p)) n)) rounds
    ∙ (ap (λ n. pos n -ℤ pos (copied_price board.prices (copy_words_run c g q (range_of p)) (came_in c q (range_of p)) (copy_words (is_site g) c.blocks.items (range_of p)))) (sym slow)
    ∙ (ap (λ n. pos (slow_sum w ms name) -ℤ pos (n + start_job w name)) (sym fast)
    ∙ sym parts))

-- ---- weights

-- each entry is one or the other
pub part_entries : (w : Scene) (p : Piece) → (part_of w p).plain_entries + length (part_of w p).border_entries ≡ length p.entries.items
part_entries w p =
    let entries = p.entries.items in
    let split = length-filter_both (λ b. not (is_border w b)) (is_border w) (λ b. not_again (is_border w b)) entries in
    let count = length-map (filter (is_border w) entries) (displaced_at w) in
    ap (λ n. length (filter (λ b. not (is_border w b)) entries) + n) count ∙ split
  where
    not_again : (b : Bool) → b ≡ not (not b)
    not_again true = refl
    not_again false = refl

weights_are : (w : Scene) (l : Layout) (p : Piece) → off_weights l (static_code (part_of w p)) ≡ piece_weights l.grain p
weights_are w l p =
    ap (λ n. (0, rounded_up l.grain p.bytes) ∷ (1, 44 + p.bytes + 8 * n) ∷ in_rows (2 + p.first) (p.last + 1 - p.first) 1) (part_entries w p)

pub code_var_counted : OneInstruction → (view : ElfView) (board : Board) (g : Graph) (c : Code) (t : RegionTable) (q : Profile) (ms : List Transition) (p : Piece) → Given view board g c t q ms → IsPiece c g p → counted_code_var board.prices q c g board.grain p ≡ code_var (scene_of g c t board) (layout_of g c t board) ms p
code_var_counted one view board g c t q ms p given is =
    let gain = code_gain_counted one view board g c t q ms p given is in
    let weights = weights_are (scene_of g c t board) (layout_of g c t board) p in
    λ i. record { name = StaticCode p.first p.last; gain = gain i; weights = sym weights i }

pub code_vars_counted : OneInstruction → (view : ElfView) (board : Board) (g : Graph) (c : Code) (t : RegionTable) (q : Profile) (ms : List Transition) (pieces : List Piece) → Given view board g c t q ms → All (IsPiece c g) pieces → map (counted_code_var board.prices q c g board.grain) pieces ≡ map (code_var (scene_of g c t board) (layout_of g c t board) ms) pieces
code_vars_counted one view board g c t q ms [] given are = refl
code_vars_counted one view board g c t q ms (p ∷ pieces) given are =
    let here = code_var_counted one view board g c t q ms p given (are 0 p (omega arith)) in
    let rest = code_vars_counted one view board g c t q ms pieces given (λ k d below. are (suc k) d (omega (arith, below))) in
    λ i. here i ∷ rest i

-- ---- conditions

all_collected : (test : ℕ → Bool) (n : ℕ) → length (collected test (λ b. b) n) ≤ n
all_collected test zero = omega arith
all_collected test (suc n) =
    let earlier = all_collected test n in
    let sum = length-append (collected test (λ b. b) n) (if test n then n ∷ [] else []) in
    let here = at_most_one (test n) n in
    omega (arith, earlier, sum, here)
  where
    at_most_one : (b : Bool) (n : ℕ) → length (if b then n ∷ [] else []) ≤ 1
    at_most_one true n = omega arith
    at_most_one false n = omega arith

block_there : (bs : List Block) (b : ℕ) → b < length bs → Block
block_there [] b below = absurd (omega (arith, below))
block_there (x ∷ bs) b below = x

end_is : (c : Code) (b : ℕ) → b < length c.blocks.items → end_at c b ≡ (body_at c.blocks.items b).end
end_is c b below =
    let d = block_there c.blocks.items b below in
    get_or-map ending_of c.blocks.items b d Stop below ∙ sym (ap (λ (x : Body). x.end) (get_or-map body_of c.blocks.items b d no_body below))

held_below : (c : Code) (p : Piece) (b : ℕ) → IsRange c (range_of p) → holds_block b (range_of p) ≡ true → b < length c.blocks.items
held_below c p b is held =
    let last = (both (nat_le p.first b) (nat_le b p.last) held).1 in
    let to : b ≤ p.last = grind (arith, nat_tests, last) in
    let bound = is.below in
    omega (arith, to, bound)

pub can_count_piece : (view : ElfView) (board : Board) (g : Graph) (c : Code) (t : RegionTable) (q : Profile) (ms : List Transition) (pieces : List Piece) → Given view board g c t q ms → AreSomePieces c g pieces → All (CanCountPiece c) pieces
can_count_piece view board g c t q ms pieces given are k d below =
    let p = slice_index_or pieces k d in
    let is = are.each k d below in
    let is_range = piece_range c g pieces k d are below in
    let blocks = blocks_few view c given.read given.code given.no_code_fault in
    let last = is_range.below in
    let bytes = is.bytes in
    let small = is.copied.small in
    let entries = ap (λ (xs : List ℕ). length xs) is.entries in
    let few = all_collected (λ b. holds_block b (range_of p) && is_entry c (range_of p) b) (length c.blocks.items) in
    record {
      range = record {
        is_range = is_range;
        leads = λ b held. subst (LeadsToBlocks c) (end_is c b (held_below c p b is_range held)) (is.copied.blocks b held).leads;
      };
      few = omega (arith, last, blocks);
      entries = omega (arith, entries, few, blocks);
      bytes = omega (arith, bytes, small);
    }

-- ---- how many there are: each block has a word, so the last block of a piece is near its first

sum_some : (f : ℕ → ℕ) (n : ℕ) → ((k : ℕ) → 1 ≤ f k) → 0 < n → 1 ≤ sum_below f n
sum_some f zero each some = absurd (omega (arith, some))
sum_some f (suc n) each some = let here = each n in omega (arith, here)

block_some : (sites inside : ℕ → Bool) (b : Body) → 0 < length b.units → 1 ≤ block_size sites inside b
block_some sites inside b some =
    let units = sum_some (λ k. copy_size inside (kind_of sites b k)) (length b.units) (λ k. some_word inside (kind_of sites b k)) some in
    omega (arith, units)

held_some : (f : ℕ → ℕ) (r : BlockRange) (n : ℕ) → ((b : ℕ) → holds_block b r ≡ true → 1 ≤ f b) → n ≤ suc r.last → n - r.first ≤ sum_below (λ b. if holds_block b r then f b else 0) n
held_some f r zero some to = omega arith
held_some f r (suc n) some to =
    let earlier = held_some f r n some (omega (arith, to)) in
    elim (cases_lt n r.first) [
      | inl before ↦ omega (arith, before)
      | inr from ↦
          let held : holds_block n r ≡ true = grind (arith, nat_tests, from, to) in
          let here = some n held in
          let term : (if holds_block n r then f n else 0) ≡ f n = rw held refl in
          omega (arith, earlier, here, term)
    ]

abbrev pub AreFilled : Code → Type 0
AreFilled c = (b : ℕ) → b < length c.blocks.items → 0 < length (body_at c.blocks.items b).units

last_near : (c : Code) (g : Graph) (p : Piece) → AreFilled c → IsRange c (range_of p) → IsPiece c g p → p.last < p.first + 1024
last_near c g p filled is_range is =
    let inside = begins_in (map start_of c.blocks.items) (range_of p) in
    let size : ℕ → ℕ = λ b. block_size (is_site g) inside (body_at c.blocks.items b) in
    let below = is_range.below in
    let ordered = is_range.ordered in
    let some = held_some size (range_of p) (suc p.last) (λ b held. block_some (is_site g) inside (body_at c.blocks.items b) (filled b (held_below c p b is_range held))) (omega arith) in
    let rises = sum_rises (λ b. if holds_block b (range_of p) then size b else 0) (suc p.last) (length c.blocks.items) (omega (arith, below)) in
    let small = is.copied.small in
    omega (arith, some, rises, small, ordered)

abbrev key_of : Piece → ℕ
key_of p = p.first * 1024 + (p.last - p.first)

first_or_last : (r s : Piece) → r.first ≤ r.last → r.last < r.first + 1024 → ComesBefore (range_of r) (range_of s) → key_of r < key_of s
first_or_last r s ordered near (inl less) = omega (arith, near, less)
first_or_last r s ordered near (inr same) = let first = same.0 in let last = same.1 in omega (arith, ordered, first, last)

key_at_least : (c : Code) (g : Graph) (pieces : List Piece) (k : ℕ) (d : Piece) → AreFilled c → AreSomePieces c g pieces → k < length pieces → k ≤ key_of (slice_index_or pieces k d)
key_at_least c g pieces zero d filled are below = omega arith
key_at_least c g pieces (suc k) d filled are below =
    let earlier = key_at_least c g pieces k d filled are (omega (arith, below)) in
    let is_range = piece_range c g pieces k d are (omega (arith, below)) in
    let near = last_near c g (slice_index_or pieces k d) filled is_range (are.each k d (omega (arith, below))) in
    let before = first_or_last (slice_index_or pieces k d) (slice_index_or pieces (suc k) d) is_range.ordered near (are.ordered k (suc k) d (omega arith) below) in
    omega (arith, earlier, before)

key_small : (first last : ℕ) → first ≤ last → last < 65536 → last < first + 1024 → first * 1024 + (last - first) < 67108864
key_small first last ordered few near = omega (arith, ordered, few, near)

pub pieces_few : (c : Code) (g : Graph) (pieces : List Piece) → length c.blocks.items ≤ 65536 → AreFilled c → AreSomePieces c g pieces → length pieces ≤ 67108864
pieces_few c g [] blocks filled are = omega arith
pieces_few c g (p ∷ pieces) blocks filled are =
    let n = length pieces in
    let least = key_at_least c g (p ∷ pieces) n p filled are (omega arith) in
    let is_range = piece_range c g (p ∷ pieces) n p are (omega arith) in
    let last = slice_index_or (p ∷ pieces) n p in
    let bound = is_range.below in
    let near = last_near c g last filled is_range (are.each n p (omega arith)) in
    let small = key_small last.first last.last is_range.ordered (omega (arith, bound, blocks)) near in
    omega (arith, least, small)

-- ---- bounds

pub abs_difference : (a b bound : ℕ) → a ≤ bound → b ≤ bound → unsigned_abs (pos a -ℤ pos b) ≤ bound
abs_difference a b bound first second = omega (arith, ints, first, second)

-- what a copy of so many words costs at most
pub job_within : (prices : Prices) (n most : ℕ) → AreLawfulPrices prices → n ≤ most → into_price prices n ≤ (6 + 5 * most) * 10000 + most * 10000 + most * 10000
job_within prices n most lawful few =
    let fetches = mul-le (6 + 5 * n) prices.main_fetch (6 + 5 * most) 10000 (omega (arith, few)) lawful.main_fetch in
    let reads = mul-le n prices.main_read most 10000 few lawful.main_read in
    let writes = mul-le n prices.spm_write most 10000 few lawful.spm_write in
    omega (arith, fetches, reads, writes)

pub copy_job_small : (prices : Prices) (n : ℕ) → AreLawfulPrices prices → n ≤ 4096 → into_price prices n ≤ 400000000
copy_job_small prices n lawful few =
    let within = job_within prices n 4096 lawful few in omega (arith, within)

choice_small : (b : Bool) (x : ℕ) → (if b then x else 0) ≤ x
choice_small true x = omega arith
choice_small false x = omega arith

pending_small : (c : Code) (g : Graph) (q : Profile) (r : BlockRange) → CountsCode c g q → pending_inside c q r ≤ 1000000000000
pending_small c g q r counts =
    let few = counts.few_pending r in
    let less = choice_small (holds_block q.last.0 r && may_stay (body_at c.blocks.items q.last.0).end) (sum_in r (pending c q) (length c.blocks.items)) in
    omega (arith, few, less)

pub came_few : (c : Code) (g : Graph) (q : Profile) (r : BlockRange) → CountsCode c g q → came_in c q r ≤ 2000000000000
came_few c g q r counts =
    let arrived = counts.arrived r in
    let pending = pending_small c g q r counts in
    omega (arith, arrived, pending)

pub code_gain_small : (c : Code) (g : Graph) (q : Profile) (prices : Prices) (p : Piece) → CountsCode c g q → AreLawfulPrices prices → CanCountPiece c p → unsigned_abs (counted_code_gain prices q c g p) ≤ 100000000000000000
code_gain_small c g q prices p counts lawful can =
    let r = range_of p in
    let home = mul-le (home_words c g q r) prices.main_fetch 1000000000000 10000 (counts.home r) lawful.main_fetch in
    let copied = mul-le (copy_words_run c g q r) prices.spm_fetch 1000000000000 10000 (counts.copies r) lawful.spm_fetch in
    let came = came_few c g q r counts in
    let fetch = lawful.main_fetch in
    let pads = mul-le (came_in c q r) (3 * prices.main_fetch) 2000000000000 30000 came (omega (arith, fetch)) in
    let bytes = can.bytes in
    let job = copy_job_small prices (p.bytes / 4) lawful (omega (arith, bytes)) in
    abs_difference (home_words c g q r * prices.main_fetch) (copied_price prices (copy_words_run c g q r) (came_in c q r) (p.bytes / 4)) 100000000000000000
    (omega (arith, home)) (omega (arith, copied, pads, job))

pub code_gains_small : (c : Code) (g : Graph) (q : Profile) (prices : Prices) (grain : ℕ) (pieces : List Piece) → CountsCode c g q → AreLawfulPrices prices → All (CanCountPiece c) pieces → sum_by (λ v. unsigned_abs v.gain) (map (counted_code_var prices q c g grain) pieces) ≤ length pieces * 100000000000000000
code_gains_small c g q prices grain [] counts lawful can = omega arith
code_gains_small c g q prices grain (p ∷ pieces) counts lawful can =
    let here = code_gain_small c g q prices p counts lawful (can 0 p (omega arith)) in
    let rest = code_gains_small c g q prices grain pieces counts lawful (λ k d below. can (suc k) d (omega (arith, below))) in
    let sum = sum_by-cons (λ (v : PlainFullVar). unsigned_abs v.gain) (counted_code_var prices q c g grain p) (map (counted_code_var prices q c g grain) pieces) in
    omega (arith, here, rest, sum)

-- the rows of blocks
rows_ascend : (low high row count value : ℕ) → low ≤ row → row + count ≤ high → AscendWithin low high (map row_of (in_rows row count value))
rows_ascend low high row zero value from to = tt
rows_ascend low high row (suc count) value from to =
    (from, omega (arith, to), rows_ascend (suc row) high (suc row) count value (omega arith) (omega (arith, to)))

pub ones_small : (row count : ℕ) → All (λ w. value_of w < 2 ^ 32) (in_rows row count 1)
ones_small row zero k d below = absurd (omega (arith, below))
ones_small row (suc count) zero d below = omega arith
ones_small row (suc count) (suc k) d below = ones_small (suc row) count k d (omega (arith, below))

pub code_span_small : (grain n : ℕ) → IsGrain grain → n ≤ 4096 → rounded_up grain n < 2 ^ 32
code_span_small grain n (inl is) small = rw is (omega (arith, small))
code_span_small grain n (inr (inl is)) small = rw is (omega (arith, small))
code_span_small grain n (inr (inr is)) small = rw is (omega (arith, small))

two_more : (x y : ℕ) (ws : List (ℕ × ℕ)) → x < 2 ^ 32 → y < 2 ^ 32 → All (λ w. value_of w < 2 ^ 32) ws → All (λ w. value_of w < 2 ^ 32) ((0, x) ∷ (1, y) ∷ ws)
two_more x y ws first second rest zero d below = first
two_more x y ws first second rest (suc zero) d below = second
two_more x y ws first second rest (suc (suc k)) d below = rest k d (omega (arith, below))

piece_weighs : (c : Code) (grain rows : ℕ) (p : Piece) → IsGrain grain → rows ≡ 2 + length c.blocks.items → CanCountPiece c p → AreWeights rows (piece_weights grain p)
piece_weighs c grain rows p is count can =
    let ordered = can.range.is_range.ordered in
    let bound = can.range.is_range.below in
    let bytes = can.bytes in
    let entries = can.entries in
    record {
      ascending = (omega arith, omega (arith, count), (omega arith, omega (arith, count), rows_ascend 2 rows (2 + p.first) (p.last + 1 - p.first) 1 (omega arith) (omega (arith, ordered, bound, count))));
      small = two_more (rounded_up grain p.bytes) (44 + p.bytes + 8 * length p.entries.items) (in_rows (2 + p.first) (p.last + 1 - p.first) 1)
          (code_span_small grain p.bytes is bytes) (omega (arith, bytes, entries)) (ones_small (2 + p.first) (p.last + 1 - p.first));
    }

pub code_vars_weigh : (c : Code) (g : Graph) (q : Profile) (prices : Prices) (grain rows : ℕ) (pieces : List Piece) → IsGrain grain → rows ≡ 2 + length c.blocks.items → All (CanCountPiece c) pieces → All (λ v. AreWeights rows v.weights) (map (counted_code_var prices q c g grain) pieces)
code_vars_weigh c g q prices grain rows [] is count can k d below = absurd (omega (arith, below))
code_vars_weigh c g q prices grain rows (p ∷ pieces) is count can zero d below = piece_weighs c grain rows p is count (can 0 p (omega arith))
code_vars_weigh c g q prices grain rows (p ∷ pieces) is count can (suc k) d below =
    code_vars_weigh c g q prices grain rows pieces is count (λ j e inside. can (suc j) e (omega (arith, inside))) k d (omega (arith, below))

-- ---- the loop over pieces

shifted_vars : (vs : List PlainFullVar) (us more : List PlainFullVar) → (vs ++ us) ++ more ≡ vs ++ (us ++ more)
shifted_vars [] us more = refl
shifted_vars (v ∷ vs) us more = ap (λ (ws : List PlainFullVar). v ∷ ws) (shifted_vars vs us more)

pub one_var : (f : Piece → PlainFullVar) (first old new : List PlainFullVar) (pieces : List Piece) (k : ℕ) (p : Piece) → k < length pieces → p ≡ slice_index_or pieces k p → old ≡ first ++ map f (take k pieces) → new ≡ old ++ f p ∷ [] → new ≡ first ++ map f (take (k + 1) pieces)
one_var f first old new pieces k p below is before grown =
    let taken : map f (take k pieces) ++ f p ∷ [] ≡ map f (take (k + 1) pieces) =
    ap (λ (x : Piece). map f (take k pieces) ++ f x ∷ []) is
    ∙ (sym (map-append f (take k pieces) (slice_index_or pieces k p ∷ []))
    ∙ ap (λ (ps : List Piece). map f ps) (sym (take_more pieces k p below))) in
    grown
    ∙ (ap (λ (vs : List PlainFullVar). vs ++ f p ∷ []) before
    ∙ (shifted_vars first (map f (take k pieces)) (f p ∷ [])
    ∙ ap (λ (vs : List PlainFullVar). first ++ vs) taken))
