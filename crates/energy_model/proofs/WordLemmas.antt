-- The words that a block ran, at home and copied, are those that the tables of a profile count.
use Rattle.std.proofs.Common.{◌≡◌, ◌∙◌, ◌⊎◌, inl, inr, ℕ, zero, suc, ◌+◌, ◌-◌, ◌*◌, ◌<◌, ◌≤◌, ◌==◌, Bool, true, false, ◌&&◌, List, length, refl, sym, ap, arith, if◌then◌else◌}
use Rattle.std.proofs.lemmas.Bool.{cases_eq}
use Rattle.std.proofs.lemmas.Bool.Decides.{nat_tests}
use Rattle.std.specs.List.Sorted.{IsStrictlyIncreasing}
use Rattle.list_checks.proofs.SumLemmas.{sum_zero, sum_same}
use Rattle.list_checks.specs.Sorted.{sum_below}
use Rattle.board_config.specs.declared.board.Board.{Board}
use Rattle.object_graph.specs.declared.parts.Graph.{Graph}
use Rattle.code_blocks.specs.declared.parts.Code.{Code}
use Rattle.region_former.specs.declared.table.RegionTable.{RegionTable}
use Rattle.profile_runner.specs.declared.counts.Profile.{Profile}
use Rattle.profile_runner.specs.Transition.{Transition, is_going, transition_at}
use Rattle.profile_runner.specs.Standing.{number_of, begins, units_run}
use Rattle.profile_runner.specs.Counts.{edges_of, AreEdges}
use Rattle.block_splitter.specs.Forms.{body_at}
use Rattle.energy_model.specs.Energy.{Scene, starts_of, block_in, block_at, unit_number}
use Rattle.energy_model.specs.Scenes.{scene_of}
use Rattle.energy_model.specs.Copied.{unit_words, arrivals_in, whole_words, part_words, block_words}
use Rattle.energy_model.proofs.SceneLemmas.{Follows}
use Rattle.energy_model.proofs.SumLemmas.{arrived, block_sum, blocks_sum, transitions_sum, ran}
use Rattle.energy_model.proofs.PlaceLemmas.{single}

-- ---- the last block began

cases_bool : (b : Bool) → (b ≡ true) ⊎ (b ≡ false)
cases_bool true = inl refl
cases_bool false = inr refl

both_true : (a b : Bool) → a ≡ true → b ≡ true → a && b ≡ true
both_true a b first second = rw (first, second) refl

one_if : (b : Bool) → b ≡ true → ◌≡◌ {A = ℕ} (if b then 1 else 0) 1
one_if b is = rw is refl

pub began : (w : Scene) (ms : List Transition) (i : ℕ) → Follows w ms → i < length ms → 0 < arrived w ms (suc i) (block_at w ms i)
began w ms zero all below =
    let begun = all.first below in
    let same : (number_of (starts_of w) (transition_at ms 0).at == block_at w ms 0) ≡ true = grind (arith, nat_tests) in
    rw (begun, same) (omega arith)
began w ms (suc i) all below =
    let earlier = began w ms i all (omega (arith, below)) in
    let starts = starts_of w in
    elim (cases_bool (begins starts ms (suc i))) [
      | inl begun ↦
          let block : block_at w ms (suc i) ≡ number_of starts (transition_at ms (suc i)).at = rw begun refl in
          let same : (number_of starts (transition_at ms (suc i)).at == block_at w ms (suc i)) ≡ true = grind (arith, nat_tests, block) in
          let both = both_true (begins starts ms (suc i)) (number_of starts (transition_at ms (suc i)).at == block_at w ms (suc i)) begun same in
          let one = one_if (begins starts ms (suc i) && (number_of starts (transition_at ms (suc i)).at == block_at w ms (suc i))) both in
          omega (arith, one)
      | inr none ↦
          let block : block_at w ms (suc i) ≡ block_at w ms i = rw none refl in
          let same : arrived w ms (suc i) (block_at w ms (suc i)) ≡ arrived w ms (suc i) (block_at w ms i) = ap (arrived w ms (suc i)) block in
          omega (arith, earlier, same)
    ]

-- ---- a sum over the units of one block

-- of block `b` alone
abbrev only : ℕ → (ℕ → ℕ → ℕ) → ℕ → ℕ → ℕ
only b words a k = if a == b then words a k else 0

-- what a transition ran: its last unit has one word where the run ended
abbrev ran_at : Scene → List Transition → (ℕ → ℕ → ℕ) → ℕ → ℕ
ran_at w ms words i = if (transition_at ms i).goes_on then words (block_at w ms i) (unit_number w ms i) else 1

abbrev ran_of : Scene → List Transition → (ℕ → ℕ → ℕ) → ℕ → ℕ → ℕ
ran_of w ms words b i = if block_at w ms i == b then ran_at w ms words i else 0

going_value : (go same : Bool) (x y : ℕ) → go ≡ true → (if same then (if go then x else y) else 0) ≡ (if same then x else 0)
going_value go same x y is = rw is refl

before_last : (w : Scene) (ms : List Transition) (words : ℕ → ℕ → ℕ) (b i : ℕ) → Follows w ms → i < length ms → sum_below (ran_of w ms words b) i ≡ transitions_sum w ms (only b words) i
before_last w ms words b i all below =
    sum_same (ran_of w ms words b) (λ j. only b words (block_at w ms j) (unit_number w ms j)) i (λ j inside.
    going_value (transition_at ms j).goes_on (block_at w ms j == b) (words (block_at w ms j) (unit_number w ms j)) 1 (all.goes_on j (omega (arith, inside, below))))

pub sum_if : (test : Bool) (f : ℕ → ℕ) (n : ℕ) → sum_below (λ k. if test then f k else 0) n ≡ (if test then sum_below f n else 0)
sum_if true f n = refl
sum_if false f n = sum_zero (λ k. 0) n (λ k below. refl)

times_if : (test : Bool) (count x : ℕ) → count * (if test then x else 0) ≡ (if test then count * x else 0)
times_if true count x = refl
times_if false count x = omega arith

same_order : (a b x : ℕ) → (if a == b then x else 0) ≡ (if b == a then x else 0)
same_order a b x =
    elim (cases_eq a b) [
      | inl same ↦
          let first : (a == b) ≡ true = grind (arith, nat_tests, same) in
          let second : (b == a) ≡ true = grind (arith, nat_tests, same) in
          rw (first, second) refl
      | inr differs ↦
          let first : (a == b) ≡ false = grind (arith, nat_tests, differs) in
          let second : (b == a) ≡ false = grind (arith, nat_tests, differs) in
          rw (first, second) refl
    ]

blocks_only : (w : Scene) (ms : List Transition) (words : ℕ → ℕ → ℕ) (b n : ℕ) → b < length w.blocks → blocks_sum w ms (only b words) n ≡ arrived w ms n b * block_sum w words b
blocks_only w ms words b n below =
    sum_same (λ a. arrived w ms n a * block_sum w (only b words) a) (λ a. if b == a then arrived w ms n a * block_sum w words a else 0) (length w.blocks)
    (λ a inside. ap (λ x. arrived w ms n a * x) (sum_if (a == b) (words a) (length (block_in w a).units))
    ∙ (times_if (a == b) (arrived w ms n a) (block_sum w words a) ∙ same_order a b (arrived w ms n a * block_sum w words a)))
    ∙ single (λ a. arrived w ms n a * block_sum w words a) b (length w.blocks) below

one_less : (count whole part sum : ℕ) → 0 < count → sum + whole ≡ count * whole + part → (count - 1) * whole + part ≡ sum
one_less zero whole part sum some is = absurd (omega (arith, some))
one_less (suc count) whole part sum some is =
    let times : suc count * whole ≡ count * whole + whole = grind arith in
    let less : (suc count - 1) * whole ≡ count * whole = ap (λ n. n * whole) (omega arith) in
    omega (arith, is, times, less)

-- block `b` is the last
of_last : (w : Scene) (ms : List Transition) (words : ℕ → ℕ → ℕ) (b i : ℕ) → Follows w ms → length ms ≡ suc i → block_at w ms i ≡ b → sum_below (ran_of w ms words b) (length ms) + block_sum w words b ≡ arrived w ms (length ms) b * block_sum w words b + (sum_below (words b) (unit_number w ms i) + (if (transition_at ms i).goes_on then words b (unit_number w ms i) else 1))
of_last w ms words b i all last here =
    let below : i < length ms = omega (arith, last) in
    let test : (block_at w ms i == b) ≡ true = grind (arith, nat_tests, here) in
    let inside : b < length w.blocks = let less = (all.each i below).inside in omega (arith, less, here) in
    let before = before_last w ms words b i all below in
    let units = ran w ms (only b words) i all below in
    let blocks = blocks_only w ms words b (suc i) inside in
    let itself : (b == b) ≡ true = grind (arith, nat_tests) in
    let same_whole : block_sum w (only b words) b ≡ block_sum w words b = sum_if (b == b) (words b) (length (block_in w b).units) ∙ rw itself refl in
    let same_part : sum_below (only b words b) (suc (unit_number w ms i)) ≡ sum_below (words b) (suc (unit_number w ms i)) = sum_if (b == b) (words b) (suc (unit_number w ms i)) ∙ rw itself refl in
    let whole : block_sum w (only b words) (block_at w ms i) ≡ block_sum w words b = ap (block_sum w (only b words)) here ∙ same_whole in
    let part : sum_below (only b words (block_at w ms i)) (suc (unit_number w ms i)) ≡ sum_below (words b) (suc (unit_number w ms i)) =
    ap (λ a. sum_below (only b words a) (suc (unit_number w ms i))) here ∙ same_part in
    let term : only b words (block_at w ms i) (unit_number w ms i) ≡ words b (unit_number w ms i) = (rw test refl) ∙ ap (λ a. words a (unit_number w ms i)) here in
    let mine : ran_of w ms words b i ≡ (if (transition_at ms i).goes_on then words b (unit_number w ms i) else 1) = (rw test refl) ∙ ap (λ a. if (transition_at ms i).goes_on then words a (unit_number w ms i) else 1) here in
    let sum : sum_below (ran_of w ms words b) (length ms) ≡ sum_below (ran_of w ms words b) (suc i) = ap (sum_below (ran_of w ms words b)) last in
    let count : arrived w ms (length ms) b ≡ arrived w ms (suc i) b = ap (λ n. arrived w ms n b) last in
    let times : arrived w ms (length ms) b * block_sum w words b ≡ arrived w ms (suc i) b * block_sum w words b = ap (λ n. n * block_sum w words b) count in
    omega (arith, before, units, blocks, whole, part, term, mine, sum, times)

-- and where it isn't
of_other : (w : Scene) (ms : List Transition) (words : ℕ → ℕ → ℕ) (b i : ℕ) → Follows w ms → length ms ≡ suc i → b < length w.blocks → (block_at w ms i == b) ≡ false → sum_below (ran_of w ms words b) (length ms) ≡ arrived w ms (length ms) b * block_sum w words b
of_other w ms words b i all last inside test =
    let below : i < length ms = omega (arith, last) in
    let before = before_last w ms words b i all below in
    let units = ran w ms (only b words) i all below in
    let blocks = blocks_only w ms words b (suc i) inside in
    let whole : block_sum w (only b words) (block_at w ms i) ≡ 0 = sum_if (block_at w ms i == b) (words (block_at w ms i)) (length (block_in w (block_at w ms i)).units) ∙ rw test refl in
    let part : sum_below (only b words (block_at w ms i)) (suc (unit_number w ms i)) ≡ 0 = sum_if (block_at w ms i == b) (words (block_at w ms i)) (suc (unit_number w ms i)) ∙ rw test refl in
    let term : only b words (block_at w ms i) (unit_number w ms i) ≡ 0 = rw test refl in
    let mine : ran_of w ms words b i ≡ 0 = rw test refl in
    let sum : sum_below (ran_of w ms words b) (length ms) ≡ sum_below (ran_of w ms words b) (suc i) = ap (sum_below (ran_of w ms words b)) last in
    let count : arrived w ms (length ms) b ≡ arrived w ms (suc i) b = ap (λ n. arrived w ms n b) last in
    let times : arrived w ms (length ms) b * block_sum w words b ≡ arrived w ms (suc i) b * block_sum w words b = ap (λ n. n * block_sum w words b) count in
    omega (arith, before, units, blocks, whole, part, term, mine, sum, times)

-- ---- by the tables

-- what is known of a run and of the tables that count it
pub record IsCountedRun (c : Code) (g : Graph) (t : RegionTable) (board : Board) (q : Profile) (ms : List Transition) : Type 0 where
  pub all : Follows (scene_of g c t board) ms
  pub last : length ms ≡ suc (length ms - 1)
  pub few : length ms ≤ 1000000000
  pub goes : (transition_at ms (length ms - 1)).goes_on ≡ is_going q.outcome
  pub arrivals : (b : ℕ) → b < length c.blocks.items → arrivals_in q b ≡ arrived (scene_of g c t board) ms (length ms) b
  pub block : q.last.0 ≡ block_at (scene_of g c t board) ms (length ms - 1)
  pub units : q.last.1 ≡ units_run (starts_of (scene_of g c t board)) ms (length ms - 1)
  pub edges : AreEdges q.edges.items (length (starts_of (scene_of g c t board))) (edges_of (starts_of (scene_of g c t board)) ms)
  pub entry : (transition_at ms 0).at ≡ c.entry
  pub ascending : IsStrictlyIncreasing (starts_of (scene_of g c t board))

-- the words of a unit, by the numbers of its block and of itself
abbrev pub words_at : Scene → Bool → ℕ → ℕ → ℕ
words_at w copied a k = unit_words w.graph copied (block_in w a) k

-- what a transition ran, but for the words by which control leaves a copy
abbrev pub words_ran : Scene → List Transition → Bool → ℕ → ℕ
words_ran w ms copied i = ran_at w ms (words_at w copied) i

part_is : (c : Code) (g : Graph) (t : RegionTable) (board : Board) (q : Profile) (ms : List Transition) (copied : Bool) (b : ℕ) → IsCountedRun c g t board q ms → part_words g copied q (body_at c.blocks.items b) ≡ sum_below (words_at (scene_of g c t board) copied b) (unit_number (scene_of g c t board) ms (length ms - 1)) + (if (transition_at ms (length ms - 1)).goes_on then words_at (scene_of g c t board) copied b (unit_number (scene_of g c t board) ms (length ms - 1)) else 1)
part_is c g t board q ms copied b run =
    let words = unit_words g copied (body_at c.blocks.items b) in
    let k = unit_number (scene_of g c t board) ms (length ms - 1) in
    ap (λ n. sum_below words (n - 1) + (if is_going q.outcome then words (n - 1) else 1)) run.units
    ∙ ap (λ (go : Bool). sum_below words k + (if go then words k else 1)) (sym run.goes)

pub block_counted : (c : Code) (g : Graph) (t : RegionTable) (board : Board) (q : Profile) (ms : List Transition) (copied : Bool) (b : ℕ) → IsCountedRun c g t board q ms → b < length c.blocks.items → block_words c g q copied b ≡ sum_below (λ i. if block_at (scene_of g c t board) ms i == b then words_ran (scene_of g c t board) ms copied i else 0) (length ms)
block_counted c g t board q ms copied b run below =
    let w = scene_of g c t board in
    let words = words_at w copied in
    let i = length ms - 1 in
    let count = run.arrivals b below in
    let whole = whole_words g copied (body_at c.blocks.items b) in
    let part = part_words g copied q (body_at c.blocks.items b) in
    elim (cases_eq b q.last.0) [
      | inl same ↦
          let test : (b == q.last.0) ≡ true = grind (arith, nat_tests, same) in
          let here : block_at w ms i ≡ b = sym run.block ∙ sym same in
          let sum = of_last w ms words b i run.all run.last here in
          let parts = part_is c g t board q ms copied b run in
          let begun = began w ms i run.all (let last = run.last in omega (arith, last)) in
          let some : 0 < arrived w ms (length ms) b =
          let same_count : arrived w ms (length ms) b ≡ arrived w ms (suc i) (block_at w ms i) = ap (λ n. arrived w ms n b) run.last ∙ ap (arrived w ms (suc i)) (sym here) in
          omega (arith, begun, same_count) in
          let less = one_less (arrived w ms (length ms) b) whole part (sum_below (λ j. if block_at w ms j == b then words_ran w ms copied j else 0) (length ms)) some (omega (arith, sum, parts)) in
          let counted : (arrivals_in q b - 1) * whole + part ≡ (arrived w ms (length ms) b - 1) * whole + part = ap (λ n. (n - 1) * whole + part) count in
          (rw test refl) ∙ (counted ∙ less)
      | inr differs ↦
          let test : (b == q.last.0) ≡ false = grind (arith, nat_tests, differs) in
          let block = run.block in
          let other : (block_at w ms i == b) ≡ false = grind (arith, nat_tests, differs, block) in
          let sum = of_other w ms words b i run.all run.last below other in
          (rw test refl) ∙ (ap (λ n. n * whole) count ∙ sym sum)
    ]
