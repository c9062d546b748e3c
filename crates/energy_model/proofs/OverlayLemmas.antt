-- What overlay costs with nothing taken is what the tables of a profile count.
use Rattle.std.proofs.Common.{◌≡◌, ◌∙◌, ◌⊎◌, inl, inr, ℕ, zero, suc, ◌+◌, ◌-◌, ◌*◌, ◌<◌, ◌≤◌, ◌==◌, Bool, true, false, not, ◌&&◌, List, [], length, slice_index_or, refl, sym, ap, arith, if◌then◌else◌}
use Rattle.std.proofs.Math.Nat.{mul-le-mul_right}
use Rattle.std.proofs.lemmas.Bool.{cases_eq, eqb-true}
use Rattle.std.proofs.lemmas.Bool.Decides.{nat_tests}
use Rattle.list_checks.specs.Sorted.{sum_below}
use Rattle.list_checks.proofs.SumLemmas.{sum_same}
use Rattle.list_checks.proofs.TestLemmas.{both}
use Rattle.rv32im.specs.Table.{OneInstruction}
use Rattle.elf_reader.specs.declared.view.ElfView.{ElfView}
use Rattle.board_config.specs.declared.board.Board.{Board}
use Rattle.object_graph.specs.declared.parts.Graph.{Graph}
use Rattle.code_blocks.specs.declared.parts.Code.{Code}
use Rattle.region_former.specs.declared.table.RegionTable.{RegionTable}
use Rattle.profile_runner.specs.declared.counts.Profile.{Profile}
use Rattle.profile_runner.specs.Transition.{Transition, transition_at}
use Rattle.profile_runner.specs.Standing.{begins, units_run}
use Rattle.profile_runner.specs.Counts.{plain_rows, entry, switches_of}
use Rattle.block_splitter.specs.Forms.{body_at, unit_in, is_site, kind_of, displaced_words}
use Rattle.energy_model.specs.Energy.{Scene, starts_of, block_in, block_at, unit_number, region_before, region_with, arrival_price, access_price, switch_price, step_energy, steps_energy, side_energy, nothing_taken}
use Rattle.energy_model.specs.Scenes.{scene_of, AreOfSameFile}
use Rattle.energy_model.specs.Copied.{arrivals_in}
use Rattle.energy_model.specs.Together.{taken}
use Rattle.energy_model.specs.Overlay.{at_borders, checks_in, ends_first, first_runs, changes_price, OverlayIsCounted}
use Rattle.energy_model.proofs.SceneLemmas.{Follows}
use Rattle.energy_model.proofs.SumLemmas.{sum_two}
use Rattle.energy_model.proofs.PlaceLemmas.{by_places}
use Rattle.energy_model.proofs.WordLemmas.{IsCountedRun}
use Rattle.energy_model.proofs.ArrivalLemmas.{arrived_sum, began_where}
use Rattle.energy_model.proofs.EnergyLemmas.{current_fits}
use Rattle.energy_model.proofs.CountsLemmas.{counted_run, sum_times}
use Rattle.energy_model.proofs.ChangeLemmas.{changes_counted}

cases_bool : (b : Bool) → (b ≡ true) ⊎ (b ≡ false)
cases_bool true = inl refl
cases_bool false = inr refl

-- ---- a step

abbrev pub at_border : Scene → List Transition → ℕ → Bool
at_border w ms i = slice_index_or w.borders (block_at w ms i) false

-- the first unit of a block ran there, and the machine went on
abbrev pub ran_first : Scene → List Transition → ℕ → Bool
ran_first w ms i = begins (starts_of w) ms i && (transition_at ms i).goes_on

-- the first unit of a block runs just where the block begins
pub first_begins : (w : Scene) (ms : List Transition) (i : ℕ) → Follows w ms → i < length ms → (unit_number w ms i == 0) ≡ begins (starts_of w) ms i
first_begins w ms zero all below =
    let begun = all.first below in
    let test : (unit_number w ms 0 == 0) ≡ true = grind (arith, nat_tests) in
    test ∙ sym begun
first_begins w ms (suc i) all below =
    let runs = (all.each i (omega (arith, below))).runs in
    elim (cases_bool (begins (starts_of w) ms (suc i))) [
      | inl begun ↦
          let units : units_run (starts_of w) ms (suc i) ≡ 1 = rw begun refl in
          let test : (unit_number w ms (suc i) == 0) ≡ true = grind (arith, nat_tests, units) in
          test ∙ sym begun
      | inr none ↦
          let units : units_run (starts_of w) ms (suc i) ≡ suc (units_run (starts_of w) ms i) = rw none refl in
          let test : (unit_number w ms (suc i) == 0) ≡ false = grind (arith, nat_tests, units, runs) in
          test ∙ sym none
    ]

-- the words of a unit that is displaced where it is checked and first
pub form_parts : (goes border first begun : Bool) (displaced words fetch : ℕ) → first ≡ begun → (if goes then (if border && first then displaced else words) else 1) * fetch + (if border then (if begun && goes then words else 0) else 0) * fetch ≡ (if goes then words else 1) * fetch + (if border then (if begun && goes then displaced else 0) else 0) * fetch
form_parts true true true true displaced words fetch is = omega arith
form_parts true true false false displaced words fetch is = omega arith
form_parts true false true true displaced words fetch is = omega arith
form_parts true false false false displaced words fetch is = omega arith
form_parts false true true true displaced words fetch is = omega arith
form_parts false true false false displaced words fetch is = omega arith
form_parts false false true true displaced words fetch is = omega arith
form_parts false false false false displaced words fetch is = omega arith
form_parts goes border true false displaced words fetch is = cc
form_parts goes border false true displaced words fetch is = cc

pub way_parts : (begun border : Bool) (fetch read : ℕ) → (if begun && true then (if border then 5 else 0) * fetch + (if border then read else 0) else 0) ≡ (if border then (if begun then 1 else 0) else 0) * (5 * fetch + read)
way_parts true true fetch read = omega arith
way_parts true false fetch read = omega arith
way_parts false true fetch read = omega arith
way_parts false false fetch read = omega arith

no_way : (begun : Bool) (fetch : ℕ) → (if begun && true then 0 * fetch + 0 else 0) ≡ 0
no_way true fetch = omega arith
no_way false fetch = refl

abbrev first_words_at : Scene → List Transition → ℕ → ℕ
first_words_at w ms i =
    if at_border w ms i then (if ran_first w ms i then (unit_in (block_in w (block_at w ms i)) 0).words else 0) else 0

abbrev displaced_at : Scene → List Transition → ℕ → ℕ
displaced_at w ms i =
    if at_border w ms i then (if ran_first w ms i then displaced_words (kind_of (is_site w.graph) (block_in w (block_at w ms i)) 0) else 0) else 0

abbrev checked_at : Scene → List Transition → ℕ → ℕ
checked_at w ms i = if at_border w ms i then (if begins (starts_of w) ms i then 1 else 0) else 0

abbrev changed_at : Scene → List Transition → ℕ → ℕ
changed_at w ms i =
    if not (region_before w ms i == region_with w ms i) then switch_price w [] (region_before w ms i) (region_with w ms i) else 0

pub same_first : (b : Bool) (f : ℕ → ℕ) (k : ℕ) → (b ≡ true → k ≡ 0) → (if b then f k else 0) ≡ (if b then f 0 else 0)
same_first true f k zero_is = ap f (zero_is refl)
same_first false f k zero_is = refl

pub ran_is_first : (begun goes : Bool) (k : ℕ) → (k == 0) ≡ begun → begun && goes ≡ true → k ≡ 0
ran_is_first begun goes k is ran = eqb-true k 0 (is ∙ (both begun goes ran).0)

step_overlay : (w : Scene) (ms : List Transition) (i : ℕ) → Follows w ms → i < length ms → step_energy w (taken true []) ms i + first_words_at w ms i * w.board.prices.main_fetch ≡ step_energy w nothing_taken ms i + checked_at w ms i * arrival_price w.board.prices false true + displaced_at w ms i * w.board.prices.main_fetch + changed_at w ms i
step_overlay w ms i all below =
    let body = block_in w (block_at w ms i) in
    let k = unit_number w ms i in
    let goes = (transition_at ms i).goes_on in
    let border = at_border w ms i in
    let begun = begins (starts_of w) ms i in
    let fetch = w.board.prices.main_fetch in
    let read = w.board.prices.main_read in
    let words = (unit_in body k).words in
    let displaced = displaced_words (kind_of (is_site w.graph) body k) in
    let access = access_price w nothing_taken ms i in
    let first = first_begins w ms i all below in
    let zero_is = ran_is_first begun goes k first in
    let with_it : step_energy w (taken true []) ms i ≡ (if goes then (if border && (k == 0) then displaced else words) else 1) * fetch + access + (if begun && true then (if border then 5 else 0) * fetch + (if border then read else 0) else 0) + changed_at w ms i = refl in
    let without : step_energy w nothing_taken ms i ≡ (if goes then words else 1) * fetch + access + (if begun && true then 0 * fetch + 0 else 0) + 0 = refl in
    let form = form_parts goes border (k == 0) begun displaced words fetch first in
    let way = way_parts begun border fetch read in
    let none = no_way begun fetch in
    let first_words_is : first_words_at w ms i ≡ (if border then (if begun && goes then words else 0) else 0) =
    ap (λ x. if border then x else 0) (sym (same_first (begun && goes) (λ n. (unit_in body n).words) k zero_is)) in
    let displaced_is : displaced_at w ms i ≡ (if border then (if begun && goes then displaced else 0) else 0) =
    ap (λ x. if border then x else 0) (sym (same_first (begun && goes) (λ n. displaced_words (kind_of (is_site w.graph) body n)) k zero_is)) in
    let first_cost = ap (λ n. n * fetch) first_words_is in
    let displaced_cost = ap (λ n. n * fetch) displaced_is in
    omega (arith, with_it, without, form, way, none, first_cost, displaced_cost)

-- ---- a run

steps_overlay : (w : Scene) (ms : List Transition) → Follows w ms → steps_energy w (taken true []) ms + sum_below (first_words_at w ms) (length ms) * w.board.prices.main_fetch ≡ steps_energy w nothing_taken ms + sum_below (checked_at w ms) (length ms) * arrival_price w.board.prices false true + sum_below (displaced_at w ms) (length ms) * w.board.prices.main_fetch + sum_below (changed_at w ms) (length ms)
steps_overlay w ms all =
    let n = length ms in
    let fetch = w.board.prices.main_fetch in
    let check = arrival_price w.board.prices false true in
    let f = step_energy w (taken true []) ms in
    let g = step_energy w nothing_taken ms in
    let first = λ (i : ℕ). first_words_at w ms i * fetch in
    let checks = λ (i : ℕ). checked_at w ms i * check in
    let displaced = λ (i : ℕ). displaced_at w ms i * fetch in
    let same = sum_same (λ i. f i + first i) (λ i. g i + checks i + displaced i + changed_at w ms i) n (λ i below. step_overlay w ms i all below) in
    let left = sum_two f first n in
    let right = sum_two (λ i. g i + checks i + displaced i) (changed_at w ms) n in
    let middle = sum_two (λ i. g i + checks i) displaced n in
    let inner = sum_two g checks n in
    let first_sum = sum_times (first_words_at w ms) fetch n in
    let check_sum = sum_times (checked_at w ms) check n in
    let displaced_sum = sum_times (displaced_at w ms) fetch n in
    omega (arith, same, left, right, middle, inner, first_sum, check_sum, displaced_sum)

-- ---- overlay costs nothing less: a check runs more words than a unit has

check_more : (border begun goes : Bool) (words fetch read : ℕ) → words ≤ 2 → (if border then (if begun && goes then words else 0) else 0) * fetch ≤ (if border then (if begun then 1 else 0) else 0) * (5 * fetch + read)
check_more true true true words fetch read few = let most = mul-le-mul_right fetch few in omega (arith, most)
check_more true true false words fetch read few = omega arith
check_more true false goes words fetch read few = omega arith
check_more false begun goes words fetch read few = omega arith

step_costs : (w : Scene) (ms : List Transition) (i : ℕ) → Follows w ms → i < length ms → step_energy w nothing_taken ms i ≤ step_energy w (taken true []) ms i
step_costs w ms i all below =
    let at = all.each i below in
    let words = at.each_words 0 (let some = at.below in omega (arith, some)) in
    let step = step_overlay w ms i all below in
    let check = check_more (at_border w ms i) (begins (starts_of w) ms i) (transition_at ms i).goes_on (unit_in (block_in w (block_at w ms i)) 0).words w.board.prices.main_fetch w.board.prices.main_read words in
    omega (arith, step, check)

sum_more : (f g : ℕ → ℕ) (n : ℕ) → ((k : ℕ) → k < n → f k ≤ g k) → sum_below f n ≤ sum_below g n
sum_more f g zero each = omega arith
sum_more f g (suc n) each =
    let earlier = sum_more f g n (λ k below. each k (omega (arith, below))) in
    let last = each n (omega arith) in
    omega (arith, earlier, last)

pub overlay_costs : (w : Scene) (ms : List Transition) → Follows w ms → steps_energy w nothing_taken ms ≤ side_energy w (taken true []) ms
overlay_costs w ms all =
    let steps = sum_more (step_energy w nothing_taken ms) (step_energy w (taken true []) ms) (length ms) (λ i below. step_costs w ms i all below) in
    omega (arith, steps)

-- ---- checks

abbrev is_border : RegionTable → ℕ → Bool
is_border t b = slice_index_or t.border.items b false

value_if : (test : Bool) (x y : ℕ) → x ≡ y → (if test then x else 0) ≡ (if test then y else 0)
value_if test x y is = ap (λ n. if test then n else 0) is

pub checks_counted : (c : Code) (g : Graph) (t : RegionTable) (board : Board) (q : Profile) (ms : List Transition) → IsCountedRun c g t board q ms → checks_in q t.border.items (length c.blocks.items) ≡ sum_below (checked_at (scene_of g c t board) ms) (length ms)
checks_counted c g t board q ms run = began_where c g t board q ms (is_border t) run

-- ---- first units

abbrev begun_of : Scene → List Transition → ℕ → ℕ → ℕ
begun_of w ms b i = if block_at w ms i == b then (if begins (starts_of w) ms i then 1 else 0) else 0

abbrev first_of : Scene → List Transition → ℕ → ℕ → ℕ
first_of w ms b i = if block_at w ms i == b then (if ran_first w ms i then 1 else 0) else 0

going_first : (same begun goes : Bool) → goes ≡ true → ◌≡◌ {A = ℕ} (if same then (if begun then 1 else 0) else 0) (if same then (if begun && goes then 1 else 0) else 0)
going_first same true true is = refl
going_first same false goes is = refl
going_first same true false is = cc

ended_first : (same begun goes : Bool) → ◌≡◌ {A = ℕ} (if same then (if begun then 1 else 0) else 0) ((if same then (if begun && goes then 1 else 0) else 0) + (if same && begun && not goes then 1 else 0))
ended_first true true true = refl
ended_first true true false = refl
ended_first true false goes = refl
ended_first false begun goes = refl

same_places : (a b : ℕ) → (a == b) ≡ (b == a)
same_places a b =
    elim (cases_eq a b) [
      | inl same ↦
          let first : (a == b) ≡ true = grind (arith, nat_tests, same) in
          let second : (b == a) ≡ true = grind (arith, nat_tests, same) in
          first ∙ sym second
      | inr differs ↦
          let first : (a == b) ≡ false = grind (arith, nat_tests, differs) in
          let second : (b == a) ≡ false = grind (arith, nat_tests, differs) in
          first ∙ sym second
    ]

one_unit : (n k : ℕ) → n ≡ suc k → (n == 1) ≡ (k == 0)
one_unit n k is =
    elim (cases_eq k 0) [
      | inl same ↦
          let first : (n == 1) ≡ true = grind (arith, nat_tests, is, same) in
          let second : (k == 0) ≡ true = grind (arith, nat_tests, same) in
          first ∙ sym second
      | inr differs ↦
          let first : (n == 1) ≡ false = grind (arith, nat_tests, is, differs) in
          let second : (k == 0) ≡ false = grind (arith, nat_tests, differs) in
          first ∙ sym second
    ]

ends_is : (c : Code) (g : Graph) (t : RegionTable) (board : Board) (q : Profile) (ms : List Transition) (b : ℕ) → IsCountedRun c g t board q ms → ends_first q b ≡ (block_at (scene_of g c t board) ms (length ms - 1) == b) && begins (starts_of (scene_of g c t board)) ms (length ms - 1) && not (transition_at ms (length ms - 1)).goes_on
ends_is c g t board q ms b run =
    let w = scene_of g c t board in
    let i = length ms - 1 in
    let last = run.last in
    let below : i < length ms = omega (arith, last) in
    let block : (b == q.last.0) ≡ (block_at w ms i == b) = ap (λ a. b == a) run.block ∙ same_places b (block_at w ms i) in
    let unit : (q.last.1 == 1) ≡ begins (starts_of w) ms i =
    ap (λ n. n == 1) run.units ∙ (one_unit (units_run (starts_of w) ms i) (unit_number w ms i) (run.all.each i below).runs ∙ first_begins w ms i run.all below) in
    λ z. block z && unit z && not (sym run.goes z)

pub first_counted : (c : Code) (g : Graph) (t : RegionTable) (board : Board) (q : Profile) (ms : List Transition) (b : ℕ) → IsCountedRun c g t board q ms → b < length c.blocks.items → first_runs q b ≡ sum_below (first_of (scene_of g c t board) ms b) (length ms)
first_counted c g t board q ms b run inside =
    let w = scene_of g c t board in
    let i = length ms - 1 in
    let last = run.last in
    let arrivals : arrivals_in q b ≡ sum_below (begun_of w ms b) (suc i) =
    run.arrivals b inside ∙ (arrived_sum w ms b (length ms) ∙ ap (sum_below (begun_of w ms b)) run.last) in
    let before = sum_same (begun_of w ms b) (first_of w ms b) i (λ j under.
    going_first (block_at w ms j == b) (begins (starts_of w) ms j) (transition_at ms j).goes_on (run.all.goes_on j (omega (arith, under, last)))) in
    let here = ended_first (block_at w ms i == b) (begins (starts_of w) ms i) (transition_at ms i).goes_on in
    let ends = ap (λ (x : Bool). ◌+◌ 0 (if x then 1 else 0)) (ends_is c g t board q ms b run) in
    let whole : sum_below (first_of w ms b) (length ms) ≡ sum_below (first_of w ms b) (suc i) = ap (sum_below (first_of w ms b)) run.last in
    omega (arith, arrivals, before, here, ends, whole)

times_first : (same ran : Bool) (v : ℕ) → (if same then (if ran then 1 else 0) else 0) * v ≡ (if same then (if ran then v else 0) else 0)
times_first true true v = omega arith
times_first true false v = omega arith
times_first false ran v = omega arith

pub values_to : (c : Code) (g : Graph) (t : RegionTable) (board : Board) (q : Profile) (ms : List Transition) (to : ℕ → Bool) (v : ℕ → ℕ) → IsCountedRun c g t board q ms → sum_below (λ b. if to b then first_runs q b * v b else 0) (length c.blocks.items) ≡ sum_below (λ i. if to (block_at (scene_of g c t board) ms i) then (if ran_first (scene_of g c t board) ms i then v (block_at (scene_of g c t board) ms i) else 0) else 0) (length ms)
values_to c g t board q ms to v run =
    let w = scene_of g c t board in
    let n = length ms in
    sum_same (λ b. if to b then first_runs q b * v b else 0) (λ b. if to b then sum_below (λ i. if block_at w ms i == b then (if ran_first w ms i then v b else 0) else 0) n else 0) (length c.blocks.items)
    (λ b below. value_if (to b) (first_runs q b * v b) (sum_below (λ i. if block_at w ms i == b then (if ran_first w ms i then v b else 0) else 0) n)
    (ap (λ x. x * v b) (first_counted c g t board q ms b run below)
    ∙ (sym (sum_times (first_of w ms b) (v b) n)
    ∙ sum_same (λ i. first_of w ms b i * v b) (λ i. if block_at w ms i == b then (if ran_first w ms i then v b else 0) else 0) n (λ i under. times_first (block_at w ms i == b) (ran_first w ms i) (v b)))))
    ∙ by_places to (λ b i. if ran_first w ms i then v b else 0) (block_at w ms) (length c.blocks.items) n (λ i below. (run.all.each i below).inside)

values_counted : (c : Code) (g : Graph) (t : RegionTable) (board : Board) (q : Profile) (ms : List Transition) (v : ℕ → ℕ) → IsCountedRun c g t board q ms → at_borders t.border.items (λ b. first_runs q b * v b) (length c.blocks.items) ≡ sum_below (λ i. if at_border (scene_of g c t board) ms i then (if ran_first (scene_of g c t board) ms i then v (block_at (scene_of g c t board) ms i) else 0) else 0) (length ms)
values_counted c g t board q ms v run = values_to c g t board q ms (is_border t) v run

-- ---- changes of the current region

price_changes : (view : ElfView) (board : Board) (g : Graph) (c : Code) (t : RegionTable) (q : Profile) (ms : List Transition) → AreOfSameFile view board g c t q ms → changes_price (scene_of g c t board) q ≡ sum_below (changed_at (scene_of g c t board) ms) (length ms)
price_changes view board g c t q ms given =
    let w = scene_of g c t board in
    let table = given.run.profile.switches in
    let size = suc t.count in
    let count = switches_of (starts_of w) w.regions ms in
    let price = switch_price w [] in
    sum_same (λ s. sum_below (λ r. entry (plain_rows q.switches.items) s r * price s r) size) (λ s. sum_below (λ r. count s r * price s r) size) size
    (λ s from. sum_same (λ r. entry (plain_rows q.switches.items) s r * price s r) (λ r. count s r * price s r) size (λ r to. ap (λ n. n * price s r) (table.counts s r from to)))
    ∙ changes_counted (λ s r. not (s == r)) price (region_before w ms) (region_with w ms) size size (length ms)
    (λ i below. let fits = current_fits (starts_of w) w.regions ms t.count i t.within in omega (arith, fits))
    (λ i below. let fits = current_fits (starts_of w) w.regions ms t.count (suc i) t.within in omega (arith, fits))

-- ---- all of it

pub overlay_counted : OneInstruction → OverlayIsCounted
overlay_counted one view board g c t q ms given =
    let w = scene_of g c t board in
    let run = counted_run one view board g c t q ms given in
    let steps = steps_overlay w ms run.all in
    let fetch = board.prices.main_fetch in
    let check = arrival_price board.prices false true in
    let checks = ap (λ n. n * check) (checks_counted c g t board q ms run) in
    let first = ap (λ n. n * fetch) (values_counted c g t board q ms (λ b. (unit_in (body_at c.blocks.items b) 0).words) run) in
    let displaced = ap (λ n. n * fetch) (values_counted c g t board q ms (λ b. displaced_words (kind_of (is_site g) (body_at c.blocks.items b) 0)) run) in
    let changes = price_changes view board g c t q ms given in
    omega (arith, steps, checks, first, displaced, changes)
