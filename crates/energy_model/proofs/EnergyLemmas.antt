-- The energy of a run where objects alone are taken.
use Rattle.std.proofs.Common.{◌≡◌, ◌∙◌, ℕ, zero, suc, ◌+◌, ◌*◌, ◌<◌, ◌≤◌, ◌==◌, Bool, true, false, ◌&&◌, List, [], ◌∷◌, length, Option, Some, None, refl, ap, arith, if◌then◌else◌}
use Rattle.std.specs.List.{All}
use Rattle.list_checks.specs.Sorted.{count_below, sum_below}
use Rattle.board_config.specs.declared.board.Prices.{Prices}
use Rattle.object_machine.specs.declared.events.Access.{Access}
use Rattle.profile_runner.proofs.CountLemmas.{sum_more as grown_by}
use Rattle.profile_runner.specs.Transition.{Transition, transition_at}
use Rattle.profile_runner.specs.Standing.{number_of, begins, region_of, entered, current}
use Rattle.profile_runner.specs.Counts.{same_direction, is_access_to, accesses_of}
use Rattle.list_checks.proofs.SumLemmas.{sum_same, sum_zero}
use Rattle.energy_model.specs.Energy.{Scene, starts_of, block_at, unit_number, region_with, read_price, write_price, is_fast_access, data_price, access_price, step_energy, steps_energy, nothing_taken}
use Rattle.energy_model.specs.Priced.{price_at, direction_price, touch_price, touches_price}
use Rattle.energy_model.proofs.SceneLemmas.{unit_of_transition, Follows}
use Rattle.energy_model.proofs.SumLemmas.{block_sum, blocks_sum, transitions_sum, ran}

-- ---- nothing taken

none_fast : (r : ℕ) (access : Option Access) → is_fast_access [] r access ≡ false
none_fast r None = refl
none_fast r (Some a) = refl

no_way : (begun : Bool) (fetch : ℕ) → (if begun && true then 0 * fetch + 0 else 0) ≡ 0
no_way true fetch = omega arith
no_way false fetch = refl

home_parts : (goes_on : Bool) (words fetch load : ℕ) → (if goes_on then words else 1) * fetch + (if goes_on then load else 0) ≡ (if goes_on then words * fetch + load else fetch)
home_parts true words fetch load = refl
home_parts false words fetch load = omega arith

pub home_step : (w : Scene) (ms : List Transition) (i : ℕ) → step_energy w nothing_taken ms i ≡ (if (transition_at ms i).goes_on then price_at w (block_at w ms i) (unit_number w ms i) else w.board.prices.main_fetch)
home_step w ms i =
    let u = unit_of_transition w ms i in
    let prices = w.board.prices in
    let access : access_price w nothing_taken ms i ≡ (if (transition_at ms i).goes_on then data_price prices false u.instr else 0) =
    ap (λ (fast : Bool). if (transition_at ms i).goes_on then data_price prices fast u.instr else 0) (none_fast (region_with w ms i) (transition_at ms i).access) in
    let way = no_way (begins (starts_of w) ms i) prices.main_fetch in
    let sum : step_energy w nothing_taken ms i ≡ (if (transition_at ms i).goes_on then u.words else 1) * prices.main_fetch + access_price w nothing_taken ms i + (if begins (starts_of w) ms i && true then 0 * prices.main_fetch + 0 else 0) + 0 = refl in
    let parts = home_parts (transition_at ms i).goes_on u.words prices.main_fetch (data_price prices false u.instr) in
    omega (arith, access, way, sum, parts)

-- what the last step costs
abbrev pub last_price : Scene → List Transition → ℕ → ℕ
last_price w ms i =
    if (transition_at ms i).goes_on then price_at w (block_at w ms i) (unit_number w ms i) else w.board.prices.main_fetch

going_price : (b : Bool) (x y : ℕ) → b ≡ true → (if b then x else y) ≡ x
going_price b x y is = rw is refl

before_last : (w : Scene) (ms : List Transition) (i : ℕ) → Follows w ms → i < length ms → sum_below (step_energy w nothing_taken ms) i ≡ transitions_sum w ms (price_at w) i
before_last w ms i all below =
    sum_same (step_energy w nothing_taken ms) (λ j. price_at w (block_at w ms j) (unit_number w ms j)) i (λ j inside.
    home_step w ms j ∙ going_price (transition_at ms j).goes_on (price_at w (block_at w ms j) (unit_number w ms j)) w.board.prices.main_fetch (all.goes_on j (omega (arith, inside, below))))

-- the energy of a run with nothing taken, by how often each block began: the last block didn't run whole, and its
-- last unit may have ended the run
pub base_is : (w : Scene) (ms : List Transition) (i : ℕ) → Follows w ms → length ms ≡ suc i → steps_energy w nothing_taken ms + block_sum w (price_at w) (block_at w ms i) ≡ blocks_sum w ms (price_at w) (length ms) + sum_below (price_at w (block_at w ms i)) (unit_number w ms i) + last_price w ms i
base_is w ms i all last =
    let below : i < length ms = omega (arith, last) in
    let before = before_last w ms i all below in
    let here = home_step w ms i in
    let units = ran w ms (price_at w) i all below in
    let energy : steps_energy w nothing_taken ms ≡ sum_below (step_energy w nothing_taken ms) (suc i) = ap (sum_below (step_energy w nothing_taken ms)) last in
    let blocks : blocks_sum w ms (price_at w) (length ms) ≡ blocks_sum w ms (price_at w) (suc i) = ap (blocks_sum w ms (price_at w)) last in
    omega (arith, before, here, units, energy, blocks)

-- ---- the accesses to an object, counted

abbrev pub touched : List Transition → Bool → ℕ → ℕ → ℕ
touched ms write o n = count_below (λ i. is_access_to write o (transition_at ms i).access) n

by_direction : (prices : Prices) (fast : Bool) (same write : Bool) → (if same then direction_price prices fast write else 0) ≡ (if same && same_direction false write then 1 else 0) * read_price fast prices + (if same && same_direction true write then 1 else 0) * write_price fast prices
by_direction prices fast true true = omega arith
by_direction prices fast true false = omega arith
by_direction prices fast false write = omega arith

touch_is : (prices : Prices) (fast : Bool) (o : ℕ) (access : Option Access) → touch_price prices fast o access ≡ (if is_access_to false o access then 1 else 0) * read_price fast prices + (if is_access_to true o access then 1 else 0) * write_price fast prices
touch_is prices fast o None = omega arith
touch_is prices fast o (Some a) = by_direction prices fast (a.object == o) a.write

add_times : (c d x : ℕ) → (c + d) * x ≡ c * x + d * x
add_times c d x = grind arith

touches_below : (prices : Prices) (ms : List Transition) (fast : Bool) (o n : ℕ) → sum_below (λ i. touch_price prices fast o (transition_at ms i).access) n ≡ touched ms false o n * read_price fast prices + touched ms true o n * write_price fast prices
touches_below prices ms fast o zero = omega arith
touches_below prices ms fast o (suc n) =
    let earlier = touches_below prices ms fast o n in
    let here = touch_is prices fast o (transition_at ms n).access in
    let reads = add_times (touched ms false o n) (if is_access_to false o (transition_at ms n).access then 1 else 0) (read_price fast prices) in
    let writes = add_times (touched ms true o n) (if is_access_to true o (transition_at ms n).access then 1 else 0) (write_price fast prices) in
    omega (arith, earlier, here, reads, writes)

pub touches_are : (w : Scene) (ms : List Transition) (fast : Bool) (o : ℕ) → touches_price w ms fast o ≡ touched ms false o (length ms) * read_price fast w.board.prices + touched ms true o (length ms) * write_price fast w.board.prices
touches_are w ms fast o = touches_below w.board.prices ms fast o (length ms)

-- ---- by regions

split_below : (test : ℕ → Bool) (now : ℕ → ℕ) (last n : ℕ) → ((i : ℕ) → now i ≤ last) → sum_below (λ r. count_below (λ i. test i && (now i == r)) n) (suc last) ≡ count_below test n
split_below test now last zero within = sum_zero (λ r. 0) (suc last) (λ r below. refl)
split_below test now last (suc n) within =
    let earlier = split_below test now last n within in
    let at = within n in
    let more = grown_by (λ r. count_below (λ i. test i && (now i == r)) n) (λ r. count_below (λ i. test i && (now i == r)) (suc n)) (test n) (now n) (suc last) (omega (arith, at)) (λ r below. refl) in
    omega (arith, earlier, more)

region_fits : (regions : List ℕ) (last k : ℕ) → All (λ r. r ≤ last) regions → region_of regions k ≤ last
region_fits [] last k all = omega arith
region_fits (r ∷ regions) last zero all = all 0 0 (omega arith)
region_fits (r ∷ regions) last (suc k) all = region_fits regions last k (λ j d below. all (suc j) d (omega (arith, below)))

entered_fits : (last c r : ℕ) → c ≤ last → r ≤ last → entered c r ≤ last
entered_fits last c zero first second = first
entered_fits last c (suc r) first second = second

current_choice : (last x y : ℕ) (b : Bool) → x ≤ last → y ≤ last → (if b then x else y) ≤ last
current_choice last x y true first second = first
current_choice last x y false first second = second

pub current_fits : (starts regions : List ℕ) (ms : List Transition) (last i : ℕ) → All (λ r. r ≤ last) regions → current starts regions ms i ≤ last
current_fits starts regions ms last zero all = omega arith
current_fits starts regions ms last (suc i) all =
    let earlier = current_fits starts regions ms last i all in
    let k = number_of starts (transition_at ms i).at in
    current_choice last (entered (current starts regions ms i) (region_of regions k)) (current starts regions ms i) (begins starts ms i)
    (entered_fits last (current starts regions ms i) (region_of regions k) earlier (region_fits regions last k all)) earlier

-- the accesses to an object are those in all regions
pub by_regions : (starts regions : List ℕ) (ms : List Transition) (last : ℕ) (write : Bool) (o : ℕ) → All (λ r. r ≤ last) regions → sum_below (accesses_of starts regions ms write o) (suc last) ≡ touched ms write o (length ms)
by_regions starts regions ms last write o all =
    split_below (λ i. is_access_to write o (transition_at ms i).access) (λ i. current starts regions ms (suc i)) last (length ms) (λ i. current_fits starts regions ms last (suc i) all)
