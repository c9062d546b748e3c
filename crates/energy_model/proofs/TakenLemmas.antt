-- The energy of a run with one item more in the scratchpad, without overlay.
use Rattle.std.proofs.Common.{◌≡◌, ◌∙◌, inl, inr, ℕ, ◌+◌, ◌*◌, ◌<◌, ◌==◌, Bool, true, false, not, ◌&&◌, ◌||◌, List, [], ◌∷◌, length, is_some, Option, Some, None, refl, ap, arith, if◌then◌else◌}
use Rattle.std.proofs.lemmas.Bool.{cases_eq}
use Rattle.std.proofs.lemmas.Bool.Decides.{nat_tests}
use Rattle.rv32im.specs.declared.instructions.Instr.{Instr}
use Rattle.board_config.specs.declared.board.Prices.{Prices}
use Rattle.object_machine.specs.declared.events.Access.{Access}
use Rattle.placement_programme.specs.declared.variables.VarName.{VarName}
use Rattle.placement_programme.specs.declared.variables.VarName.TheVariants.{StaticData, StaticCode, OverlayData, OverlayCode, KeptData}
use Rattle.profile_runner.specs.Transition.{Transition, transition_at}
use Rattle.profile_runner.specs.Standing.{begins}
use Rattle.list_checks.specs.Sorted.{sum_below}
use Rattle.list_checks.proofs.SumLemmas.{sum_same}
use Rattle.block_splitter.specs.declared.block_range.BlockRange.{BlockRange}
use Rattle.block_splitter.specs.Forms.{holds_block}
use Rattle.energy_model.specs.Energy.{Scene, Taken, covering, piece_of, is_fast, starts_of, block_in, block_at, unit_number, region_with, words_in_piece, form_words, fetch_price, is_fast_access, data_price, access_price, is_internal, comes_from_outside, arrival_price, step_energy, steps_energy}
use Rattle.energy_model.specs.Priced.{touch_price, range, IsStatic, IsApart, IsApartFrom, AreApart}
use Rattle.energy_model.proofs.StepLemmas.{IsAccessOf}
use Rattle.energy_model.proofs.SceneLemmas.{unit_of_transition, Follows}
use Rattle.energy_model.proofs.SumLemmas.{sum_two}

-- some items are taken, without overlay
abbrev pub off_taken : List VarName → Taken
off_taken names = record { on = false; names = names }

-- ---- what a step costs by an item, where that is at home and where it is in the scratchpad

abbrev pub fetched_at_home : Scene → List Transition → ℕ → ℕ
fetched_at_home w ms i = if (transition_at ms i).goes_on then (unit_of_transition w ms i).words else 1

abbrev pub fetched_in_copy : Scene → BlockRange → List Transition → ℕ → ℕ
fetched_in_copy w piece ms i =
    if (transition_at ms i).goes_on
    then words_in_piece w piece (block_in w (block_at w ms i)) (unit_number w ms i) (transition_at ms i).next
    else 1

-- control comes to a block of a piece from outside
abbrev pub comes_in : Scene → BlockRange → List Transition → ℕ → Bool
comes_in w piece ms i = begins (starts_of w) ms i && not (is_internal w piece ms i)

abbrev pub is_held : Scene → BlockRange → List Transition → ℕ → Bool
is_held w piece ms i = holds_block (block_at w ms i) piece

abbrev pub home_fetches : Scene → BlockRange → List Transition → ℕ → ℕ
home_fetches w piece ms i = fetched_at_home w ms i * w.board.prices.main_fetch

abbrev pub copy_fetches : Scene → BlockRange → List Transition → ℕ → ℕ
copy_fetches w piece ms i =
    fetched_in_copy w piece ms i * w.board.prices.spm_fetch
    + (if comes_in w piece ms i then 3 * w.board.prices.main_fetch else 0)

abbrev pub price_in : Bool → Scene → List Transition → VarName → ℕ → ℕ
price_in fast w ms (StaticData o) i = touch_price w.board.prices fast o (transition_at ms i).access
price_in fast w ms (StaticCode first last) i =
    if is_held w (range first last) ms i then (if fast then copy_fetches w (range first last) ms i else home_fetches w (range first last) ms i) else 0
price_in fast w ms (OverlayData r o) i = 0
price_in fast w ms (OverlayCode r first last) i = 0
price_in fast w ms (KeptData pair o) i = 0

abbrev pub slow_price : Scene → List Transition → VarName → ℕ → ℕ
slow_price = price_in false

abbrev pub fast_price : Scene → List Transition → VarName → ℕ → ℕ
fast_price = price_in true

-- ---- an item that has nothing in common with others

abbrev IsFresh : VarName → List VarName → Type 0
IsFresh (StaticData o) names = (r : ℕ) → is_fast names o r ≡ false
IsFresh (StaticCode first last) names = (b : ℕ) → holds_block b (range first last) ≡ true → piece_of names b ≡ None
IsFresh (OverlayData r o) names = ⊥
IsFresh (OverlayCode r first last) names = ⊥
IsFresh (KeptData pair o) names = ⊥

either_false : (a b : Bool) → a ≡ false → b ≡ false → a || b ≡ false
either_false a b first second = rw (first, second) refl

not_covered : (b : ℕ) (p : BlockRange) (o : Option BlockRange) → holds_block b p ≡ false → o ≡ None → covering b (Some p) o ≡ None
not_covered b p o other none = ap (λ (h : Bool). if h then Some p else o) other ∙ none

static_data : (o : ℕ) (name : VarName) (names : List VarName) (r : ℕ) → IsStatic name → IsApart (StaticData o) name → is_fast names o r ≡ false → is_fast (name ∷ names) o r ≡ false
static_data o (StaticData other) names r static apart rest = either_false (o == other) (is_fast names o r) apart rest
static_data o (StaticCode first last) names r static apart rest = rest
static_data o (OverlayData s other) names r static apart rest = absurd static
static_data o (OverlayCode s first last) names r static apart rest = absurd static
static_data o (KeptData pair other) names r static apart rest = absurd static

static_code : (first last : ℕ) (name : VarName) (names : List VarName) (b : ℕ) → IsStatic name → IsApart (StaticCode first last) name → holds_block b (range first last) ≡ true → piece_of names b ≡ None → piece_of (name ∷ names) b ≡ None
static_code first last (StaticData other) names b static apart held rest = rest
static_code first last (StaticCode other other_last) names b static apart held rest = not_covered b (range other other_last) (piece_of names b) (apart b held) rest
static_code first last (OverlayData s other) names b static apart held rest = absurd static
static_code first last (OverlayCode s other other_last) names b static apart held rest = absurd static
static_code first last (KeptData pair other) names b static apart held rest = absurd static

abbrev AreStatic : List VarName → Type 0
AreStatic [] = Prim.Unit {0}
AreStatic (name ∷ names) = IsStatic name × AreStatic names

data_fresh : (o : ℕ) (names : List VarName) → AreStatic names → IsApartFrom (StaticData o) names → IsFresh (StaticData o) names
data_fresh o [] static apart r = refl
data_fresh o (name ∷ names) static apart r =
    static_data o name names r static.0 apart.0 (data_fresh o names static.1 apart.1 r)

code_fresh : (first last : ℕ) (names : List VarName) → AreStatic names → IsApartFrom (StaticCode first last) names → IsFresh (StaticCode first last) names
code_fresh first last [] static apart b held = refl
code_fresh first last (name ∷ names) static apart b held =
    static_code first last name names b static.0 apart.0 held (code_fresh first last names static.1 apart.1 b held)

pub itself_static : (name : VarName) (names : List VarName) → IsApartFrom name names → IsStatic name
itself_static name [] apart = apart
itself_static name (other ∷ names) apart = itself_static name names apart.1

all_static : (names : List VarName) → AreApart names → AreStatic names
all_static [] apart = tt
all_static (name ∷ names) apart = (itself_static name names apart.0, all_static names apart.1)

fresh : (name : VarName) (names : List VarName) → AreStatic names → IsStatic name → IsApartFrom name names → IsFresh name names
fresh (StaticData o) names static own apart = data_fresh o names static apart
fresh (StaticCode first last) names static own apart = code_fresh first last names static apart
fresh (OverlayData r o) names static own apart = absurd own
fresh (OverlayCode r first last) names static own apart = absurd own
fresh (KeptData pair o) names static own apart = absurd own

-- ---- a step

one_access : (prices : Prices) (names : List VarName) (o r : ℕ) (access : Option Access) (goes_on : Bool) (instr : Option Instr) → IsAccessOf access goes_on instr → is_fast names o r ≡ false → (if goes_on then data_price prices (is_fast_access (StaticData o ∷ names) r access) instr else 0) + touch_price prices false o access ≡ (if goes_on then data_price prices (is_fast_access names r access) instr else 0) + touch_price prices true o access
one_access prices names o r None goes_on instr is free = refl
one_access prices names o r (Some a) goes_on instr is free =
    let on = is.0 in
    let slow = is.1 prices false in
    let fast = is.1 prices true in
    elim (cases_eq a.object o) [
      | inl same ↦
          let test : (a.object == o) ≡ true = grind (arith, nat_tests, same) in
          let none : is_fast names a.object r ≡ false = ap (λ n. is_fast names n r) same ∙ free in
          rw (on, test, none) (omega (arith, slow, fast))
      | inr differs ↦
          let test : (a.object == o) ≡ false = grind (arith, nat_tests, differs) in
          rw (test) refl
    ]

same_access : (names : List VarName) (first last r : ℕ) (access : Option Access) → is_fast_access (StaticCode first last ∷ names) r access ≡ is_fast_access names r access
same_access names first last r None = refl
same_access names first last r (Some a) = refl

-- what a step costs by the piece of which its block is copied
abbrev by_piece : Scene → List Transition → ℕ → Option BlockRange → ℕ
by_piece w ms i o =
    form_words o w false (block_in w (block_at w ms i)) (unit_number w ms i) (transition_at ms i) * fetch_price o w.board.prices
    + (if begins (starts_of w) ms i && comes_from_outside w o ms i then arrival_price w.board.prices (is_some o) false else 0)

step_parts : (w : Scene) (names : List VarName) (ms : List Transition) (i : ℕ) → step_energy w (off_taken names) ms i ≡ by_piece w ms i (piece_of names (block_at w ms i)) + access_price w (off_taken names) ms i
step_parts w names ms i =
    let o = piece_of names (block_at w ms i) in
    let words = form_words o w false (block_in w (block_at w ms i)) (unit_number w ms i) (transition_at ms i) * fetch_price o w.board.prices in
    let way = if begins (starts_of w) ms i && comes_from_outside w o ms i then arrival_price w.board.prices (is_some o) false else 0 in
    let sum : step_energy w (off_taken names) ms i ≡ words + access_price w (off_taken names) ms i + way + 0 = refl in
    omega (arith, sum)

outside_price : (begun outside : Bool) (fetch : ℕ) → (if begun && outside then 3 * fetch + 0 else 0) ≡ (if begun && outside then 3 * fetch else 0)
outside_price true true fetch = omega arith
outside_price true false fetch = refl
outside_price false outside fetch = refl

home_way : (begun : Bool) (fetch : ℕ) → (if begun && true then 0 * fetch + 0 else 0) ≡ 0
home_way true fetch = omega arith
home_way false fetch = refl

copy_parts : (w : Scene) (ms : List Transition) (i : ℕ) (p : BlockRange) → by_piece w ms i (Some p) ≡ copy_fetches w p ms i
copy_parts w ms i p =
    let way = outside_price (begins (starts_of w) ms i) (not (is_internal w p ms i)) w.board.prices.main_fetch in
    let sum : by_piece w ms i (Some p) ≡ fetched_in_copy w p ms i * w.board.prices.spm_fetch + (if begins (starts_of w) ms i && not (is_internal w p ms i) then 3 * w.board.prices.main_fetch + 0 else 0) = refl in
    omega (arith, way, sum)

home_parts : (w : Scene) (ms : List Transition) (i : ℕ) (p : BlockRange) → by_piece w ms i None ≡ home_fetches w p ms i
home_parts w ms i p =
    let way = home_way (begins (starts_of w) ms i) w.board.prices.main_fetch in
    let sum : by_piece w ms i None ≡ fetched_at_home w ms i * w.board.prices.main_fetch + (if begins (starts_of w) ms i && true then 0 * w.board.prices.main_fetch + 0 else 0) = refl in
    omega (arith, way, sum)

one_piece : (w : Scene) (ms : List Transition) (i : ℕ) (p : BlockRange) (held : Bool) (o : Option BlockRange) → (held ≡ true → o ≡ None) → by_piece w ms i (if held then Some p else o) + (if held then home_fetches w p ms i else 0) ≡ by_piece w ms i o + (if held then copy_fetches w p ms i else 0)
one_piece w ms i p false o free = refl
one_piece w ms i p true (Some other) free = let none = free refl in cc
one_piece w ms i p true None free =
    let copied = copy_parts w ms i p in
    let home = home_parts w ms i p in
    omega (arith, copied, home)

step_more : (w : Scene) (name : VarName) (names : List VarName) (ms : List Transition) (i : ℕ) → Follows w ms → i < length ms → IsFresh name names → step_energy w (off_taken (name ∷ names)) ms i + slow_price w ms name i ≡ step_energy w (off_taken names) ms i + fast_price w ms name i
step_more w (StaticData o) names ms i all below free =
    let u = unit_of_transition w ms i in
    let r = region_with w ms i in
    let with_it = step_parts w (StaticData o ∷ names) ms i in
    let without = step_parts w names ms i in
    let access = one_access w.board.prices names o r (transition_at ms i).access (transition_at ms i).goes_on u.instr (all.each i below).access (free r) in
    omega (arith, with_it, without, access)
step_more w (StaticCode first last) names ms i all below free =
    let p = range first last in
    let u = unit_of_transition w ms i in
    let with_it = step_parts w (StaticCode first last ∷ names) ms i in
    let without = step_parts w names ms i in
    let piece = one_piece w ms i p (is_held w p ms i) (piece_of names (block_at w ms i)) (free (block_at w ms i)) in
    let access : access_price w (off_taken (StaticCode first last ∷ names)) ms i ≡ access_price w (off_taken names) ms i =
    ap (λ (fast : Bool). if (transition_at ms i).goes_on then data_price w.board.prices fast u.instr else 0) (same_access names first last (region_with w ms i) (transition_at ms i).access) in
    omega (arith, with_it, without, piece, access)
step_more w (OverlayData r o) names ms i all below free = absurd free
step_more w (OverlayCode r first last) names ms i all below free = absurd free
step_more w (KeptData pair o) names ms i all below free = absurd free

-- ---- a run

abbrev pub slow_sum : Scene → List Transition → VarName → ℕ
slow_sum w ms name = sum_below (slow_price w ms name) (length ms)

abbrev pub fast_sum : Scene → List Transition → VarName → ℕ
fast_sum w ms name = sum_below (fast_price w ms name) (length ms)

more_taken : (w : Scene) (name : VarName) (names : List VarName) (ms : List Transition) → Follows w ms → IsFresh name names → steps_energy w (off_taken (name ∷ names)) ms + slow_sum w ms name ≡ steps_energy w (off_taken names) ms + fast_sum w ms name
more_taken w name names ms all free =
    let f = step_energy w (off_taken (name ∷ names)) ms in
    let g = step_energy w (off_taken names) ms in
    let same = sum_same (λ i. f i + slow_price w ms name i) (λ i. g i + fast_price w ms name i) (length ms) (λ i below. step_more w name names ms i all below free) in
    let left = sum_two f (slow_price w ms name) (length ms) in
    let right = sum_two g (fast_price w ms name) (length ms) in
    omega (arith, same, left, right)

-- an item that has nothing in common with those that are taken
pub one_more : (w : Scene) (name : VarName) (names : List VarName) (ms : List Transition) → Follows w ms → AreApart (name ∷ names) → steps_energy w (off_taken (name ∷ names)) ms + slow_sum w ms name ≡ steps_energy w (off_taken names) ms + fast_sum w ms name
one_more w name names ms all apart =
    more_taken w name names ms all (fresh name names (all_static names apart.1) (itself_static name names apart.0) apart.0)
