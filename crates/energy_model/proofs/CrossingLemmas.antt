-- The edges of a profile, summed over the transitions that cross from block to block.
use Rattle.std.proofs.Common.{◌≡◌, ◌∙◌, inl, inr, ℕ, zero, suc, ◌+◌, ◌*◌, ◌<◌, ◌==◌, nat_lt, Bool, true, false, ◌&&◌, List, [], ◌∷◌, length, refl, sym, ap, arith, if◌then◌else◌}
use Rattle.std.proofs.lemmas.Bool.{cases_eq}
use Rattle.std.proofs.lemmas.Bool.Decides.{nat_tests}
use Rattle.list_checks.proofs.SumLemmas.{sum_zero, sum_same}
use Rattle.list_checks.specs.Sorted.{count_below, sum_below}
use Rattle.code_blocks.specs.Early.{has}
use Rattle.profile_runner.specs.declared.counts.Edge.{Edge}
use Rattle.profile_runner.specs.Transition.{Transition, transition_at}
use Rattle.profile_runner.specs.Standing.{number_of, block_of}
use Rattle.profile_runner.specs.Counts.{is_edge, edges_of, count_in, AreEdges}
use Rattle.energy_model.specs.Copied.{leaving, coming}
use Rattle.energy_model.proofs.SumLemmas.{sum_two}
use Rattle.energy_model.proofs.PlaceLemmas.{single_below, by_places, edges_from, edges_to}

-- the number of the block to which a transition leads, if it goes on and one begins there
abbrev pub next_number : List ℕ → List Transition → ℕ → ℕ
next_number starts ms i = number_of starts (transition_at ms i).next

abbrev pub crosses : List ℕ → List Transition → ℕ → Bool
crosses starts ms i = (transition_at ms i).goes_on && nat_lt (next_number starts ms i) (length starts)

abbrev pub crossing : List ℕ → List Transition → (ℕ → ℕ → ℕ) → ℕ → ℕ
crossing starts ms value i =
    if crosses starts ms i then value (block_of starts ms i) (next_number starts ms i) else 0

-- ---- the edges from a block

add_times : (c d x : ℕ) → (c + d) * x ≡ c * x + d * x
add_times c d x = grind arith

times_edge : (go same under here : Bool) (x : ℕ) → under ≡ true → (if go && same && (under && here) then 1 else 0) * x ≡ (if here then (if go && same then x else 0) else 0)
times_edge go same under here x is = grind (arith, is)

swapped : (go same under : Bool) (x : ℕ) → (if under then (if go && same then x else 0) else 0) ≡ (if same then (if go && under then x else 0) else 0)
swapped go same under x = grind arith

counted_from : (starts : List ℕ) (ms : List Transition) (a n : ℕ) (value : ℕ → ℕ) → sum_below (λ b. count_below (is_edge starts ms a b) n * value b) (length starts) ≡ sum_below (λ i. if block_of starts ms i == a then (if crosses starts ms i then value (next_number starts ms i) else 0) else 0) n
counted_from starts ms a zero value = sum_zero (λ b. 0 * value b) (length starts) (λ b below. omega arith)
counted_from starts ms a (suc n) value =
    let earlier = counted_from starts ms a n value in
    let size = length starts in
    let go = (transition_at ms n).goes_on in
    let same = block_of starts ms n == a in
    let next = next_number starts ms n in
    let before = λ (b : ℕ). count_below (is_edge starts ms a b) n * value b in
    let here = λ (b : ℕ). if next == b then (if go && same then value b else 0) else 0 in
    let each = sum_same (λ b. count_below (is_edge starts ms a b) (suc n) * value b) (λ b. before b + here b) size (λ b below.
    let under : nat_lt b size ≡ true = grind (arith, nat_tests, below) in
    let times = times_edge go same (nat_lt b size) (next == b) (value b) under in
    let sum = add_times (count_below (is_edge starts ms a b) n) (if is_edge starts ms a b n then 1 else 0) (value b) in
    omega (arith, times, sum)) in
    let two = sum_two before here size in
    let one = single_below (λ b. if go && same then value b else 0) next size in
    let order = swapped go same (nat_lt next size) (value next) in
    omega (arith, earlier, each, two, one, order)

pub edges_leave : (starts : List ℕ) (ms : List Transition) (edges : List Edge) (a : ℕ) (value : ℕ → ℕ) → AreEdges edges (length starts) (edges_of starts ms) → a < length starts → leaving edges a value ≡ sum_below (λ i. if block_of starts ms i == a then (if crosses starts ms i then value (next_number starts ms i) else 0) else 0) (length ms)
edges_leave starts ms edges a value are below =
    edges_from edges (length starts) a value are.ordered are.within
    ∙ (sum_same (λ b. count_in edges a b * value b) (λ b. edges_of starts ms a b * value b) (length starts) (λ b inside. ap (λ n. n * value b) (are.counts a b below inside))
    ∙ counted_from starts ms a (length ms) value)

-- ---- the edges from the blocks that pass a test

same_if : (test : Bool) (x y : ℕ) → x ≡ y → (if test then x else 0) ≡ (if test then y else 0)
same_if true x y is = is
same_if false x y is = refl

pub edges_cross : (starts : List ℕ) (ms : List Transition) (edges : List Edge) (test : ℕ → Bool) (value : ℕ → ℕ → ℕ) → AreEdges edges (length starts) (edges_of starts ms) → ((i : ℕ) → i < length ms → block_of starts ms i < length starts) → sum_below (λ a. if test a then leaving edges a (value a) else 0) (length starts) ≡ sum_below (λ i. if test (block_of starts ms i) then crossing starts ms value i else 0) (length ms)
edges_cross starts ms edges test value are within =
    sum_same (λ a. if test a then leaving edges a (value a) else 0)
    (λ a. if test a then sum_below (λ i. if block_of starts ms i == a then (if crosses starts ms i then value a (next_number starts ms i) else 0) else 0) (length ms) else 0) (length starts)
    (λ a below. same_if (test a) (leaving edges a (value a)) (sum_below (λ i. if block_of starts ms i == a then (if crosses starts ms i then value a (next_number starts ms i) else 0) else 0) (length ms)) (edges_leave starts ms edges a (value a) are below))
    ∙ by_places test (λ a i. if crosses starts ms i then value a (next_number starts ms i) else 0) (block_of starts ms) (length starts) (length ms) within

-- ---- the edges to a block

pub edges_come : (starts : List ℕ) (ms : List Transition) (edges : List Edge) (b : ℕ) → AreEdges edges (length starts) (edges_of starts ms) → ((i : ℕ) → i < length ms → block_of starts ms i < length starts) → coming edges b ≡ sum_below (crossing starts ms (λ a x. if x == b then 1 else 0)) (length ms)
edges_come starts ms edges b are within =
    edges_to edges (length starts) b are.within
    ∙ edges_cross starts ms edges (λ a. true) (λ a x. if x == b then 1 else 0) are within

-- ---- an address where a block begins

pub has_number : (starts : List ℕ) (a : ℕ) → has starts a ≡ nat_lt (number_of starts a) (length starts)
has_number [] a = refl
has_number (s ∷ starts) a =
    let rest = has_number starts a in
    elim (cases_eq s a) [
      | inl same ↦
          let test : (s == a) ≡ true = grind (arith, nat_tests, same) in
          let other : (a == s) ≡ true = grind (arith, nat_tests, same) in
          let some : nat_lt 0 (suc (length starts)) ≡ true = grind (arith, nat_tests) in
          rw (test, other) (sym some)
      | inr differs ↦
          let test : (s == a) ≡ false = grind (arith, nat_tests, differs) in
          let other : (a == s) ≡ false = grind (arith, nat_tests, differs) in
          let more : nat_lt (suc (number_of starts a)) (suc (length starts)) ≡ nat_lt (number_of starts a) (length starts) = grind (arith, nat_tests) in
          rw (test, other) (rest ∙ sym more)
    ]
