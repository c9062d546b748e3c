-- Sums over the transitions of a run, by the places where they are.
use Rattle.std.proofs.Common.{◌≡◌, ◌∙◌, inl, inr, ℕ, zero, suc, ◌+◌, ◌*◌, ◌<◌, ◌≤◌, ◌==◌, nat_lt, Bool, true, false, ◌&&◌, ◌||◌, List, [], ◌∷◌, length, slice_index_or, refl, sym, ap, arith, if◌then◌else◌}
use Rattle.std.specs.List.{All, AllPairs}
use Rattle.std.proofs.lemmas.Bool.{cases_eq, cases_lt}
use Rattle.std.proofs.lemmas.Bool.Decides.{nat_tests}
use Rattle.list_checks.proofs.SumLemmas.{sum_zero, sum_same}
use Rattle.list_checks.specs.Sorted.{sum_below}
use Rattle.profile_runner.specs.declared.counts.Edge.{Edge}
use Rattle.profile_runner.specs.Counts.{precedes, count_in}
use Rattle.energy_model.specs.Copied.{value_from, count_to, edge_in, leaving, coming}
use Rattle.energy_model.proofs.SumLemmas.{sum_two}

-- ---- one place

none_single : (g : ℕ → ℕ) (k n : ℕ) → n ≤ k → sum_below (λ a. if k == a then g a else 0) n ≡ 0
none_single g k n le =
    sum_zero (λ a. if k == a then g a else 0) n (λ a below.
    let other : (k == a) ≡ false = grind (arith, nat_tests, le, below) in
    rw other refl)

pub single : (g : ℕ → ℕ) (k n : ℕ) → k < n → sum_below (λ a. if k == a then g a else 0) n ≡ g k
single g k zero below = absurd (omega (arith, below))
single g k (suc n) below =
    elim (cases_eq k n) [
      | inl same ↦
          let test : (k == n) ≡ true = grind (arith, nat_tests, same) in
          let none = none_single g k n (omega (arith, same)) in
          let here : (if k == n then g n else 0) ≡ g k = rw test (ap g (sym same)) in
          omega (arith, none, here)
      | inr differs ↦
          let test : (k == n) ≡ false = grind (arith, nat_tests, differs) in
          let earlier = single g k n (omega (arith, below, differs)) in
          let here : ◌≡◌ {A = ℕ} (if k == n then g n else 0) 0 = rw test refl in
          omega (arith, earlier, here)
    ]

-- a place that may be behind the last
pub single_below : (g : ℕ → ℕ) (k n : ℕ) → sum_below (λ a. if k == a then g a else 0) n ≡ (if nat_lt k n then g k else 0)
single_below g k n =
    elim (cases_lt k n) [
      | inl less ↦ let test : nat_lt k n ≡ true = grind (arith, nat_tests, less) in rw test (single g k n less)
      | inr more ↦ let test : nat_lt k n ≡ false = grind (arith, nat_tests, more) in rw test (none_single g k n more)
    ]

-- ---- sums by places are those over the transitions

no_terms : (test : Bool) → ◌≡◌ {A = ℕ} (if test then 0 else 0) 0
no_terms true = refl
no_terms false = refl

split_term : (test same : Bool) (sum x : ℕ) → (if test then sum + (if same then x else 0) else 0) ≡ (if test then sum else 0) + (if same then (if test then x else 0) else 0)
split_term true same sum x = refl
split_term false true sum x = refl
split_term false false sum x = refl

pub by_places : (test : ℕ → Bool) (f : ℕ → ℕ → ℕ) (place : ℕ → ℕ) (size n : ℕ) → ((i : ℕ) → i < n → place i < size) → sum_below (λ a. if test a then sum_below (λ i. if place i == a then f a i else 0) n else 0) size ≡ sum_below (λ i. if test (place i) then f (place i) i else 0) n
by_places test f place size zero within = sum_zero (λ a. if test a then 0 else 0) size (λ a below. no_terms (test a))
by_places test f place size (suc n) within =
    let earlier = by_places test f place size n (λ i below. within i (omega (arith, below))) in
    let before = λ (a : ℕ). if test a then sum_below (λ i. if place i == a then f a i else 0) n else 0 in
    let here = λ (a : ℕ). if place n == a then (if test a then f a n else 0) else 0 in
    let split = sum_same (λ a. if test a then sum_below (λ i. if place i == a then f a i else 0) (suc n) else 0) (λ a. before a + here a) size
    (λ a below. split_term (test a) (place n == a) (sum_below (λ i. if place i == a then f a i else 0) n) (f a n)) in
    let two = sum_two before here size in
    let one = single (λ a. if test a then f a n else 0) (place n) size (within n (omega arith)) in
    omega (arith, earlier, split, two, one)

-- ---- edges, by how often each was taken

sum_first : (f : ℕ → ℕ) (n : ℕ) → sum_below f (suc n) ≡ f 0 + sum_below (λ j. f (suc j)) n
sum_first f zero = omega arith
sum_first f (suc n) = let earlier = sum_first f n in omega (arith, earlier)

abbrev IsBehind : Edge → List Edge → Type 0
IsBehind e edges = (j : ℕ) (d : Edge) → j < length edges → precedes e (slice_index_or edges j d) ≡ true

differ : (a b c d : ℕ) → nat_lt a c || ((a == c) && nat_lt b d) ≡ true → (c == a) && (d == b) ≡ false
differ a b c d before =
    elim (cases_eq c a) [
      | inr other ↦ let test : (c == a) ≡ false = grind (arith, nat_tests, other) in rw test refl
      | inl same ↦
          let less : nat_lt a c ≡ false = grind (arith, nat_tests, same) in
          let equal : (a == c) ≡ true = grind (arith, nat_tests, same) in
          let more : nat_lt b d ≡ true = rw (less, equal) at before in
          let test : (d == b) ≡ false = grind (arith, nat_tests, more) in
          let first : (c == a) ≡ true = grind (arith, nat_tests, same) in
          rw (first, test) refl
    ]

absent : (e : Edge) (edges : List Edge) → IsBehind e edges → count_in edges e.from e.to ≡ 0
absent e [] behind = refl
absent e (x ∷ edges) behind =
    let other : (x.from == e.from) && (x.to == e.to) ≡ false = differ e.from e.to x.from x.to (behind 0 x (omega arith)) in
    rw other (absent e edges (λ j d below. behind (suc j) d (omega (arith, below))))

one_to : (same : Bool) (count rest value : ℕ) → (same ≡ true → rest ≡ 0) → (if same then count else rest) * value ≡ rest * value + (if same then count * value else 0)
one_to true count rest value none = let zero_is = none refl in rw zero_is (omega arith)
one_to false count rest value none = omega arith

pub edges_from : (edges : List Edge) (size a : ℕ) (value : ℕ → ℕ) → AllPairs (λ d e. precedes d e ≡ true) edges → All (λ e. (e.from < size) × (e.to < size)) edges → leaving edges a value ≡ sum_below (λ b. count_in edges a b * value b) size
edges_from [] size a value ordered within = sym (sum_zero (λ b. 0 * value b) size (λ b below. omega arith))
edges_from (e ∷ edges) size a value ordered within =
    let rest = edges_from edges size a value (λ i j d before below. ordered (suc i) (suc j) d (omega (arith, before)) (omega (arith, below))) (λ k d below. within (suc k) d (omega (arith, below))) in
    let first = sum_first (λ j. value_from a value (edge_in (e ∷ edges) j)) (length edges) in
    let behind = λ (j : ℕ) (d : Edge) (below : j < length edges). ordered 0 (suc j) d (omega arith) (omega (arith, below)) in
    let none = absent e edges behind in
    elim (cases_eq e.from a) [
      | inl same ↦
          let test : (e.from == a) ≡ true = grind (arith, nat_tests, same) in
          let here : value_from a value e ≡ e.count * value e.to = rw test refl in
          let each = sum_same (λ b. count_in (e ∷ edges) a b * value b) (λ b. count_in edges a b * value b + (if e.to == b then e.count * value b else 0)) size
          (λ b below. (rw test refl) ∙ one_to (e.to == b) e.count (count_in edges a b) (value b)
          (λ is. let to : e.to ≡ b = grind (arith, nat_tests, is) in (ap (λ n. count_in edges n b) (sym same) ∙ ap (λ n. count_in edges e.from n) (sym to)) ∙ none)) in
          let two = sum_two (λ b. count_in edges a b * value b) (λ b. if e.to == b then e.count * value b else 0) size in
          let one = single (λ b. e.count * value b) e.to size (within 0 e (omega arith)).1 in
          omega (arith, rest, first, here, each, two, one)
      | inr differs ↦
          let test : (e.from == a) ≡ false = grind (arith, nat_tests, differs) in
          let here : value_from a value e ≡ 0 = rw test refl in
          let each = sum_same (λ b. count_in (e ∷ edges) a b * value b) (λ b. count_in edges a b * value b) size (λ b below. rw test refl) in
          omega (arith, rest, first, here, each)
    ]

-- the edges to a block are those from all blocks
to_value : (same : Bool) (count : ℕ) → count * (if same then 1 else 0) ≡ (if same then count else 0)
to_value true count = omega arith
to_value false count = omega arith

pub edges_to : (edges : List Edge) (size b : ℕ) → All (λ e. (e.from < size) × (e.to < size)) edges → coming edges b ≡ sum_below (λ a. leaving edges a (λ x. if x == b then 1 else 0)) size
edges_to [] size b within = sym (sum_zero (λ a. 0) size (λ a below. refl))
edges_to (e ∷ edges) size b within =
    let value : ℕ → ℕ = λ x. if x == b then 1 else 0 in
    let rest = edges_to edges size b (λ k d below. within (suc k) d (omega (arith, below))) in
    let first = sum_first (λ j. count_to b (edge_in (e ∷ edges) j)) (length edges) in
    let each = sum_same (λ a. leaving (e ∷ edges) a value) (λ a. (if e.from == a then e.count * value e.to else 0) + leaving edges a value) size
    (λ a below. sum_first (λ j. value_from a value (edge_in (e ∷ edges) j)) (length edges)) in
    let two = sum_two (λ a. if e.from == a then e.count * value e.to else 0) (λ a. leaving edges a value) size in
    let one = single (λ a. e.count * value e.to) e.from size (within 0 e (omega arith)).0 in
    let count = to_value (e.to == b) e.count in
    omega (arith, rest, first, each, two, one, count)
