-- Which variables are kept is told by where they are cut off.
use Rattle.std.proofs.Common.{◌≡◌, ◌∙◌, ◌⊎◌, inl, inr, ℕ, zero, suc, ◌+◌, ◌-◌, ◌<◌, ◌≤◌, ◌==◌, nat_lt, nat_le, Bool, true, false, ◌&&◌, ◌||◌, if◌then◌else◌, List, [], ◌∷◌, length, slice_index_or, refl, sym, ap, arith, length-append}
use Rattle.std.specs.List.{count_by}
use Rattle.std.proofs.lemmas.Bool.{cases_eq, cases_lt}
use Rattle.std.proofs.lemmas.Bool.Decides.{nat_tests}
use Rattle.std.proofs.lemmas.List.Sums.{sum_by-cons, sum_by-append, count_by-le-length}
use Rattle.list_checks.specs.Sorted.{IsSorted, count_below}
use Rattle.placement_programme.specs.Plain.{PlainFullVar}
use Rattle.energy_model.specs.Copied.{values}
use Rattle.placement_candidates.specs.Selected.{worth_at, better, is_kept}
use Rattle.placement_candidates.specs.Ranking.{least_of, IsLeast, IsCut, passes_cut, ties_before}
use Rattle.placement_candidates.specs.declared.ranking.Cut.{Cut}

-- ---- counts

count_cons : (test : ℕ → Bool) (x : ℕ) (xs : List ℕ) → count_by test (x ∷ xs) ≡ (if test x then 1 else 0) + count_by test xs
count_cons test x xs = sum_by-cons (λ y. if test y then 1 else 0) x xs

at_most_one : (b : Bool) → (if b then 1 else 0) ≤ 1
at_most_one true = omega arith
at_most_one false = omega arith

-- the first ones fail, so few pass; and those behind pass, so many do
fails_first : (test : ℕ → Bool) (xs : List ℕ) (m : ℕ) → m ≤ length xs → ((k : ℕ) → k < m → test (slice_index_or xs k 0) ≡ false) → count_by test xs + m ≤ length xs
fails_first test xs zero le fails = let most = count_by-le-length test xs in omega (arith, most)
fails_first test [] (suc m) le fails = absurd (omega (arith, le))
fails_first test (x ∷ xs) (suc m) le fails =
    let here : test x ≡ false = fails 0 (omega arith) in
    let rest = fails_first test xs m (omega (arith, le)) (λ k below. fails (suc k) (omega (arith, below))) in
    rw (count_cons test x xs, here) (omega (arith, rest))

passes_last : (test : ℕ → Bool) (xs : List ℕ) (m : ℕ) → m ≤ length xs → ((k : ℕ) → m ≤ k → k < length xs → test (slice_index_or xs k 0) ≡ true) → length xs ≤ count_by test xs + m
passes_last test [] m le passes = omega arith
passes_last test (x ∷ xs) zero le passes =
    let here : test x ≡ true = passes 0 (omega arith) (omega arith) in
    let rest = passes_last test xs 0 (omega arith) (λ k from below. passes (suc k) (omega arith) (omega (arith, below))) in
    rw (count_cons test x xs, here) (omega (arith, rest))
passes_last test (x ∷ xs) (suc m) le passes =
    let rest = passes_last test xs m (omega (arith, le)) (λ k from below. passes (suc k) (omega (arith, from)) (omega (arith, below))) in
    let sum = count_cons test x xs in
    omega (arith, rest, sum)

count_values : (test : ℕ → Bool) (f : ℕ → ℕ) (n : ℕ) → count_by test (values f n) ≡ count_below (λ k. test (f k)) n
count_values test f zero = refl
count_values test f (suc n) =
    let earlier = count_values test f n in
    let sum = sum_by-append (λ y. if test y then 1 else 0) (values f n) (f n ∷ []) in
    let one = count_cons test (f n) [] in
    omega (arith, earlier, sum, one)

length_values : (f : ℕ → ℕ) (n : ℕ) → length (values f n) ≡ n
length_values f zero = refl
length_values f (suc n) =
    let earlier = length_values f n in
    let sum = length-append (values f n) (f n ∷ []) in
    omega (arith, earlier, sum)

-- ---- the cut

least_here : (sorted : List ℕ) → 4000 ≤ length sorted → least_of sorted ≡ slice_index_or sorted (length sorted - 4000) 0
least_here sorted many = let test : nat_lt (length sorted) 4000 ≡ false = grind (arith, nat_tests, many) in rw test refl

no_least : (sorted : List ℕ) → length sorted < 4000 → least_of sorted ≡ 0
no_least sorted few = let test : nat_lt (length sorted) 4000 ≡ true = grind (arith, nat_tests, few) in rw test refl

few_above : (sorted : List ℕ) → IsSorted sorted → count_by (nat_lt (least_of sorted)) sorted < 4000
few_above sorted is =
    elim (cases_lt (length sorted) 4000) [
      | inl few ↦ let most = count_by-le-length (nat_lt (least_of sorted)) sorted in omega (arith, few, most)
      | inr many ↦
          let least = least_here sorted many in
          let fails = fails_first (nat_lt (least_of sorted)) sorted (suc (length sorted - 4000)) (omega (arith, many)) (λ k below.
          let order = is k (length sorted - 4000) 0 (omega (arith, below)) (omega (arith, many)) in
          grind (arith, nat_tests, least, order)) in
          omega (arith, fails, many)
    ]

enough_there : (sorted : List ℕ) → IsSorted sorted → 4000 ≤ length sorted → 4000 ≤ count_by (nat_le (least_of sorted)) sorted
enough_there sorted is many =
    let least = least_here sorted many in
    let passes = passes_last (nat_le (least_of sorted)) sorted (length sorted - 4000) (omega (arith, many)) (λ k from below.
    let order = is (length sorted - 4000) k 0 from below in
    grind (arith, nat_tests, least, order)) in
    omega (arith, passes, many)

pub is_least : (vs : List PlainFullVar) (n : ℕ) (old sorted : List ℕ) → n ≡ length vs → old ≡ values (worth_at vs) n → IsSorted sorted → ((test : ℕ → Bool) → count_by test sorted ≡ count_by test old) → IsLeast vs (least_of sorted)
is_least vs n old sorted count is order same =
    let counted = λ (test : ℕ → Bool). (same test ∙ ap (count_by test) is) ∙ (count_values test (worth_at vs) n ∙ ap (count_below (λ k. test (worth_at vs k))) count) in
    let above = counted (nat_lt (least_of sorted)) in
    let from = counted (nat_le (least_of sorted)) in
    let few = few_above sorted order in
    record {
      few = omega (arith, above, few);
      enough = elim (cases_lt (length sorted) 4000) [
        | inl small ↦ inl (no_least sorted small)
        | inr many ↦ inr (let some = enough_there sorted order many in omega (arith, from, some))
      ];
    }

-- ---- what is kept

less_counts : (test other : ℕ → Bool) (n : ℕ) → ((j : ℕ) → j < n → test j ≡ true → other j ≡ true) → count_below test n ≤ count_below other n
less_counts test other zero each = omega arith
less_counts test other (suc n) each =
    let earlier = less_counts test other n (λ j below. each j (omega (arith, below))) in
    let here = one_less (test n) (other n) (each n (omega arith)) in
    omega (arith, earlier, here)
  where
    one_less : (a b : Bool) → (a ≡ true → b ≡ true) → (if a then 1 else 0) ≤ (if b then 1 else 0)
    one_less true b so = let is = so refl in rw is (omega arith)
    one_less false b so = omega arith

first_alone : (a b : Bool) → a ≡ true → ◌≡◌ {A = ℕ} (if a || b then 1 else 0) 1
first_alone a b is = rw is refl

one_if : (b : Bool) → b ≡ true → ◌≡◌ {A = ℕ} (if b then 1 else 0) 1
one_if b is = rw is refl

none_and : (a b : Bool) → a ≡ false → ◌≡◌ {A = ℕ} (if a && b then 1 else 0) 0
none_and a b is = rw is refl

second_alone : (a b : Bool) → a ≡ false → ◌≡◌ {A = ℕ} (if a || b then 1 else 0) (if b then 1 else 0)
second_alone a b is = rw is refl

none_if : (b : Bool) → b ≡ false → ◌≡◌ {A = ℕ} (if b then 1 else 0) 0
none_if b is = rw is refl

-- those that go before a variable which saves as much as the cut: those that save more, and ties before it
tie_counts : (f : ℕ → ℕ) (least k n : ℕ) → f k ≡ least → k ≤ n → count_below (λ j. nat_lt (f k) (f j) || ((f j == f k) && nat_lt j k)) n ≡ count_below (λ j. nat_lt least (f j)) n + count_below (λ j. f j == least) k
tie_counts f least k n is le = tie_from n (omega (arith, le))
  where
    one_term : (m : ℕ) → ◌≡◌ {A = ℕ} (if nat_lt (f k) (f m) || ((f m == f k) && nat_lt m k) then 1 else 0) ((if nat_lt least (f m) then 1 else 0) + (if (f m == least) && nat_lt m k then 1 else 0))
    one_term m =
        elim (cases_lt least (f m)) [
          | inl more ↦
              let first : nat_lt (f k) (f m) ≡ true = grind (arith, nat_tests, more, is) in
              let second : nat_lt least (f m) ≡ true = grind (arith, nat_tests, more) in
              let third : (f m == least) ≡ false = grind (arith, nat_tests, more) in
              let left = first_alone (nat_lt (f k) (f m)) ((f m == f k) && nat_lt m k) first in
              let right = one_if (nat_lt least (f m)) second in
              let none = none_and (f m == least) (nat_lt m k) third in
              omega (arith, left, right, none)
          | inr less ↦
              let first : nat_lt (f k) (f m) ≡ false = grind (arith, nat_tests, less, is) in
              let second : nat_lt least (f m) ≡ false = grind (arith, nat_tests, less) in
              let same : ◌≡◌ {A = ℕ} (if (f m == f k) && nat_lt m k then 1 else 0) (if (f m == least) && nat_lt m k then 1 else 0) = ap (λ (v : ℕ). if (f m == v) && nat_lt m k then 1 else 0) is in
              let left = second_alone (nat_lt (f k) (f m)) ((f m == f k) && nat_lt m k) first in
              let right = none_if (nat_lt least (f m)) second in
              omega (arith, same, left, right)
        ]

    both_sums : (m : ℕ) → count_below (λ j. nat_lt (f k) (f j) || ((f j == f k) && nat_lt j k)) m ≡ count_below (λ j. nat_lt least (f j)) m + count_below (λ j. (f j == least) && nat_lt j k) m
    both_sums zero = refl
    both_sums (suc m) = let earlier = both_sums m in let here = one_term m in omega (arith, earlier, here)

    drop_bound : (b c : Bool) → c ≡ true → ◌≡◌ {A = ℕ} (if b && c then 1 else 0) (if b then 1 else 0)
    drop_bound true c is = rw is refl
    drop_bound false c is = refl

    none_behind : (b c : Bool) → c ≡ false → ◌≡◌ {A = ℕ} (if b && c then 1 else 0) 0
    none_behind true c is = rw is refl
    none_behind false c is = refl

    ties_below : (m : ℕ) → m ≤ k → count_below (λ j. (f j == least) && nat_lt j k) m ≡ count_below (λ j. f j == least) m
    ties_below zero le = refl
    ties_below (suc m) le =
        let earlier = ties_below m (omega (arith, le)) in
        let inside : nat_lt m k ≡ true = grind (arith, nat_tests, le) in
        let here = drop_bound (f m == least) (nat_lt m k) inside in
        omega (arith, earlier, here)

    ties_all : (m : ℕ) → k ≤ m → count_below (λ j. (f j == least) && nat_lt j k) m ≡ count_below (λ j. f j == least) k
    ties_all m le = elim (cases_eq m k) [
      | inl same ↦ ap (count_below (λ j. (f j == least) && nat_lt j k)) same ∙ ties_below k (omega arith)
      | inr differs ↦ more m (omega (arith, le, differs))
    ]
      where
        more : (m : ℕ) → k < m → count_below (λ j. (f j == least) && nat_lt j k) m ≡ count_below (λ j. f j == least) k
        more zero less = absurd (omega (arith, less))
        more (suc m) less =
            let behind : nat_lt m k ≡ false = grind (arith, nat_tests, less) in
            let here = none_behind (f m == least) (nat_lt m k) behind in
            elim (cases_eq m k) [
              | inl same ↦
                  let at : count_below (λ j. (f j == least) && nat_lt j k) m ≡ count_below (λ j. f j == least) k = ap (count_below (λ j. (f j == least) && nat_lt j k)) same ∙ ties_below k (omega arith) in
                  omega (arith, here, at)
              | inr differs ↦ let earlier = more m (omega (arith, less, differs)) in omega (arith, here, earlier)
            ]

    tie_from : (m : ℕ) → k ≤ m → count_below (λ j. nat_lt (f k) (f j) || ((f j == f k) && nat_lt j k)) m ≡ count_below (λ j. nat_lt least (f j)) m + count_below (λ j. f j == least) k
    tie_from m le = let sum = both_sums m in let ties = ties_all m le in omega (arith, sum, ties)

either_true : (a b c : Bool) → (a || (b && c)) ≡ true → (a ≡ true) ⊎ (b ≡ true)
either_true true b c is = inl refl
either_true false true c is = inr refl
either_true false false c is = cc

-- a variable is kept just where it passes the cut
pub kept_by_cut : (vs : List PlainFullVar) (cut : Cut) (k : ℕ) → IsCut vs cut → k < length vs → is_kept vs k ≡ passes_cut vs cut (ties_before vs cut k) k
kept_by_cut vs cut k is below =
    let f = worth_at vs in
    let n = length vs in
    let above = is.above in
    let few = is.least.few in
    elim (cases_lt cut.least (f k)) [
      | inl more ↦
          let test : nat_lt cut.least (f k) ≡ true = grind (arith, nat_tests, more) in
          let less = less_counts (better vs k) (λ j. nat_lt cut.least (f j)) n (λ j inside goes.
          elim (either_true (nat_lt (f k) (f j)) (f j == f k) (nat_lt j k) goes) [
            | inl greater ↦ let order : f k < f j = grind (arith, nat_tests, greater) in grind (arith, nat_tests, order, more)
            | inr same ↦ let order : f j ≡ f k = grind (arith, nat_tests, same) in grind (arith, nat_tests, order, more)
          ]) in
          let kept : nat_lt (count_below (better vs k) n) 4000 ≡ true = grind (arith, nat_tests, less, few) in
          rw (test, kept) refl
      | inr least ↦
          let test : nat_lt cut.least (f k) ≡ false = grind (arith, nat_tests, least) in
          elim (cases_eq (f k) cut.least) [
            | inl same ↦
                let tie : (f k == cut.least) ≡ true = grind (arith, nat_tests, same) in
                let count = tie_counts f cut.least k n same (omega (arith, below)) in
                let sum : count_below (better vs k) n ≡ cut.above + ties_before vs cut k = omega (arith, count, above) in
                let kept : nat_lt (count_below (better vs k) n) 4000 ≡ nat_lt (cut.above + ties_before vs cut k) 4000 = ap (λ m. nat_lt m 4000) sum in
                rw (test, tie) (ap (λ (b : Bool). nat_lt 0 (f k) && b) kept)
            | inr differs ↦
                let tie : (f k == cut.least) ≡ false = grind (arith, nat_tests, differs) in
                let lower : f k < cut.least = omega (arith, least, differs) in
                elim (is.least.enough) [
                  | inl zero_is ↦ absurd (omega (arith, lower, zero_is))
                  | inr many ↦
                      let more = less_counts (λ j. nat_le cut.least (f j)) (better vs k) n (λ j inside goes.
                      let order : cut.least ≤ f j = grind (arith, nat_tests, goes) in
                      let greater : nat_lt (f k) (f j) ≡ true = grind (arith, nat_tests, order, lower) in
                      rw greater refl) in
                      let left : nat_lt (count_below (better vs k) n) 4000 ≡ false = grind (arith, nat_tests, more, many) in
                      rw (test, tie, left) (none_both (nat_lt 0 (f k)))
                ]
          ]
    ]
  where
    none_both : (b : Bool) → b && false ≡ b && false
    none_both b = refl

-- the same by what a variable saves and how many ties stand before it
pub kept_here : (vs : List PlainFullVar) (cut : Cut) (worth ties k : ℕ) → IsCut vs cut → k < length vs → worth ≡ worth_at vs k → ties ≡ ties_before vs cut k → (nat_lt 0 worth && (nat_lt cut.least worth || ((worth == cut.least) && nat_lt (cut.above + ties) 4000))) ≡ is_kept vs k
kept_here vs cut worth ties k is below same before =
    ap (λ (n : ℕ). nat_lt 0 n && (nat_lt cut.least n || ((n == cut.least) && nat_lt (cut.above + ties) 4000))) same
    ∙ (ap (λ (n : ℕ). passes_cut vs cut n k) before ∙ sym (kept_by_cut vs cut k is below))
