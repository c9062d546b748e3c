-- The edges of all blocks, one behind the other.
use Rattle.std.proofs.Common.{◌≡◌, ◌∙◌, inl, inr, ℕ, zero, suc, ◌-◌, ◌<◌, ◌≤◌, ◌==◌, nat_lt, Bool, true, false, ◌&&◌, ◌||◌, if◌then◌else◌, List, [], ◌∷◌, ◌++◌, length, slice_index_or, refl, arith, length-append}
use Rattle.std.specs.List.{All, AllPairs}
use Rattle.std.proofs.lemmas.Bool.{cases_lt}
use Rattle.std.proofs.lemmas.Bool.Decides.{nat_tests}
use Rattle.std.proofs.lemmas.List.{get_or_append_left, get_or-append_right}
use Rattle.std.proofs.lemmas.List.Elements.{All-append}
use Rattle.profile_runner.specs.Counts.{precedes, count_in, AreEdges}
use Rattle.profile_runner.specs.Tallies.{IsEdgeOf, AreFrom, edge_row, joined_below, AreRows}
use Rattle.profile_runner.specs.declared.counts.Edge.{Edge}
use Rattle.profile_runner.proofs.EdgeLemmas.{ascend_from, rises}
use Rattle.profile_runner.proofs.TestLemmas.{eq_not}

-- ---- one row

edge_at : (low a size most k : ℕ) (row : List Edge) (d : Edge) → AreFrom low a size most row → k < length row → IsEdgeOf a size most (slice_index_or row k d)
edge_at low a size most k [] d are below = absurd (omega arith)
edge_at low a size most zero (e ∷ row) d are below = are.0
edge_at low a size most (suc k) (e ∷ row) d are below = edge_at (suc e.to) a size most k row d are.1.1 (omega arith)

later_block : (d e : Edge) → d.from < e.from → precedes d e ≡ true
later_block d e less = let test : nat_lt d.from e.from ≡ true = grind (arith, nat_tests, less) in rw test refl

or_true : (b : Bool) → b || true ≡ true
or_true true = refl
or_true false = refl

same_block : (d e : Edge) (a : ℕ) → d.from ≡ a → e.from ≡ a → d.to < e.to → precedes d e ≡ true
same_block d e a first second less =
    let test : (d.from == e.from) ≡ true = grind (arith, nat_tests, first, second) in
    let lower : nat_lt d.to e.to ≡ true = grind (arith, nat_tests, less) in
    rw (test, lower) (or_true (nat_lt d.from e.from))

row_ordered : (a size most : ℕ) (row : List Edge) → AreFrom 0 a size most row → AllPairs (λ d e. precedes d e ≡ true) row
row_ordered a size most row are i j d less below =
    let first = edge_at 0 a size most i row d are (omega arith) in
    let second = edge_at 0 a size most j row d are below in
    same_block (slice_index_or row i d) (slice_index_or row j d) a first.begins_there second.begins_there
    (rises 0 i j row d (ascend_from 0 a size most row are) less below)

-- ---- rows behind others

pairs_append : {X : Type 0} (R : X → X → Type 0) (xs ys : List X) → AllPairs R xs → AllPairs R ys → ((i j : ℕ) (d : X) → i < length xs → j < length ys → R (slice_index_or xs i d) (slice_index_or ys j d)) → AllPairs R (xs ++ ys)
pairs_append R xs ys first second across i j d less below =
    let count = length-append xs ys in
    elim (cases_lt j (length xs)) [
      | inl inside ↦
          rw (get_or_append_left xs ys d i (omega arith), get_or_append_left xs ys d j inside) (first i j d less inside)
      | inr behind ↦
          elim (cases_lt i (length xs)) [
            | inl inside ↦
                rw (get_or_append_left xs ys d i inside, get_or-append_right xs ys (length xs) j d refl behind)
                (across i (j - length xs) d inside (omega (arith, count, below, behind)))
            | inr after ↦
                rw (get_or-append_right xs ys (length xs) i d refl after, get_or-append_right xs ys (length xs) j d refl behind)
                (second (i - length xs) (j - length xs) d (omega (arith, less, after, behind)) (omega (arith, count, below, behind)))
          ]
    ]

if_false : (b : Bool) (m n : ℕ) → b ≡ false → (if b then m else n) ≡ n
if_false b m n is = rw is refl

and_not : (x y : Bool) → x ≡ false → x && y ≡ false
and_not x y is = rw is refl

-- edges from other blocks count nothing
skipped : (xs ys : List Edge) (a b : ℕ) → ((k : ℕ) (d : Edge) → k < length xs → (slice_index_or xs k d).from ≡ a → ⊥) → count_in (xs ++ ys) a b ≡ count_in ys a b
skipped [] ys a b disjoint = refl
skipped (e ∷ xs) ys a b disjoint =
    if_false ((e.from == a) && (e.to == b)) e.count (count_in (xs ++ ys) a b)
    (and_not (e.from == a) (e.to == b) (eq_not e.from a (disjoint 0 e (omega arith))))
    ∙ skipped xs ys a b (λ k d below. disjoint (suc k) d (omega (arith, below)))

if_same : (b : Bool) (m x y : ℕ) → x ≡ y → (if b then m else x) ≡ (if b then m else y)
if_same b m x y same = rw same refl

none_counted : (ys : List Edge) (a b : ℕ) → ((k : ℕ) (d : Edge) → k < length ys → (slice_index_or ys k d).from ≡ a → ⊥) → count_in ys a b ≡ 0
none_counted [] a b disjoint = refl
none_counted (e ∷ ys) a b disjoint =
    if_false ((e.from == a) && (e.to == b)) e.count (count_in ys a b)
    (and_not (e.from == a) (e.to == b) (eq_not e.from a (disjoint 0 e (omega arith))))
    ∙ none_counted ys a b (λ k d below. disjoint (suc k) d (omega (arith, below)))

unchanged : (xs ys : List Edge) (a b : ℕ) → ((k : ℕ) (d : Edge) → k < length ys → (slice_index_or ys k d).from ≡ a → ⊥) → count_in (xs ++ ys) a b ≡ count_in xs a b
unchanged [] ys a b disjoint = none_counted ys a b disjoint
unchanged (e ∷ xs) ys a b disjoint =
    if_same ((e.from == a) && (e.to == b)) e.count (count_in (xs ++ ys) a b) (count_in xs a b) (unchanged xs ys a b disjoint)

-- ---- all rows below a place

record AreJoined (edges : List Edge) (n size : ℕ) (count : ℕ → ℕ → ℕ) : Type 0 where
  ordered : AllPairs (λ d e. precedes d e ≡ true) edges
  within : All (λ e. (e.from < n) × (e.to < size)) edges
  positive : All (λ e. 0 < e.count) edges
  counts : (a b : ℕ) → a < n → b < size → count_in edges a b ≡ count a b

all_within : (xs : List Edge) (n size : ℕ) → All (λ e. (e.from < n) × (e.to < size)) xs → All (λ e. (e.from < suc n) × (e.to < size)) xs
all_within xs n size all k d below = let here = all k d below in (omega (arith, here.0), here.1)

row_within : (n size most : ℕ) (row : List Edge) → AreFrom 0 n size most row → All (λ e. (e.from < suc n) × (e.to < size)) row
row_within n size most row are k d below =
    let here = edge_at 0 n size most k row d are below in
    let begins = here.begins_there in
    (omega (arith, begins), here.leads_within)

row_positive : (n size most : ℕ) (row : List Edge) → AreFrom 0 n size most row → All (λ e. 0 < e.count) row
row_positive n size most row are k d below = (edge_at 0 n size most k row d are below).was_taken

joined_step : (xs row : List Edge) (n size most : ℕ) (count : ℕ → ℕ → ℕ) → AreJoined xs n size count → AreFrom 0 n size most row → ((b : ℕ) → b < size → count_in row n b ≡ count n b) → AreJoined (xs ++ row) (suc n) size count
joined_step xs row n size most count are from here =
    record {
      ordered = pairs_append (λ d e. precedes d e ≡ true) xs row are.ordered (row_ordered n size most row from)
          (λ i j d inside below.
          let first = are.within i d inside in
          let second = (edge_at 0 n size most j row d from below).begins_there in
          later_block (slice_index_or xs i d) (slice_index_or row j d) (omega (arith, first.0, second)));
      within = All-append (λ (e : Edge). (e.from < suc n) × (e.to < size)) xs row (all_within xs n size are.within) (row_within n size most row from);
      positive = All-append (λ (e : Edge). 0 < e.count) xs row are.positive (row_positive n size most row from);
      counts = λ a b below inside.
          elim (cases_lt a n) [
            | inl earlier ↦
                unchanged xs row a b
                (λ k d at is. let begins = (edge_at 0 n size most k row d from at).begins_there in absurd (omega (arith, begins, is, earlier)))
                ∙ are.counts a b earlier inside
            | inr last ↦
                let same : a ≡ n = omega (arith, last, below) in
                rw same
                (skipped xs row n b (λ k d at is. let within = are.within k d at in absurd (omega (arith, within.0, is)))
                ∙ here b inside)
          ];
    }

joined_to : (rows : List (List Edge)) (size most n : ℕ) (count : ℕ → ℕ → ℕ) → n ≤ size → AreRows rows size most count → AreJoined (joined_below rows n) n size count
joined_to rows size most zero count le are =
    record {
      ordered = λ i j d less below. absurd (omega arith);
      within = λ k d below. absurd (omega arith);
      positive = λ k d below. absurd (omega arith);
      counts = λ a b below inside. absurd (omega arith);
    }
joined_to rows size most (suc n) count le are =
    joined_step (joined_below rows n) (edge_row rows n) n size most count (joined_to rows size most n count (omega arith) are)
    (are.from n (omega arith)) (λ b inside. are.counts n b (omega arith) inside)

pub edges_joined : (rows : List (List Edge)) (size most : ℕ) (count : ℕ → ℕ → ℕ) → AreRows rows size most count → AreEdges (joined_below rows size) size count
edges_joined rows size most count are =
    let all = joined_to rows size most size count (omega arith) are in
    record { ordered = all.ordered; within = all.within; positive = all.positive; counts = all.counts }
