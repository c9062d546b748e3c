-- Edges of one block, by where they lead: how one more changes them.
use Rattle.std.proofs.Common.{◌≡◌, ◌∙◌, inl, inr, ℕ, zero, suc, ◌+◌, ◌<◌, ◌≤◌, ◌==◌, nat_lt, Bool, true, false, ◌&&◌, if◌then◌else◌, List, [], ◌∷◌, length, set, slice_index_or, refl, sym, ap, arith}
use Rattle.std.specs.List.{All, insert}
use Rattle.std.specs.List.Sorted.{IsPartitionedBy, IsPartitionPoint}
use Rattle.std.proofs.lemmas.List.{get_or-map, get_or_default, map-set}
use Rattle.std.proofs.lemmas.Bool.{cases_order, cases_eq}
use Rattle.list_checks.proofs.TestLemmas.{both}
use Rattle.std.proofs.lemmas.Bool.Decides.{nat_tests}
use Rattle.profile_runner.specs.Counts.{count_in}
use Rattle.profile_runner.specs.Tallies.{one_edge, with_edge, IsEdgeOf, AreFrom, Ascend, IsFoundAt, IsGapAt, edges_of, plain_edges, edge_row}
use Rattle.profile_runner.specs.declared.counts.Edge.{Edge}
use Rattle.profile_runner.specs.declared.edge_row.EdgeRow.{EdgeRow}

-- ---- the three cases of one more

less_test : (a b : ℕ) → a < b → nat_lt a b ≡ true
less_test a b less = grind (arith, nat_tests, less)

not_less : (a b : ℕ) → b ≤ a → nat_lt a b ≡ false
not_less a b le = grind (arith, nat_tests, le)

same_number : (a b : ℕ) → a ≡ b → (a == b) ≡ true
same_number a b same = grind (arith, nat_tests, same)

other_number : (a b : ℕ) → (a ≡ b → ⊥) → (a == b) ≡ false
other_number a b differs = grind (arith, nat_tests, differs)

pub goes_behind : (e : Edge) (edges : List Edge) (a b : ℕ) → e.to < b → with_edge (e ∷ edges) a b ≡ e ∷ with_edge edges a b
goes_behind e edges a b less = let test = less_test e.to b less in rw test refl

pub counts_here : (e : Edge) (edges : List Edge) (a b : ℕ) → e.to ≡ b → with_edge (e ∷ edges) a b ≡ record e { count = e.count + 1 } ∷ edges
counts_here e edges a b same =
    let less = not_less e.to b (omega (arith, same)) in
    let test = same_number e.to b same in
    rw (less, test) refl

pub goes_before : (e : Edge) (edges : List Edge) (a b : ℕ) → b < e.to → with_edge (e ∷ edges) a b ≡ one_edge a b ∷ e ∷ edges
goes_before e edges a b more =
    let less = not_less e.to b (omega (arith, more)) in
    let test = other_number e.to b (λ same. absurd (omega (arith, same, more))) in
    rw (less, test) refl

-- ---- what they are

is_new : (a size most b : ℕ) → b < size → IsEdgeOf a size (suc most) (one_edge a b)
is_new a size most b within = record { begins_there = refl; leads_within = within; was_taken = omega arith; few = omega arith }

is_more : (a size most : ℕ) (e : Edge) → IsEdgeOf a size most e → IsEdgeOf a size (suc most) (record e { count = e.count + 1 })
is_more a size most e is =
    record {
      begins_there = is.begins_there;
      leads_within = is.leads_within;
      was_taken = omega arith;
      few = let few = is.few in omega (arith, few);
    }

is_still : (a size most : ℕ) (e : Edge) → IsEdgeOf a size most e → IsEdgeOf a size (suc most) e
is_still a size most e is =
    record {
      begins_there = is.begins_there;
      leads_within = is.leads_within;
      was_taken = is.was_taken;
      few = let few = is.few in omega (arith, few);
    }

pub are_still : (low a size most : ℕ) (edges : List Edge) → AreFrom low a size most edges → AreFrom low a size (suc most) edges
are_still low a size most [] are = tt
are_still low a size most (e ∷ edges) are =
    (is_still a size most e are.0, (are.1.0, are_still (suc e.to) a size most edges are.1.1))

pub are_more : (low a size most b : ℕ) (edges : List Edge) → low ≤ b → b < size → AreFrom low a size most edges → AreFrom low a size (suc most) (with_edge edges a b)
are_more low a size most b [] le within are = (is_new a size most b within, (le, tt))
are_more low a size most b (e ∷ edges) le within are =
    elim (cases_order e.to b) [
      | inl same ↦
          rw (counts_here e edges a b same)
          (is_more a size most e are.0, (are.1.0, are_still (suc e.to) a size most edges are.1.1))
      | inr (inl less) ↦
          rw (goes_behind e edges a b less)
          (is_still a size most e are.0, (are.1.0, are_more (suc e.to) a size most b edges (omega (arith, less)) within are.1.1))
      | inr (inr more) ↦
          rw (goes_before e edges a b more)
          (is_new a size most b within, (le, (is_still a size most e are.0, (omega (arith, more), are_still (suc e.to) a size most edges are.1.1))))
    ]

pub ascend_from : (low a size most : ℕ) (edges : List Edge) → AreFrom low a size most edges → Ascend low edges
ascend_from low a size most [] are = tt
ascend_from low a size most (e ∷ edges) are = (are.1.0, ascend_from (suc e.to) a size most edges are.1.1)

few_at : (low a size most k : ℕ) (edges : List Edge) (d : Edge) → AreFrom low a size most edges → k < length edges → (slice_index_or edges k d).count ≤ most
few_at low a size most k [] d are below = absurd (omega arith)
few_at low a size most zero (e ∷ edges) d are below = are.0.few
few_at low a size most (suc k) (e ∷ edges) d are below = few_at (suc e.to) a size most k edges d are.1.1 (omega arith)

pub few_of : (low a size most : ℕ) (edges : List Edge) → AreFrom low a size most edges → most < 18446744073709551615 → All (λ e. e.count < 18446744073709551615) edges
few_of low a size most edges are less =
    λ k d below. let few = few_at low a size most k edges d are below in omega (arith, few, less)

begun_at : (low a size most k : ℕ) (edges : List Edge) (d : Edge) → AreFrom low a size most edges → k < length edges → (slice_index_or edges k d).from ≡ a
begun_at low a size most k [] d are below = absurd (omega arith)
begun_at low a size most zero (e ∷ edges) d are below = are.0.begins_there
begun_at low a size most (suc k) (e ∷ edges) d are below = begun_at (suc e.to) a size most k edges d are.1.1 (omega arith)

pub begun_of : (low a size most : ℕ) (edges : List Edge) → AreFrom low a size most edges → All (λ e. e.from ≡ a) edges
begun_of low a size most edges are = λ k d below. begun_at low a size most k edges d are below

-- ---- how often each was taken

none_in : (low a size most b : ℕ) (edges : List Edge) → b < low → AreFrom low a size most edges → count_in edges a b ≡ 0
none_in low a size most b [] less are = refl
none_in low a size most b (e ∷ edges) less are =
    let from = are.1.0 in
    let test = other_number e.to b (λ same. absurd (omega (arith, same, less, from))) in
    let rest = none_in (suc e.to) a size most b edges (omega (arith, less, from)) are.1.1 in
    let begins = same_number e.from a are.0.begins_there in
    rw (begins, test) rest

found_to : (e : Edge) (a b : ℕ) → (e.from == a) && (e.to == b) ≡ true → e.to ≡ b
found_to e a b found = let parts = both (e.from == a) (e.to == b) found in grind (arith, nat_tests, parts.1)

count_cases : (test : Bool) (here more rest n : ℕ) → more ≡ rest + n → (test ≡ true → n ≡ 0) → (if test then here else more) ≡ (if test then here else rest) + n
count_cases true here more rest n same none = let zero_is = none refl in omega (arith, zero_is)
count_cases false here more rest n same none = same

count_behind : (e : Edge) (edges more : List Edge) (a b n : ℕ) → count_in more a b ≡ count_in edges a b + n → (e.to ≡ b → n ≡ 0) → count_in (e ∷ more) a b ≡ count_in (e ∷ edges) a b + n
count_behind e edges more a b n same none =
    count_cases ((e.from == a) && (e.to == b)) e.count (count_in more a b) (count_in edges a b) n same
    (λ found. none (found_to e a b found))

add_cases : (test : Bool) (here rest : ℕ) → (if test then here + 1 else rest) ≡ (if test then here else rest) + (if test then 1 else 0)
add_cases true here rest = refl
add_cases false here rest = omega arith

not_both : (c b x : ℕ) → (c == b) ≡ true → (x ≡ c → ⊥) → x ≡ b → ⊥
not_both c b x is differs same = differs (grind (arith, nat_tests, is, same))

one_or_none : (test : Bool) → test ≡ false → ◌≡◌ {A = ℕ} (if test then 1 else 0) 0
one_or_none test is = rw is refl

pub counts_more : (low a size most c b : ℕ) (edges : List Edge) → AreFrom low a size most edges → count_in (with_edge edges a c) a b ≡ count_in edges a b + (if c == b then 1 else 0)
counts_more low a size most c b [] are = let begins = same_number a a refl in rw begins (omega arith)
counts_more low a size most c b (e ∷ edges) are =
    elim (cases_order e.to c) [
      | inl same ↦
          let begins = same_number e.from a are.0.begins_there in
          rw (counts_here e edges a c same, begins, same) (add_cases (c == b) e.count (count_in edges a b))
      | inr (inl less) ↦
          rw (goes_behind e edges a c less)
          (count_behind e edges (with_edge edges a c) a b (if c == b then 1 else 0)
          (counts_more (suc e.to) a size most c b edges are.1.1)
          (λ here. one_or_none (c == b) (other_number c b (λ same. absurd (omega (arith, same, here, less))))))
      | inr (inr more) ↦
          let begins = same_number a a refl in
          rw (goes_before e edges a c more, begins)
          (elim (cases_eq c b) [
            | inl same ↦
                let test = same_number c b same in
                rw test
                (let nothing = none_in (suc c) a size most b (e ∷ edges) (omega (arith, same)) (are.0, (omega (arith, more), are.1.1)) in
                omega (arith, nothing))
            | inr differs ↦ let test = other_number c b differs in rw test (omega arith)
          ])
    ]

-- ---- the place of an edge

pub found_is : (row : List Edge) (a b k : ℕ) (d : Edge) → IsFoundAt row b k → set row k (record (slice_index_or row k d) { count = (slice_index_or row k d).count + 1 }) ≡ with_edge row a b
found_is [] a b k d found = absurd (omega (arith, found.inside))
found_is (e ∷ edges) a b zero d found = let here = found.here d in sym (counts_here e edges a b here)
found_is (e ∷ edges) a b (suc k) d found =
    let less : e.to < b = found.lower 0 d (omega arith) in
    let inside = found.inside in
    let rest : IsFoundAt edges b k =
    record { inside = omega (arith, inside); lower = λ j f below. found.lower (suc j) f (omega (arith, below)); here = λ f. found.here f } in
    rw (goes_behind e edges a b less) (ap (λ es. e ∷ es) (found_is edges a b k d rest))

pub gap_is : (row : List Edge) (a b k : ℕ) → IsGapAt row b k → insert row k (one_edge a b) ≡ with_edge row a b
gap_is [] a b zero gap = refl
gap_is [] a b (suc k) gap = let inside = gap.inside in absurd (omega (arith, inside))
gap_is (e ∷ edges) a b zero gap = let more : b < e.to = gap.higher e (omega arith) in sym (goes_before e edges a b more)
gap_is (e ∷ edges) a b (suc k) gap =
    let less : e.to < b = gap.lower 0 e (omega arith) in
    let inside = gap.inside in
    let rest : IsGapAt edges b k =
    record { inside = omega (arith, inside); lower = λ j f below. gap.lower (suc j) f (omega (arith, below)); higher = λ f below. gap.higher f (omega (arith, below)) } in
    rw (goes_behind e edges a b less) (ap (λ es. e ∷ es) (gap_is edges a b k rest))

-- edges that ascend are parted by any bound
low_at : (low k : ℕ) (row : List Edge) (d : Edge) → Ascend low row → k < length row → low ≤ (slice_index_or row k d).to
low_at low k [] d ascend below = absurd (omega arith)
low_at low zero (e ∷ edges) d ascend below = ascend.0
low_at low (suc k) (e ∷ edges) d ascend below =
    let from = ascend.0 in
    let more = low_at (suc e.to) k edges d ascend.1 (omega arith) in
    omega (arith, from, more)

pub rises : (low i j : ℕ) (row : List Edge) (d : Edge) → Ascend low row → i < j → j < length row → (slice_index_or row i d).to < (slice_index_or row j d).to
rises low i j [] d ascend less below = absurd (omega arith)
rises low i zero (e ∷ edges) d ascend less below = absurd (omega arith)
rises low zero (suc j) (e ∷ edges) d ascend less below =
    let more = low_at (suc e.to) j edges d ascend.1 (omega arith) in omega (arith, more)
rises low (suc i) (suc j) (e ∷ edges) d ascend less below =
    rises (suc e.to) i j edges d ascend.1 (omega arith) (omega arith)

still_less : (x y b : ℕ) → x ≤ y → nat_lt y b ≡ true → nat_lt x b ≡ true
still_less x y b le less = grind (arith, nat_tests, le, less)

pub parted : (low b : ℕ) (row : List Edge) → Ascend low row → IsPartitionedBy (λ (e : Edge). nat_lt e.to b) row
parted low b row ascend i j d le below test =
    elim (cases_order i j) [
      | inl same ↦ rw same test
      | inr (inl less) ↦
          let more = rises low i j row d ascend less below in
          still_less (slice_index_or row i d).to (slice_index_or row j d).to b (omega (arith, more)) test
      | inr (inr other) ↦ absurd (omega (arith, other, le))
    ]

less_is : (a b : ℕ) → nat_lt a b ≡ true → a < b
less_is a b test = grind (arith, nat_tests, test)

not_less_is : (a b : ℕ) → nat_lt a b ≡ false → b ≤ a
not_less_is a b test = grind (arith, nat_tests, test)

pub found_at : (row : List Edge) (b k : ℕ) (f : Edge) → IsPartitionPoint (λ (e : Edge). nat_lt e.to b ≡ true) (λ (e : Edge). nat_lt e.to b ≡ false) row k → k < length row → (slice_index_or row k f).to ≡ b → IsFoundAt row b k
found_at row b k f point below is =
    record {
      inside = below;
      lower = λ j d before. less_is (slice_index_or row j d).to b (point.0 j d (omega arith) before);
      here = λ d. ap (λ (e : Edge). e.to) (get_or_default row k d f below) ∙ is;
    }

pub gap_at : (row : List Edge) (b k : ℕ) → IsPartitionPoint (λ (e : Edge). nat_lt e.to b ≡ true) (λ (e : Edge). nat_lt e.to b ≡ false) row k → k ≤ length row → ((d : Edge) → k < length row → (slice_index_or row k d).to ≡ b → ⊥) → IsGapAt row b k
gap_at row b k point le differs =
    record {
      inside = le;
      lower = λ j d before. less_is (slice_index_or row j d).to b (point.0 j d (omega arith) before);
      higher = λ d below.
          let from = not_less_is (slice_index_or row k d).to b (point.1 k d (omega arith) below) in
          let other = differs d below in
          omega (arith, from, other);
    }

pub gap_there : (row : List Edge) (b k : ℕ) (f : Edge) → IsPartitionPoint (λ (e : Edge). nat_lt e.to b ≡ true) (λ (e : Edge). nat_lt e.to b ≡ false) row k → k < length row → ((slice_index_or row k f).to ≡ b → ⊥) → IsGapAt row b k
gap_there row b k f point below differs =
    gap_at row b k point (omega arith)
    (λ d inside is. differs (ap (λ (e : Edge). e.to) (get_or_default row k f d below) ∙ is))

-- an edge that was found without a search
pub found_early : (row : List Edge) (b k : ℕ) → Ascend 0 row → k < length row → ((d : Edge) → (slice_index_or row k d).to ≡ b) → IsFoundAt row b k
found_early row b k ascend below is =
    record {
      inside = below;
      lower = λ j d before.
          let less = rises 0 j k row d ascend before below in
          let here = is d in
          omega (arith, less, here);
      here = is;
    }

-- ---- the rows of all blocks

pub row_is : (rows : List EdgeRow) (a : ℕ) (row : EdgeRow) → a < length rows → row ≡ slice_index_or rows a row → edge_row (plain_edges rows) a ≡ edges_of row
row_is rows a row below is = get_or-map edges_of rows a row [] below ∙ ap edges_of (sym is)

pub edges_in : (rows : List EdgeRow) (a b : ℕ) (old new : EdgeRow) → a < length rows → old ≡ slice_index_or rows a old → edges_of new ≡ with_edge (edges_of old) a b → plain_edges (set rows a new) ≡ set (plain_edges rows) a (with_edge (edge_row (plain_edges rows) a) a b)
edges_in rows a b old new below is more =
    map-set edges_of rows a new
    ∙ ap (λ (es : List Edge). set (plain_edges rows) a es) (more ∙ ap (λ (es : List Edge). with_edge es a b) (sym (row_is rows a old below is)))
