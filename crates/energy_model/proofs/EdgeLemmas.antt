-- The sums that the code makes over the edges from a block.
use Rattle.std.proofs.Common.{◌≡◌, ◌∙◌, ◌⊎◌, inl, inr, ℕ, zero, suc, ◌+◌, ◌-◌, ◌*◌, ◌<◌, ◌≤◌, ◌==◌, nat_lt, Bool, true, false, ◌&&◌, List, [], ◌∷◌, ◌++◌, length, slice_index_or, refl, sym, ap, subst, arith, if◌then◌else◌}
use Rattle.std.specs.List.{All, AllPairs}
use Rattle.std.specs.List.Sorted.{IsPartitionPoint, IsNonDecreasingBy}
use Rattle.std.proofs.lemmas.Bool.{cases_eq, cases_lt}
use Rattle.std.proofs.lemmas.Bool.Decides.{nat_tests}
use Rattle.std.proofs.lemmas.List.{get_or_default}
use Rattle.list_checks.proofs.SumLemmas.{sum_zero, sum_stays, sum_rises}
use Rattle.list_checks.proofs.StepLemmas.{length_built, built_at}
use Rattle.list_checks.proofs.TestLemmas.{either, both}
use Rattle.list_checks.specs.Sorted.{count_below, sum_below}
use Rattle.object_graph.specs.declared.parts.Graph.{Graph}
use Rattle.code_blocks.specs.Numbers.{starts_of, start_at}
use Rattle.code_blocks.specs.declared.parts.Code.{Code}
use Rattle.profile_runner.specs.declared.counts.Edge.{Edge}
use Rattle.profile_runner.specs.Counts.{precedes}
use Rattle.block_splitter.specs.declared.block_range.BlockRange.{BlockRange}
use Rattle.block_splitter.specs.Forms.{Body, is_site, kind_of, begins_in}
use Rattle.energy_model.specs.Copied.{leaving_words, no_edge, value_from, count_to, edge_in, leaving, coming, values, edges_before}
use Rattle.energy_model.specs.Counts.{AreEdgeStarts, AreComing, most_run}

-- ---- lists of values

pub values_length : (f : ℕ → ℕ) (n : ℕ) → length (values f n) ≡ n
values_length f n = length_built (values f) f refl (λ m. refl) n

pub values_at : (f : ℕ → ℕ) (n k : ℕ) → k < n → slice_index_or (values f n) k 0 ≡ f k
values_at f n k below = built_at (values f) f 0 refl (λ m. refl) n k below

-- ---- where edges begin

-- a test that passes before a place, and fails from there on
point_counts : (test : ℕ → Bool) (n i : ℕ) → i ≤ n → ((j : ℕ) → j < i → test j ≡ true) → ((j : ℕ) → i ≤ j → j < n → test j ≡ false) → count_below test n ≡ i
point_counts test zero i le before behind = omega (arith, le)
point_counts test (suc n) i le before behind =
    elim (cases_eq i (suc n)) [
      | inl same ↦
          let earlier = point_counts test n n (omega arith) (λ j below. before j (omega (arith, below, same))) (λ j from below. absurd (omega (arith, from, below))) in
          let here = one_if (test n) (before n (omega (arith, same))) in
          omega (arith, earlier, here, same)
      | inr differs ↦
          let earlier = point_counts test n i (omega (arith, le, differs)) before (λ j from below. behind j from (omega (arith, below))) in
          let here = none_if (test n) (behind n (omega (arith, le, differs)) (omega arith)) in
          omega (arith, earlier, here)
    ]
  where
    one_if : (b : Bool) → b ≡ true → ◌≡◌ {A = ℕ} (if b then 1 else 0) 1
    one_if b is = rw is refl

    none_if : (b : Bool) → b ≡ false → ◌≡◌ {A = ℕ} (if b then 1 else 0) 0
    none_if b is = rw is refl

pub starts_there : (edges : List Edge) (a i : ℕ) → i ≤ length edges → IsPartitionPoint (λ e. nat_lt e.from a ≡ true) (λ e. nat_lt e.from a ≡ false) edges i → i ≡ edges_before edges a
starts_there edges a i le point =
    sym (point_counts (λ j. nat_lt (edge_in edges j).from a) (length edges) i le (λ j below. point.0 j no_edge (omega arith) below) (λ j from below. point.1 j no_edge from below))

-- edges stand by the blocks from which they are
from_order : (d e : Edge) → precedes d e ≡ true → d.from ≤ e.from
from_order d e before =
    elim (either (nat_lt d.from e.from) ((d.from == e.from) && nat_lt d.to e.to) before) [
      | inl less ↦ let order : d.from < e.from = grind (arith, nat_tests, less) in omega (arith, order)
      | inr same ↦
          let equal = (both (d.from == e.from) (nat_lt d.to e.to) same).0 in
          let is : d.from ≡ e.from = grind (arith, nat_tests, equal) in
          omega (arith, is)
    ]

abbrev AreOrdered : List Edge → Type 0
AreOrdered edges = AllPairs (λ d e. precedes d e ≡ true) edges

pub from_rises : (edges : List Edge) (j k : ℕ) → AreOrdered edges → j ≤ k → k < length edges → (edge_in edges j).from ≤ (edge_in edges k).from
from_rises edges j k ordered le below =
    elim (cases_lt j k) [
      | inl less ↦ from_order (edge_in edges j) (edge_in edges k) (ordered j k no_edge less below)
      | inr more ↦ let same : j ≡ k = omega (arith, le, more) in rw same (omega arith)
    ]

-- whether an edge is from a block before another one, by the place of the first that isn't
counted_before : (test : ℕ → Bool) (n j : ℕ) → ((i k : ℕ) → i ≤ k → k < n → test k ≡ true → test i ≡ true) → j < n → test j ≡ nat_lt j (count_below test n)
counted_before test zero j falls below = absurd (omega (arith, below))
counted_before test (suc n) j falls below =
    elim (cases_bool (test n)) [
      | inl last ↦
          let all = all_pass n (λ i inside. falls i n (omega (arith, inside)) (omega arith) last) in
          let here : ◌≡◌ {A = ℕ} (if test n then 1 else 0) 1 = rw last refl in
          let passes : test j ≡ true = falls j n (omega (arith, below)) (omega arith) last in
          let under : nat_lt j (count_below test (suc n)) ≡ true = grind (arith, nat_tests, all, here, below) in
          passes ∙ sym under
      | inr last ↦
          let here : ◌≡◌ {A = ℕ} (if test n then 1 else 0) 0 = rw last refl in
          let same : count_below test (suc n) ≡ count_below test n = omega (arith, here) in
          elim (cases_eq j n) [
            | inl is ↦
                let few = few_pass n in
                let over : nat_lt j (count_below test (suc n)) ≡ false = grind (arith, nat_tests, few, same, is) in
                (ap test is ∙ last) ∙ sym over
            | inr differs ↦
                counted_before test n j (λ i k le inside. falls i k le (omega (arith, inside))) (omega (arith, below, differs))
                ∙ ap (nat_lt j) (sym same)
          ]
    ]
  where
    cases_bool : (b : Bool) → (b ≡ true) ⊎ (b ≡ false)
    cases_bool true = inl refl
    cases_bool false = inr refl

    all_pass : (m : ℕ) → ((i : ℕ) → i < m → test i ≡ true) → count_below test m ≡ m
    all_pass zero each = refl
    all_pass (suc m) each =
        let earlier = all_pass m (λ i inside. each i (omega (arith, inside))) in
        let here = each m (omega arith) in
        rw here (omega (arith, earlier))

    at_most_one : (b : Bool) → (if b then 1 else 0) ≤ 1
    at_most_one true = omega arith
    at_most_one false = omega arith

    few_pass : (m : ℕ) → count_below test m ≤ m
    few_pass zero = omega arith
    few_pass (suc m) = let earlier = few_pass m in let one = at_most_one (test m) in omega (arith, earlier, one)

pub is_before : (edges : List Edge) (a j : ℕ) → AreOrdered edges → j < length edges → nat_lt (edge_in edges j).from a ≡ nat_lt j (edges_before edges a)
is_before edges a j ordered below =
    counted_before (λ i. nat_lt (edge_in edges i).from a) (length edges) j (λ i k le inside passes.
    let order = from_rises edges i k ordered le inside in
    let less : (edge_in edges k).from < a = grind (arith, nat_tests, passes) in
    grind (arith, nat_tests, order, less)) below

-- the edges from block `a` stand between where its edges begin and where those of the next block do
pub before_from : (edges : List Edge) (a j : ℕ) → AreOrdered edges → j < length edges → j < edges_before edges a → (edge_in edges j).from < a
before_from edges a j ordered below before =
    let is = is_before edges a j ordered below in
    let test : nat_lt j (edges_before edges a) ≡ true = grind (arith, nat_tests, before) in
    let passes = is ∙ test in
    grind (arith, nat_tests, passes)

pub behind_from : (edges : List Edge) (a j : ℕ) → AreOrdered edges → j < length edges → edges_before edges a ≤ j → a ≤ (edge_in edges j).from
behind_from edges a j ordered below behind =
    let is = is_before edges a j ordered below in
    let test : nat_lt j (edges_before edges a) ≡ false = grind (arith, nat_tests, behind) in
    let fails = is ∙ test in
    grind (arith, nat_tests, fails)

pub few_before : (edges : List Edge) (a : ℕ) → edges_before edges a ≤ length edges
few_before edges a = few (length edges)
  where
    at_most_one : (b : Bool) → (if b then 1 else 0) ≤ 1
    at_most_one true = omega arith
    at_most_one false = omega arith

    few : (n : ℕ) → count_below (λ j. nat_lt (edge_in edges j).from a) n ≤ n
    few zero = omega arith
    few (suc n) = let earlier = few n in let one = at_most_one (nat_lt (edge_in edges n).from a) in omega (arith, earlier, one)

-- ---- the edges from a block

abbrev pub edge_value : List Edge → ℕ → (ℕ → ℕ) → ℕ → ℕ
edge_value edges a value j = value_from a value (edge_in edges j)

pub other_from : (a : ℕ) (value : ℕ → ℕ) (e : Edge) → (e.from == a) ≡ false → value_from a value e ≡ 0
other_from a value e other = rw other refl

pub own_from : (a : ℕ) (value : ℕ → ℕ) (e : Edge) → e.from ≡ a → value_from a value e ≡ e.count * value e.to
own_from a value e same = let test : (e.from == a) ≡ true = grind (arith, nat_tests, same) in rw test refl

-- none before the first
pub leaving_starts : (edges : List Edge) (a : ℕ) (value : ℕ → ℕ) → AreOrdered edges → sum_below (edge_value edges a value) (edges_before edges a) ≡ 0
leaving_starts edges a value ordered =
    let few = few_before edges a in
    sum_zero (edge_value edges a value) (edges_before edges a) (λ j before.
    let less = before_from edges a j ordered (omega (arith, before, few)) before in
    other_from a value (edge_in edges j) (grind (arith, nat_tests, less)))

-- and none behind the last
pub leaving_ends : (edges : List Edge) (a : ℕ) (value : ℕ → ℕ) → AreOrdered edges → leaving edges a value ≡ sum_below (edge_value edges a value) (edges_before edges (a + 1))
leaving_ends edges a value ordered =
    sum_stays (edge_value edges a value) (edges_before edges (a + 1)) (length edges) (few_before edges (a + 1)) (λ j from below.
    let more = behind_from edges (a + 1) j ordered below from in
    other_from a value (edge_in edges j) (grind (arith, nat_tests, more)))

pub from_here : (edges : List Edge) (a j : ℕ) → AreOrdered edges → edges_before edges a ≤ j → j < edges_before edges (a + 1) → (edge_in edges j).from ≡ a
from_here edges a j ordered from to =
    let few = few_before edges (a + 1) in
    let below : j < length edges = omega (arith, to, few) in
    let least = behind_from edges a j ordered below from in
    let most = before_from edges (a + 1) j ordered below to in
    omega (arith, least, most)

pub starts_rise : (edges : List Edge) (a : ℕ) → AreOrdered edges → edges_before edges a ≤ edges_before edges (a + 1)
starts_rise edges a ordered =
    elim (cases_lt (edges_before edges (a + 1)) (edges_before edges a)) [
      | inr le ↦ le
      | inl less ↦
          let few = few_before edges a in
          let j = edges_before edges (a + 1) in
          let before = before_from edges a j ordered (omega (arith, less, few)) less in
          let behind = behind_from edges (a + 1) j ordered (omega (arith, less, few)) (omega arith) in
          absurd (omega (arith, before, behind))
    ]

-- a part of the sum
pub part_leaves : (edges : List Edge) (a : ℕ) (value : ℕ → ℕ) (j : ℕ) → j < length edges → sum_below (edge_value edges a value) j + edge_value edges a value j ≤ leaving edges a value
part_leaves edges a value j below = sum_rises (edge_value edges a value) (suc j) (length edges) below

-- ---- steps of the loops over edges

pub one_value_more : (f : ℕ → ℕ) (n : ℕ) (list : List ℕ) (k : ℕ) → k ≡ n + 1 → list ≡ values f k → list ≡ values f n ++ f n ∷ []
one_value_more f n list k last is = is ∙ ap (values f) (last ∙ next n)
  where
    next : (n : ℕ) → n + 1 ≡ suc n
    next n = omega arith

abbrev pub is_from : Edge → ℕ
is_from e = e.from

pub from_rising : (edges : List Edge) → AreOrdered edges → IsNonDecreasingBy is_from edges
from_rising edges ordered i j d before below =
    elim (cases_lt i j) [
      | inl less ↦ from_order (slice_index_or edges i d) (slice_index_or edges j d) (ordered i j d less below)
      | inr more ↦ let same : i ≡ j = omega (arith, before, more) in rw same (omega arith)
    ]

edge_is : (edges : List Edge) (j : ℕ) (e : Edge) → j < length edges → e ≡ slice_index_or edges j e → edge_in edges j ≡ e
edge_is edges j e below is = get_or_default edges j no_edge e below ∙ sym is

pub edge_there : (edges : List Edge) (starts : List ℕ) (a j end : ℕ) → AreEdgeStarts edges a starts → end ≡ slice_index_or starts (a + 1) 0 → j < end → j < length edges
edge_there edges starts a j end are is below =
    let to = are.to in
    let few = few_before edges (a + 1) in
    omega (arith, is, to, few, below)

pub first_of_edges : (edges : List Edge) (starts : List ℕ) (a : ℕ) (value : ℕ → ℕ) (from : ℕ) → AreOrdered edges → AreEdgeStarts edges a starts → from ≡ slice_index_or starts a 0 → 0 ≡ sum_below (edge_value edges a value) from
first_of_edges edges starts a value from ordered are is =
    sym (ap (sum_below (edge_value edges a value)) (is ∙ are.from) ∙ leaving_starts edges a value ordered)

one_edge : (edges : List Edge) (starts : List ℕ) (a : ℕ) (value : ℕ → ℕ) (j from end : ℕ) (e : Edge) → AreOrdered edges → AreEdgeStarts edges a starts → from ≡ slice_index_or starts a 0 → end ≡ slice_index_or starts (a + 1) 0 → from ≤ j → j < end → e ≡ slice_index_or edges j e → edge_value edges a value j ≡ e.count * value e.to
one_edge edges starts a value j from end e ordered are first last low high is =
    let below = edge_there edges starts a j end are last high in
    let begins = are.from in
    let ends = are.to in
    let here = from_here edges a j ordered (omega (arith, first, begins, low)) (omega (arith, last, ends, high)) in
    own_from a value (edge_in edges j) here ∙ ap (λ (x : Edge). x.count * value x.to) (edge_is edges j e below is)

pub sum_grows : (edges : List Edge) (starts : List ℕ) (a : ℕ) (value : ℕ → ℕ) (j from end total more : ℕ) (e : Edge) → AreOrdered edges → AreEdgeStarts edges a starts → from ≡ slice_index_or starts a 0 → end ≡ slice_index_or starts (a + 1) 0 → from ≤ j → j < end → total ≡ sum_below (edge_value edges a value) j → e ≡ slice_index_or edges j e → more ≡ e.count * value e.to → total + more ≡ sum_below (edge_value edges a value) (j + 1)
sum_grows edges starts a value j from end total more e ordered are first last low high sum is here =
    let one = one_edge edges starts a value j from end e ordered are first last low high is in
    let next : sum_below (edge_value edges a value) (j + 1) ≡ sum_below (edge_value edges a value) (suc j) = ap (sum_below (edge_value edges a value)) (one_more j) in
    omega (arith, sum, here, one, next)
  where
    one_more : (n : ℕ) → n + 1 ≡ suc n
    one_more n = omega arith

pub sum_fits : (edges : List Edge) (starts : List ℕ) (a : ℕ) (value : ℕ → ℕ) (j from end total more : ℕ) (e : Edge) → AreOrdered edges → AreEdgeStarts edges a starts → from ≡ slice_index_or starts a 0 → end ≡ slice_index_or starts (a + 1) 0 → from ≤ j → j < end → total ≡ sum_below (edge_value edges a value) j → e ≡ slice_index_or edges j e → more ≡ e.count * value e.to → total + more ≤ leaving edges a value
sum_fits edges starts a value j from end total more e ordered are first last low high sum is here =
    let one = one_edge edges starts a value j from end e ordered are first last low high is in
    let below = edge_there edges starts a j end are last high in
    let part = part_leaves edges a value j below in
    omega (arith, sum, here, one, part)

pub all_edges : (edges : List Edge) (starts : List ℕ) (a : ℕ) (value : ℕ → ℕ) (from end j total : ℕ) → AreOrdered edges → AreEdgeStarts edges a starts → from ≡ slice_index_or starts a 0 → end ≡ slice_index_or starts (a + 1) 0 → (from ≤ end → j ≡ end) → total ≡ sum_below (edge_value edges a value) j → total ≡ leaving edges a value
all_edges edges starts a value from end j total ordered are first last done sum =
    let begins = are.from in
    let ends = are.to in
    let order = starts_rise edges a ordered in
    let at_end : j ≡ end = done (omega (arith, first, last, begins, ends, order)) in
    sum ∙ (ap (sum_below (edge_value edges a value)) (at_end ∙ (last ∙ are.to)) ∙ sym (leaving_ends edges a value ordered))

pub edge_within : (edges : List Edge) (c : Code) (j : ℕ) (e : Edge) → j < length edges → All (λ e. (e.from < length c.blocks.items) × (e.to < length c.blocks.items)) edges → e ≡ slice_index_or edges j e → e.to < length c.blocks.items
edge_within edges c j e below within is =
    subst (λ (x : Edge). x.to < length c.blocks.items) (sym is) (within j e below).1

pub room_there : (edges : List Edge) (blocks j : ℕ) (counts : List ℕ) → AreComing edges blocks j counts → All (λ e. (e.from < blocks) × (e.to < blocks)) edges → ((b : ℕ) → b < blocks → coming edges b ≤ most_run) → j < length edges → slice_index_or counts (edge_in edges j).to 0 + (edge_in edges j).count ≤ most_run
room_there edges blocks j counts are within few below =
    let e = edge_in edges j in
    let inside : e.to < blocks = (within j no_edge below).1 in
    let is = are.each e.to inside in
    let least = few e.to inside in
    let more = sum_rises (λ k. count_to e.to (edge_in edges k)) (suc j) (length edges) below in
    let itself : (e.to == e.to) ≡ true = grind (arith, nat_tests) in
    let here : count_to e.to e ≡ e.count = rw itself refl in
    omega (arith, is, least, more, here)

pub body_leaves : (c : Code) (g : Graph) (range : BlockRange) (words next to : ℕ) (b d : Body) → b ≡ d → next ≡ start_at c to → words ≡ leaving_words (begins_in (starts_of c) range) next (kind_of (is_site g) d (length d.units - 1)) d.end → words ≡ leaving_words (begins_in (starts_of c) range) (start_at c to) (kind_of (is_site g) b (length b.units - 1)) b.end
body_leaves c g range words next to b d same at is =
    is
    ∙ (ap (λ n. leaving_words (begins_in (starts_of c) range) n (kind_of (is_site g) d (length d.units - 1)) d.end) at
    ∙ ap (λ (x : Body). leaving_words (begins_in (starts_of c) range) (start_at c to) (kind_of (is_site g) x (length x.units - 1)) x.end) (sym same))
