-- Nodes and their marks, in lists that grow at their ends.
use Rattle.std.proofs.Common.{◌≡◌, ◌≢◌, inl, inr, ℕ, zero, suc, ◌+◌, ◌-◌, ◌*◌, min, ◌<◌, ◌==◌, true, false, if◌then◌else◌, List, [], ◌∷◌, ◌++◌, length, slice_index_or, slice_set, refl, sym, ◌∙◌, ap, subst, arith}
use Rattle.std.specs.Prelude.{◌↔◌, IsTrue}
use Rattle.std.specs.List.{AllPairs, list_any}
use Rattle.std.specs.List.Sorted.{IsStrictlyIncreasing}
use Rattle.std.proofs.lemmas.Bool.{cases_eq, eq-eqb}
use Rattle.std.proofs.lemmas.Bool.Decides.{nat_tests}
use Rattle.std.proofs.lemmas.List.{get_or_append_left, get_or_push, length_push, get_or-set_same, get_or-set_other}
use Rattle.std.proofs.lemmas.List.Kept.{AllPairs-from_increasing}
use Rattle.std.proofs.lemmas.List.Quantifiers.{all_pairs_push}
use Rattle.list_checks.proofs.TestLemmas.{neither}
use Rattle.code_blocks.specs.Early.{has}
use Rattle.reach_graph.specs.Reaching.{HasMark, word_at, Reaches}
use Rattle.reach_graph.specs.declared.edges.Edge.{Edge}
use Rattle.reach_graph.proofs.MarkLemmas.{none_in_zero}
use Rattle.points_to.specs.Nodes.{memory, object_node}
use Rattle.points_to.specs.Tables.{word_of, Kept, AreKept, Keeps, AreBare, Begins, IsReached, AreGroups, group_at, none_kept}

-- ---- one more node

if_same : (n m w v : ℕ) → n ≡ m → (if n == m then w else v) ≡ w
if_same n m w v same = let is : (n == m) ≡ true = eq-eqb n m same in rw is refl

if_other : (n m w v : ℕ) → n ≢ m → (if n == m then w else v) ≡ v
if_other n m w v other = let is : (n == m) ≡ false = grind (arith, nat_tests, other) in rw is refl

push_other : (nodes words : List ℕ) (n w m : ℕ) → length words ≡ length nodes → m ≢ n → word_of (nodes ++ n ∷ []) (words ++ w ∷ []) m ≡ word_of nodes words m
push_other [] [] n w m same other = if_other n m w 0 (λ e. other (sym e))
push_other [] (v ∷ words) n w m same other = absurd (omega (arith, same))
push_other (y ∷ nodes) [] n w m same other = absurd (omega (arith, same))
push_other (y ∷ nodes) (v ∷ words) n w m same other =
    ap (λ (k : ℕ). if y == m then v else k) (push_other nodes words n w m (omega (arith, same)) other)

push_same : (nodes words : List ℕ) (n w : ℕ) → length words ≡ length nodes → ((k d : ℕ) → k < length nodes → slice_index_or nodes k d < n) → word_of (nodes ++ n ∷ []) (words ++ w ∷ []) n ≡ w
push_same [] [] n w same below = if_same n n w 0 refl
push_same [] (v ∷ words) n w same below = absurd (omega (arith, same))
push_same (y ∷ nodes) [] n w same below = absurd (omega (arith, same))
push_same (y ∷ nodes) (v ∷ words) n w same below =
    let less : y < n = below 0 0 (omega arith) in
    if_other y n v (word_of (nodes ++ n ∷ []) (words ++ w ∷ []) n) (λ e. omega (arith, less, e))
    ∙ push_same nodes words n w (omega (arith, same)) (λ k d inside. below (suc k) d (omega (arith, inside)))

absent : (nodes words : List ℕ) (m : ℕ) → ((k d : ℕ) → k < length nodes → slice_index_or nodes k d < m) → word_of nodes words m ≡ 0
absent [] words m below = refl
absent (y ∷ nodes) [] m below = refl
absent (y ∷ nodes) (v ∷ words) m below =
    let less : y < m = below 0 0 (omega arith) in
    if_other y m v (word_of nodes words m) (λ e. omega (arith, less, e))
    ∙ absent nodes words m (λ k d inside. below (suc k) d (omega (arith, inside)))

-- ---- what is kept up to a node

pub kept_first : (word : ℕ → ℕ) → AreKept word 0 [] []
kept_first word = record {
  ascending = λ k within. absurd (omega (arith, within));
  below = λ k d inside. absurd (omega (arith, inside));
  one_each = refl;
  exact = λ m low. absurd (omega (arith, low));
}

pub kept_none : (word : ℕ → ℕ) (end w : ℕ) (nodes words : List ℕ) → w ≡ word end → w ≡ 0 → AreKept word end nodes words → AreKept word (end + 1) nodes words
kept_none word end w nodes words is none are = record {
  ascending = are.ascending;
  below = λ k d inside. let less = are.below k d inside in omega (arith, less);
  one_each = are.one_each;
  exact = λ m low. elim (cases_eq m end) [
    | inl same ↦ ap (word_of nodes words) same ∙ absent nodes words end are.below ∙ sym none ∙ is ∙ ap word (sym same)
    | inr other ↦ are.exact m (omega (arith, low, other))
  ];
}

grown : (xs : List ℕ) (x : ℕ) → IsStrictlyIncreasing xs → ((k d : ℕ) → k < length xs → slice_index_or xs k d < x) → IsStrictlyIncreasing (xs ++ x ∷ [])
grown xs x rise below =
    let pairs = all_pairs_push (λ (a b : ℕ). a < b) xs x (AllPairs-from_increasing xs rise) below in
    λ k within. pairs k (k + 1) 0 (omega arith) within

pub kept_more : (word : ℕ → ℕ) (end w : ℕ) (nodes words : List ℕ) → w ≡ word end → AreKept word end nodes words → AreKept word (end + 1) (nodes ++ end ∷ []) (words ++ w ∷ [])
kept_more word end w nodes words is are =
    let longer = length_push nodes end in
    let wider = length_push words w in
    let each = are.one_each in record {
      ascending = grown nodes end are.ascending are.below;
      below = λ k d inside. elim (cases_eq k (length nodes)) [
        | inl last ↦ let here = get_or_push nodes end d k (sym last) in omega (arith, here)
        | inr other ↦
            let before : k < length nodes = omega (arith, inside, longer, other) in
            let here = get_or_append_left nodes (end ∷ []) d k before in
            let less = are.below k d before in
            omega (arith, here, less)
      ];
      one_each = omega (arith, longer, wider, each);
      exact = λ m low. elim (cases_eq m end) [
        | inl same ↦ ap (word_of (nodes ++ end ∷ []) (words ++ w ∷ [])) same ∙ push_same nodes words end w each are.below ∙ is ∙ ap word (sym same)
        | inr other ↦ push_other nodes words end w m each other ∙ are.exact m (omega (arith, low, other))
      ];
    }

-- ---- what is looked up

pub unlisted : (nodes words : List ℕ) (m : ℕ) → has nodes m ≡ false → word_of nodes words m ≡ 0
unlisted [] words m none = refl
unlisted (y ∷ nodes) [] m none = refl
unlisted (y ∷ nodes) (v ∷ words) m none =
    let parts = neither (m == y) (list_any (λ x. m == x) nodes) none in
    if_other y m v (word_of nodes words m) (λ e. let on : (m == y) ≡ true = eq-eqb m y (sym e) in absurd (cc (on, parts.0)))
    ∙ unlisted nodes words m parts.1

listed_pairs : (nodes words : List ℕ) (i m : ℕ) → AllPairs (λ (a b : ℕ). a < b) nodes → length words ≡ length nodes → i < length nodes → slice_index_or nodes i 0 ≡ m → word_of nodes words m ≡ word_at words i
listed_pairs [] words i m pairs same inside is = absurd (omega (arith, inside))
listed_pairs (y ∷ nodes) [] i m pairs same inside is = absurd (omega (arith, same))
listed_pairs (y ∷ nodes) (v ∷ words) zero m pairs same inside is = if_same y m v (word_of nodes words m) is
listed_pairs (y ∷ nodes) (v ∷ words) (suc i) m pairs same inside is =
    let less : y < slice_index_or nodes i 0 = pairs 0 (suc i) 0 (omega arith) inside in
    if_other y m v (word_of nodes words m) (λ e. omega (arith, less, is, e))
    ∙ listed_pairs nodes words i m (λ j k d lower below. pairs (suc j) (suc k) d (omega (arith, lower)) (omega (arith, below))) (omega (arith, same)) (omega (arith, inside)) is

pub listed : (nodes words : List ℕ) (i m : ℕ) → IsStrictlyIncreasing nodes → length words ≡ length nodes → i < length nodes → slice_index_or nodes i 0 ≡ m → word_of nodes words m ≡ word_at words i
listed nodes words i m rise same inside is = listed_pairs nodes words i m (AllPairs-from_increasing nodes rise) same inside is

-- a word of no marks
pub no_mark : (w k : ℕ) → w ≡ 0 → IsTrue false ↔ HasMark w k
no_mark w k none = (λ never. absurd cc, λ mark. absurd (none_in_zero k (subst (λ (v : ℕ). HasMark v k) none mark)))

-- ---- marks to begin with

pub begins_none : (first : ℕ) (marks : List ℕ) → AreBare marks → Begins first 0 marks
begins_none first marks bare = record {
  only = λ m k has. absurd (none_in_zero k (subst (λ (w : ℕ). HasMark w k) (bare m) has));
  there = λ k low. absurd (omega (arith, low));
}

pub begun_more : (first k w : ℕ) (marks : List ℕ) → first + k < length marks → ((j : ℕ) → HasMark w j ↔ (j ≡ k)) → Begins first k marks → Begins first (k + 1) (slice_set marks (first + k) w)
begun_more first k w marks inside one begins =
    let here : word_at (slice_set marks (first + k) w) (first + k) ≡ w = get_or-set_same marks (first + k) w 0 inside in record {
      only = λ m j mark. elim (cases_eq m (first + k)) [
        | inl same ↦
            let at : word_at (slice_set marks (first + k) w) m ≡ w = ap (word_at (slice_set marks (first + k) w)) same ∙ here in
            let is : j ≡ k = (one j).0 (subst (λ (v : ℕ). HasMark v j) at mark) in
            omega (arith, same, is)
        | inr other ↦ begins.only m j (subst (λ (v : ℕ). HasMark v j) (get_or-set_other marks (first + k) m w 0 other) mark)
      ];
      there = λ j low. elim (cases_eq j k) [
        | inl same ↦
            let at : word_at (slice_set marks (first + k) w) (first + j) ≡ w = ap (λ (i : ℕ). word_at (slice_set marks (first + k) w) (first + i)) same ∙ here in
            subst (λ (v : ℕ). HasMark v j) (sym at) ((one j).1 same)
        | inr other ↦
            let disjoint : first + j ≢ first + k = λ e. other (omega (arith, e)) in
            let at = get_or-set_other marks (first + k) (first + j) w 0 disjoint in
            subst (λ (v : ℕ). HasMark v j) (sym at) (begins.there j (omega (arith, low, other)))
      ];
    }

-- ---- what they reach

pub keeps_reached : (rows : List (List Edge)) (n first count : ℕ) (start marks : List ℕ) (kept : Kept) → Begins first count start → ((m k : ℕ) → HasMark (word_at marks m) k ↔ Reaches rows start m k) → Keeps marks n kept
    → IsReached rows n first count kept
keeps_reached rows n first count start marks kept begins reached keeps = record {
  start = start;
  begins = begins;
  entries = λ m k low. subst (λ (w : ℕ). HasMark w k ↔ Reaches rows start m k) (sym (keeps.entries m low)) (reached m k);
  in_memory = λ k. subst (λ (w : ℕ). HasMark w k ↔ Reaches rows start (memory n) k) (sym keeps.in_memory) (reached (memory n) k);
}

-- one more group
pub groups_more : (rows : List (List Edge)) (n objects j : ℕ) (groups : List Kept) (kept : Kept) → IsReached rows n (object_node n (64 * j)) (min 64 (objects - 64 * j)) kept → AreGroups rows n objects j groups
    → AreGroups rows n objects (j + 1) (groups ++ kept ∷ [])
groups_more rows n objects j groups kept reached are =
    let size = are.size in
    let longer = length_push groups kept in record {
      size = omega (arith, longer, size);
      each = λ i low. elim (cases_eq i j) [
        | inl same ↦
            let here : kept ≡ group_at (groups ++ kept ∷ []) i = sym (get_or_push groups kept none_kept i (size ∙ sym same)) in
            subst (λ (r : Kept). IsReached rows n (object_node n (64 * i)) (min 64 (objects - 64 * i)) r) here (subst (λ (k : ℕ). IsReached rows n (object_node n (64 * k)) (min 64 (objects - 64 * k)) kept) (sym same) reached)
        | inr other ↦
            let before : i < length groups = omega (arith, low, other, size) in
            subst (λ (r : Kept). IsReached rows n (object_node n (64 * i)) (min 64 (objects - 64 * i)) r) (sym (get_or_append_left groups (kept ∷ []) none_kept i before)) (are.each i (omega (arith, low, other)))
      ];
    }
