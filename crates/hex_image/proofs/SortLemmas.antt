-- A sort by the first address gives the runs by address.
use Rattle.std.proofs.Common.{◌≡◌, ◌⊎◌, inl, inr, ℕ, zero, suc, ◌+◌, ◌==◌, ◌<◌, ◌≤◌, nat_le, if◌then◌else◌, List, [], ◌∷◌, map, length, get_or, slice_index_or, refl, sym, ap, ◌∙◌, arith}
use Rattle.std.proofs.lemmas.Bool.Decides.{nat_tests}
use Rattle.std.proofs.lemmas.Bool.{cond_both}
use Rattle.std.proofs.lemmas.List.Elements.{All-contains, All-from_recursion}
use Rattle.std.proofs.lemmas.List.Sorted.{IsPermutation-refl, IsPermutation-sym, IsPermutation-trans, IsPermutation-cons, IsPermutation-swap, IsPermutation-map, sum_by-IsPermutation, Contains-permutation}
use Rattle.std.proofs.lemmas.List.Sums.{sum_by-cons}
use Rattle.std.specs.List.{AllByRecursion, Contains, sum_by}
use Rattle.std.specs.List.Sorted.{IsPermutation, IsNonDecreasingBy}
use Rattle.hex_image.specs.Runs.{PlainRun}
use Rattle.hex_image.specs.Text.{insert_run, by_address, plain_block}
use Rattle.hex_image.specs.declared.writing.Block.{Block}
use Rattle.hex_image.proofs.OrderLemmas.{IsFilled, DoNotOverlap, Precedes, Pairwise, each_weaker, each_by_address, by_address_ordered}

insert_permutation : (r : PlainRun) (rs : List PlainRun) → IsPermutation (r ∷ rs) (insert_run r rs)
insert_permutation r [] = IsPermutation-refl (r ∷ [])
insert_permutation r (o ∷ os) =
    cond_both (nat_le r.start o.start) (r ∷ o ∷ os) (o ∷ insert_run r os) (λ runs. IsPermutation (r ∷ o ∷ os) runs)
    (λ lower. IsPermutation-refl (r ∷ o ∷ os))
    (λ higher. IsPermutation-trans (r ∷ o ∷ os) (o ∷ r ∷ os) (o ∷ insert_run r os)
    (IsPermutation-swap (r ∷ o ∷ os) (o ∷ r ∷ os) 0 1 (omega arith) (omega arith) refl)
    (IsPermutation-cons o (r ∷ os) (insert_run r os) (insert_permutation r os)))

by_address_permutation : (rs : List PlainRun) → IsPermutation rs (by_address rs)
by_address_permutation [] = IsPermutation-refl []
by_address_permutation (r ∷ rs) =
    IsPermutation-trans (r ∷ rs) (r ∷ by_address rs) (insert_run r (by_address rs))
    (IsPermutation-cons r rs (by_address rs) (by_address_permutation rs))
    (insert_permutation r (by_address rs))

abbrev Rises : PlainRun → PlainRun → Type 0
Rises run later = run.start < later.start

abbrev FallsNever : PlainRun → PlainRun → Type 0
FallsNever run later = run.start ≤ later.start

-- how many runs begin at an address
abbrev begins_at : ℕ → PlainRun → ℕ
begins_at address run = if run.start == address then 1 else 0

abbrev count_at : ℕ → List PlainRun → ℕ
count_at address runs = sum_by (begins_at address) runs

none_at : (address : ℕ) (rs : List PlainRun) → AllByRecursion (λ r. address < r.start) rs → count_at address rs ≡ 0
none_at address [] above = refl
none_at address (r ∷ rs) above = let rest = none_at address rs above.1 in let here = above.0 in grind (arith, nat_tests)

one_at : (address : ℕ) (rs : List PlainRun) → Pairwise Rises rs → count_at address rs ≤ 1
one_at address [] rising = omega arith
one_at address (r ∷ rs) rising =
    let rest = one_at address rs rising.1 in
    let none = none_at r.start rs rising.0 in
    rw (sum_by-cons (begins_at address) r rs) (cond_both (r.start == address) 1 0 (λ n. n + count_at address rs ≤ 1)
    (λ here. let same : r.start ≡ address = grind (arith, nat_tests) in let behind : count_at address rs ≡ 0 = rw same at none in omega arith)
    (λ other. omega arith))

-- what doesn't begin at an address that it isn't below
not_there : (address first others : ℕ) → address ≤ first → (if first == address then 1 else 0) + others ≡ 0 → address < first
not_there address first others le none = grind (arith, nat_tests)

others_at_most : (n others : ℕ) → n + others ≤ 1 → others ≤ 1
others_at_most n others le = omega arith

none_besides : (first others : ℕ) → (if first == first then 1 else 0) + others ≤ 1 → others ≡ 0
none_besides first others le = grind (arith, nat_tests)

above_from_none : (address : ℕ) (rs : List PlainRun) → AllByRecursion (λ r. address ≤ r.start) rs → count_at address rs ≡ 0 → AllByRecursion (λ r. address < r.start) rs
above_from_none address [] above none = tt
above_from_none address (r ∷ rs) above none =
    let split = sym (sum_by-cons (begins_at address) r rs) ∙ none in
    (not_there address r.start (count_at address rs) above.0 split, above_from_none address rs above.1 (omega (arith, split)))

rising_from_counts : (rs : List PlainRun) → Pairwise FallsNever rs → ((address : ℕ) → count_at address rs ≤ 1) → Pairwise Rises rs
rising_from_counts [] sorted counts = tt
rising_from_counts (r ∷ rs) sorted counts =
    let split : (address : ℕ) → begins_at address r + count_at address rs ≤ 1 = λ address. let le = counts address in rw (sum_by-cons (begins_at address) r rs) at le in
    (above_from_none r.start rs sorted.0 (none_besides r.start (count_at r.start rs) (split r.start)), rising_from_counts rs sorted.1 (λ address. others_at_most (begins_at address r) (count_at address rs) (split address)))

contains_at : (r : PlainRun) (rs : List PlainRun) (s : PlainRun) (k : ℕ) → k < length (r ∷ rs) → slice_index_or (r ∷ rs) k s ≡ s → (r ≡ s) ⊎ Contains rs s
contains_at r rs s zero below is = inl is
contains_at r rs s (suc k) below is = inr (k, omega arith, is)

contains_inverted : (r : PlainRun) (rs : List PlainRun) (s : PlainRun) → Contains (r ∷ rs) s → (r ≡ s) ⊎ Contains rs s
contains_inverted r rs s held = contains_at r rs s held.0 held.1 held.2

contains_behind : (r : PlainRun) (rs : List PlainRun) (s : PlainRun) → Contains rs s → Contains (r ∷ rs) s
contains_behind r rs s held = (suc held.0, (let below = held.1 in omega arith), held.2)

each_contained : (P : PlainRun → Type 0) (rs : List PlainRun) (s : PlainRun) → AllByRecursion P rs → Contains rs s → P s
each_contained P rs s all held = All-contains P rs s (All-from_recursion P rs all) held

contains_head : (r : PlainRun) (rs : List PlainRun) → Contains (r ∷ rs) r
contains_head r rs = (0, omega arith, refl)

-- what two rising lists begin with is the same where each holds the other's
heads_same : (r s : PlainRun) (rs ss : List PlainRun) → AllByRecursion (Rises r) rs → AllByRecursion (Rises s) ss → (r ≡ s) ⊎ Contains ss r → (s ≡ r) ⊎ Contains rs s → r ≡ s
heads_same r s rs ss above s_above (inl same) other = same
heads_same r s rs ss above s_above (inr behind) (inl same) = sym same
heads_same r s rs ss above s_above (inr behind) (inr s_behind) =
    let lower = each_contained (Rises s) ss r s_above behind in
    let s_lower = each_contained (Rises r) rs s above s_behind in
    absurd (omega arith)

-- what stands behind the same first run
held_behind : (r s t : PlainRun) (rs ss : List PlainRun) → r ≡ s → AllByRecursion (Rises r) rs → ((u : PlainRun) → Contains (r ∷ rs) u → Contains (s ∷ ss) u) → Contains rs t → Contains ss t
held_behind r s t rs ss same above gives held =
    let higher = each_contained (Rises r) rs t above held in
    elim (contains_inverted s ss t (gives t (contains_behind r rs t held))) [
      | inl first ↦ let starts : r.start ≡ t.start = ap (λ (u : PlainRun). u.start) (same ∙ first) in absurd (omega arith)
      | inr behind ↦ behind
    ]

-- rising lists of the same runs are one
rising_same : (rs ss : List PlainRun) → Pairwise Rises rs → Pairwise Rises ss → ((u : PlainRun) → Contains rs u → Contains ss u) → ((u : PlainRun) → Contains ss u → Contains rs u) → rs ≡ ss
rising_same [] [] rising other_rising gives gives_back = refl
rising_same [] (s ∷ ss) rising other_rising gives gives_back = let held = gives_back s (contains_head s ss) in let below = held.1 in absurd (omega arith)
rising_same (r ∷ rs) [] rising other_rising gives gives_back = let held = gives r (contains_head r rs) in let below = held.1 in absurd (omega arith)
rising_same (r ∷ rs) (s ∷ ss) rising other_rising gives gives_back =
    let same = heads_same r s rs ss rising.0 other_rising.0
    (elim (contains_inverted s ss r (gives r (contains_head r rs))) [ inl first ↦ inl (sym first) | inr behind ↦ inr behind ])
    (elim (contains_inverted r rs s (gives_back s (contains_head s ss))) [ inl first ↦ inl (sym first) | inr behind ↦ inr behind ]) in
    let rest = rising_same rs ss rising.1 other_rising.1
    (λ u held. held_behind r s u rs ss same rising.0 gives held)
    (λ u held. held_behind s r u ss rs (sym same) other_rising.0 gives_back held) in
    λ i. same i ∷ rest i

rising_from_ordered : (rs : List PlainRun) → AllByRecursion IsFilled rs → Pairwise Precedes rs → Pairwise Rises rs
rising_from_ordered [] filled ordered = tt
rising_from_ordered (r ∷ rs) filled ordered =
    let here = filled.0 in
    (each_weaker (Precedes r) (Rises r) (λ s before. omega arith) rs ordered.0, rising_from_ordered rs filled.1 ordered.1)

-- runs in another order, in which the first addresses don't fall
sorted_runs : (rs ss : List PlainRun) → AllByRecursion IsFilled rs → Pairwise DoNotOverlap rs → IsPermutation rs ss → Pairwise FallsNever ss → ss ≡ by_address rs
sorted_runs rs ss filled no_overlap moved sorted =
    let same_runs = IsPermutation-trans ss rs (by_address rs) (IsPermutation-sym rs ss moved) (by_address_permutation rs) in
    let rising = rising_from_ordered (by_address rs) (each_by_address IsFilled rs filled) (by_address_ordered rs filled no_overlap) in
    let counts : (address : ℕ) → count_at address ss ≤ 1 = λ address.
    let same = sum_by-IsPermutation (begins_at address) ss (by_address rs) same_runs in
    let most = one_at address (by_address rs) rising in omega arith in
    rising_same ss (by_address rs) (rising_from_counts ss sorted counts) rising
    (λ u held. Contains-permutation ss (by_address rs) u same_runs held)
    (λ u held. Contains-permutation (by_address rs) ss u (IsPermutation-sym ss (by_address rs) same_runs) held)

-- ---- blocks

no_fall_from : (first : ℕ) (blocks : List Block) → ((k : ℕ) (d : Block) → k < length blocks → first ≤ (get_or blocks k d).start) → AllByRecursion (λ r. first ≤ r.start) (map plain_block blocks)
no_fall_from first [] above = tt
no_fall_from first (b ∷ bs) above = (above 0 b (omega arith), no_fall_from first bs (λ k d below. above (suc k) d (omega arith)))

no_falls : (blocks : List Block) → IsNonDecreasingBy (λ (b : Block). b.start) blocks → Pairwise FallsNever (map plain_block blocks)
no_falls [] sorted = tt
no_falls (b ∷ bs) sorted =
    (no_fall_from b.start bs (λ k d below. sorted 0 (suc k) d (omega arith) (omega arith)), no_falls bs (λ i j d le below. sorted (suc i) (suc j) d (omega arith) (omega arith)))

pub sorted_blocks : (blocks sorted : List Block) (rs : List PlainRun) → map plain_block blocks ≡ rs → AllByRecursion IsFilled rs → Pairwise DoNotOverlap rs → IsPermutation blocks sorted → IsNonDecreasingBy (λ (b : Block). b.start) sorted → map plain_block sorted ≡ by_address rs
sorted_blocks blocks sorted rs are filled no_overlap moved order =
    sorted_runs rs (map plain_block sorted) filled no_overlap (rw are at (IsPermutation-map plain_block blocks sorted moved)) (no_falls sorted order)
