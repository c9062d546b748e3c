-- The numbers of the blocks that begin at addresses.
use Rattle.std.proofs.Common.{◌≡◌, ◌∙◌, ◌⊎◌, inl, inr, ℕ, zero, suc, ◌<◌, ◌≤◌, ◌==◌, nat_lt, nat_le, Bool, true, false, List, [], ◌∷◌, ◌++◌, map, length, slice_index_or, Option, Some, None, refl, sym, ap, subst, arith, append-nil}
use Rattle.std.specs.List.{All, AllPairs, filter}
use Rattle.std.specs.List.Sorted.{IsStrictlyIncreasing, IsPartitionedBy}
use Rattle.std.proofs.lemmas.Bool.{cases_order}
use Rattle.std.proofs.lemmas.Bool.Decides.{nat_tests}
use Rattle.std.proofs.lemmas.List.{length-map, get_or-map, get_or_default, map-append}
use Rattle.std.proofs.lemmas.List.Elements.{All-push, filter-append}
use Rattle.std.proofs.lemmas.List.Kept.{AllPairs-from_increasing}
use Rattle.code_blocks.specs.Early.{has}
use Rattle.code_blocks.specs.Blocks.{start_of}
use Rattle.code_blocks.specs.Numbers.{starts_of, start_at, IsNumberAt, AreNumbersAt}
use Rattle.code_blocks.specs.declared.parts.Block.{Block}
use Rattle.code_blocks.specs.declared.parts.Code.{Code}
use Rattle.code_blocks.proofs.ListLemmas.{has_at}

-- blocks whose starts ascend
start_below : (blocks : List Block) → IsStrictlyIncreasing (map start_of blocks) → (i j : ℕ) (d : Block) → i < j → j < length blocks → (slice_index_or blocks i d).start < (slice_index_or blocks j d).start
start_below blocks ascending i j d lower below =
    let count = length-map blocks start_of in
    let less = AllPairs-from_increasing (map start_of blocks) ascending i j 0 lower (omega (arith, below, count)) in
    let first : slice_index_or (map start_of blocks) i 0 ≡ (slice_index_or blocks i d).start = get_or-map start_of blocks i d 0 (omega (arith, lower, below)) in
    let second : slice_index_or (map start_of blocks) j 0 ≡ (slice_index_or blocks j d).start = get_or-map start_of blocks j d 0 below in
    omega (arith, less, first, second)

still_less : (x y a : ℕ) → x < y → nat_lt y a ≡ true → nat_lt x a ≡ true
still_less x y a lower less = grind (arith, nat_tests, lower, less)

pub blocks_rise : (blocks : List Block) (a : ℕ) → IsStrictlyIncreasing (map start_of blocks) → IsPartitionedBy (λ (b : Block). nat_lt b.start a) blocks
blocks_rise blocks a ascending i j d le below test =
    let place : (i ≡ j) ⊎ (i < j) = grind arith in
    elim place [
      | inl same ↦ rw same test
      | inr lower ↦ still_less (slice_index_or blocks i d).start (slice_index_or blocks j d).start a (start_below blocks ascending i j d lower below) test
    ]

begun_before : (x a : ℕ) → nat_le x a ≡ true → nat_lt x (suc a) ≡ true
begun_before x a begun = grind (arith, nat_tests, begun)

before_begun : (x a : ℕ) → nat_lt x (suc a) ≡ true → nat_le x a ≡ true
before_begun x a before = grind (arith, nat_tests, before)

pub blocks_begun : (blocks : List Block) (a : ℕ) → IsStrictlyIncreasing (map start_of blocks) → IsPartitionedBy (λ (b : Block). nat_le b.start a) blocks
blocks_begun blocks a ascending i j d le below test =
    before_begun (slice_index_or blocks i d).start a (blocks_rise blocks (suc a) ascending i j d le below (begun_before (slice_index_or blocks j d).start a test))

-- a place is at most the number there
place_le : (xs : List ℕ) → AllPairs (λ x y. x < y) xs → (k : ℕ) → k < length xs → k ≤ slice_index_or xs k 0
place_le xs pairs zero below = omega arith
place_le xs pairs (suc k) below =
    let before = place_le xs pairs k (omega (arith, below)) in
    let less = pairs k (suc k) 0 (omega arith) below in
    omega (arith, before, less)

pub number_le : (blocks : List Block) → IsStrictlyIncreasing (map start_of blocks) → (k : ℕ) (d : Block) → k < length blocks → k ≤ (slice_index_or blocks k d).start
number_le blocks ascending k d below =
    let count = length-map blocks start_of in
    let le = place_le (map start_of blocks) (AllPairs-from_increasing (map start_of blocks) ascending) k (omega (arith, below, count)) in
    let at : slice_index_or (map start_of blocks) k 0 ≡ (slice_index_or blocks k d).start = get_or-map start_of blocks k d 0 below in
    omega (arith, le, at)

other : (x a : ℕ) → (x < a) ⊎ (a < x) → (a == x) ≡ false
other x a (inl less) = grind (arith, nat_tests, less)
other x a (inr more) = grind (arith, nat_tests, more)

-- none begins at an address that no start is
pub none_starts : (blocks : List Block) (a : ℕ) → ((j : ℕ) (d : Block) → j < length blocks → ((slice_index_or blocks j d).start < a) ⊎ (a < (slice_index_or blocks j d).start)) → has (map start_of blocks) a ≡ false
none_starts [] a disjoint = refl
none_starts (b ∷ blocks) a disjoint =
    let here = other (b.start) a (disjoint 0 b (omega arith)) in
    rw here (none_starts blocks a (λ j d below. disjoint (suc j) d (omega (arith, below))))

-- nor at one between the starts below place n and that of block n
pub none_around : (blocks : List Block) (a n : ℕ) (b : Block) → IsStrictlyIncreasing (map start_of blocks) → n < length blocks → b ≡ slice_index_or blocks n b → ((j : ℕ) (d : Block) → j < n → (slice_index_or blocks j d).start < a) → a < b.start → has (map start_of blocks) a ≡ false
none_around blocks a n b ascending within is lower above =
    none_starts blocks a
    (λ j d below.
    let here : slice_index_or blocks n d ≡ b = get_or_default blocks n d b within ∙ sym is in
    let start : (slice_index_or blocks n d).start ≡ b.start = ap (λ (x : Block). x.start) here in
    elim (cases_order j n) [
      | inl same ↦ inr (rw same (omega (arith, start, above)))
      | inr other ↦ elim other [
        | inl before ↦ inl (lower j d before)
        | inr behind ↦ let less = start_below blocks ascending n j d behind below in inr (omega (arith, less, start, above))
      ]
    ])

-- the number of the block that begins at an address
pub number_at : (c : Code) (a n : ℕ) (b : Block) → n < length c.blocks.items → b ≡ slice_index_or c.blocks.items n b → b.start ≡ a → (n < length c.blocks.items) × (start_at c n ≡ a)
number_at c a n b below is starts =
    (below, get_or-map start_of c.blocks.items n b 0 below ∙ ap (λ (x : Block). x.start) (sym is) ∙ starts)

pub number_fits : (blocks : List Block) (a n : ℕ) (b : Block) → IsStrictlyIncreasing (map start_of blocks) → n < length blocks → b ≡ slice_index_or blocks n b → b.start ≡ a → n ≤ a
number_fits blocks a n b ascending below is starts =
    let le = number_le blocks ascending n b below in
    let start : (slice_index_or blocks n b).start ≡ b.start = ap (λ (x : Block). x.start) (sym is) in
    omega (arith, le, start, starts)

pub not_less : (x y : ℕ) → nat_lt x y ≡ false → y ≤ x
not_less x y is = grind (arith, nat_tests, is)

pub not_below : (blocks : List Block) (n a : ℕ) (b : Block) → b ≡ slice_index_or blocks n b → nat_lt (slice_index_or blocks n b).start a ≡ false → a ≤ b.start
not_below blocks n a b is fails =
    let start : b.start ≡ (slice_index_or blocks n b).start = ap (λ (x : Block). x.start) is in
    let from = not_less (slice_index_or blocks n b).start a fails in
    omega (arith, start, from)

pub none_numbered : (c : Code) (a : ℕ) (o : Option ℕ) → IsNumberAt c a o → ((k : ℕ) → o ≡ Some k → ⊥) → has (starts_of c) a ≡ false
none_numbered c a None is none = is
none_numbered c a (Some k) is none = absurd (none k refl)

-- ---- addresses and numbers, one more of each

one_kept : (test : ℕ → Bool) (a : ℕ) → test a ≡ true → filter test (a ∷ []) ≡ a ∷ []
one_kept test a is = rw is refl

none_kept : (test : ℕ → Bool) (a : ℕ) → test a ≡ false → filter test (a ∷ []) ≡ []
none_kept test a is = rw is refl

pub numbers_more : (c : Code) (addresses numbers new : List ℕ) (a k : ℕ) → AreNumbersAt c addresses numbers → (k < length c.blocks.items) × (start_at c k ≡ a) → new ≡ numbers ++ k ∷ [] → AreNumbersAt c (addresses ++ a ∷ []) new
numbers_more c addresses numbers new a k are (below, at) pushed =
    let count = length-map c.blocks.items start_of in
    let there : has (starts_of c) a ≡ true = subst (λ (x : ℕ). has (starts_of c) x ≡ true) at (has_at (starts_of c) k 0 (omega (arith, below, count))) in
    record {
      starts =
          ap (map (start_at c)) pushed
          ∙ map-append (start_at c) numbers (k ∷ [])
          ∙ (λ i. are.starts i ++ at i ∷ [])
          ∙ ap (λ (xs : List ℕ). filter (has (starts_of c)) addresses ++ xs) (sym (one_kept (has (starts_of c)) a there))
          ∙ sym (filter-append (has (starts_of c)) addresses (a ∷ []));
      below = subst (All (λ j. j < length c.blocks.items)) (sym pushed) (All-push (λ j. j < length c.blocks.items) numbers k are.below below);
    }

pub numbers_same : (c : Code) (addresses numbers new : List ℕ) (a : ℕ) → AreNumbersAt c addresses numbers → has (starts_of c) a ≡ false → new ≡ numbers → AreNumbersAt c (addresses ++ a ∷ []) new
numbers_same c addresses numbers new a are none same =
    record {
      starts =
          ap (map (start_at c)) same
          ∙ are.starts
          ∙ sym (append-nil (filter (has (starts_of c)) addresses))
          ∙ ap (λ (xs : List ℕ). filter (has (starts_of c)) addresses ++ xs) (sym (none_kept (has (starts_of c)) a none))
          ∙ sym (filter-append (has (starts_of c)) addresses (a ∷ []));
      below = subst (All (λ j. j < length c.blocks.items)) (sym same) are.below;
    }
