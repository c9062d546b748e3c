-- The word of a unit in a list of new words.
use Rattle.std.proofs.Common.{◌≡◌, ◌∙◌, ◌⊎◌, inl, inr, ℕ, zero, suc, ◌<◌, ◌≤◌, ◌==◌, nat_lt, true, false, List, [], ◌∷◌, map, length, get_or, slice_index_or, refl, sym, ap, arith, eq-eqb}
use Rattle.std.specs.List.Sorted.{IsStrictlyIncreasing, IsPartitionedBy, IsPartitionPoint}
use Rattle.std.proofs.lemmas.Bool.{cases_order, ltb-true}
use Rattle.std.proofs.lemmas.Bool.Decides.{nat_tests}
use Rattle.std.proofs.lemmas.List.{get_or-map, length-map}
use Rattle.std.proofs.lemmas.List.Kept.{AllPairs-from_increasing}
use Rattle.code_blocks.specs.declared.parts.Unit.{Unit}
use Rattle.block_splitter.specs.Copies.{Patch, address_in, word_of_unit}

-- addresses that ascend
lower : (sites : List Patch) → IsStrictlyIncreasing (map address_in sites) → (i j : ℕ) (d : Patch) → i < j → j < length sites → address_in (get_or sites i d) < address_in (get_or sites j d)
lower sites ascending i j d before below =
    let many = length-map sites address_in in
    let less = AllPairs-from_increasing (map address_in sites) ascending i j 0 before (omega (arith, below, many)) in
    let first : slice_index_or (map address_in sites) i 0 ≡ address_in (get_or sites i d) = get_or-map address_in sites i d 0 (omega (arith, before, below)) in
    let second : slice_index_or (map address_in sites) j 0 ≡ address_in (get_or sites j d) = get_or-map address_in sites j d 0 below in
    omega (arith, less, first, second)

still_less : (x y a : ℕ) → x < y → nat_lt y a ≡ true → nat_lt x a ≡ true
still_less x y a before less = grind (arith, nat_tests, before, less)

pub sites_rise : (sites : List Patch) (a : ℕ) → IsStrictlyIncreasing (map address_in sites) → IsPartitionedBy (λ (p : Patch). nat_lt (address_in p) a) sites
sites_rise sites a ascending i j d le below test =
    let place : (i ≡ j) ⊎ (i < j) = grind arith in
    elim place [
      | inl same ↦ rw same test
      | inr before ↦ still_less (address_in (get_or sites i d)) (address_in (get_or sites j d)) a (lower sites ascending i j d before below) test
    ]

differs : (m n : ℕ) → (m ≡ n → ⊥) → (m == n) ≡ false
differs m n other = grind (arith, nat_tests, other)

word_there : (sites : List Patch) (u : Unit) (k : ℕ) (d : Patch) → k < length sites → ((j : ℕ) (e : Patch) → j < k → address_in (get_or sites j e) < u.at) → address_in (get_or sites k d) ≡ u.at → word_of_unit sites u ≡ (get_or sites k d).1
word_there [] u k d below before here = absurd (omega arith)
word_there (p ∷ sites) u zero d below before here = rw (eq-eqb p.0 u.at here) refl
word_there (p ∷ sites) u (suc k) d below before here =
    let less : p.0 < u.at = before 0 p (omega arith) in
    rw (differs p.0 u.at (λ same. absurd (omega (arith, same, less))))
    (word_there sites u k d (omega (arith, below)) (λ j e earlier. before (suc j) e (omega (arith, earlier))) here)

pub word_none : (sites : List Patch) (u : Unit) → ((j : ℕ) (e : Patch) → j < length sites → address_in (get_or sites j e) ≡ u.at → ⊥) → word_of_unit sites u ≡ u.raw
word_none [] u none = refl
word_none (p ∷ sites) u none =
    rw (differs p.0 u.at (none 0 p (omega arith)))
    (word_none sites u (λ j e below. none (suc j) e (omega (arith, below))))

less_at : (x a : ℕ) → nat_lt x a ≡ true → x < a
less_at x a is = ltb-true x a is

not_less : (x a : ℕ) → nat_lt x a ≡ false → a ≤ x
not_less x a is = grind (arith, nat_tests, is)

abbrev pub Splits : List Patch → ℕ → ℕ → Type 0
Splits sites a place = IsPartitionPoint (λ (p : Patch). nat_lt (address_in p) a ≡ true) (λ (p : Patch). nat_lt (address_in p) a ≡ false) sites place

pub word_found : (sites : List Patch) (u : Unit) (place : ℕ) (d : Patch) → Splits sites u.at place → place < length sites → address_in (get_or sites place d) ≡ u.at → (get_or sites place d).1 ≡ word_of_unit sites u
word_found sites u place d point below here =
    sym (word_there sites u place d below (λ j e before. less_at (address_in (get_or sites j e)) u.at (point.0 j e (omega arith) before)) here)

-- none stands there where the list ends
pub word_behind : (sites : List Patch) (u : Unit) (place : ℕ) → Splits sites u.at place → length sites ≤ place → u.raw ≡ word_of_unit sites u
word_behind sites u place point end =
    sym (word_none sites u
    (λ j e below same.
    let less = less_at (address_in (get_or sites j e)) u.at (point.0 j e (omega arith) (omega (arith, below, end))) in
    absurd (omega (arith, less, same))))

-- or where the next one stands elsewhere
pub word_missing : (sites : List Patch) (u : Unit) (place : ℕ) → IsStrictlyIncreasing (map address_in sites) → Splits sites u.at place → place < length sites → ((d : Patch) → address_in (get_or sites place d) ≡ u.at → ⊥) → u.raw ≡ word_of_unit sites u
word_missing sites u place ascending point inside other =
    sym (word_none sites u
    (λ j e below same.
    elim (cases_order j place) [
      | inl here ↦ other e (ap (λ (k : ℕ). address_in (get_or sites k e)) (sym here) ∙ same)
      | inr elsewhere ↦ elim elsewhere [
        | inl before ↦
            let less = less_at (address_in (get_or sites j e)) u.at (point.0 j e (omega arith) before) in
            absurd (omega (arith, less, same))
        | inr behind ↦
            let from = not_less (address_in (get_or sites place e)) u.at (point.1 place e (omega arith) inside) in
            let less = lower sites ascending place j e behind below in
            absurd (omega (arith, from, less, same))
      ]
    ]))
