-- Marks of words, and of tables of them.
use Rattle.std.proofs.Common.{◌≡◌, ◌≢◌, ◌⊎◌, inl, inr, ℕ, zero, suc, ◌*◌, ◌%◌, ◌^◌, ◌<◌, max, min, bit_or, bit_and, List, length, slice_set, replicate, sym, ◌∙◌, ap, subst, arith}
use Rattle.std.specs.Prelude.{◌↔◌}
use Rattle.std.specs.Int.{bit_at}
use Rattle.std.proofs.lemmas.Nat.{one_shl}
use Rattle.std.proofs.lemmas.Nat.Bits.{bit_at_or, bit_at_and, bit_at-pow_same, bit_at-pow_other}
use Rattle.std.proofs.lemmas.Bool.{cases_eq, cases_lt}
use Rattle.std.proofs.lemmas.List.{get_or-set_same, get_or-set_other, get_or_past, get_or-replicate, length-replicate}
use Rattle.reach_graph.specs.Reaching.{HasMark, word_at}

one_left : (x y : ℕ) → x ≡ 1 → y < 2 → max x y ≡ 1
one_left x y e below = omega (arith, e, below)

one_right : (x y : ℕ) → y ≡ 1 → x < 2 → max x y ≡ 1
one_right x y e below = omega (arith, e, below)

one_of : (x y : ℕ) → max x y ≡ 1 → (x ≡ 1) ⊎ (y ≡ 1)
one_of zero y e = inr (omega (arith, e))
one_of (suc x) zero e = inl (omega (arith, e))
one_of (suc x) (suc y) e = inl (omega (arith, e))

both_one : (x y : ℕ) → x ≡ 1 → y ≡ 1 → min x y ≡ 1
both_one x y e f = omega (arith, e, f)

first_one : (x y : ℕ) → min x y ≡ 1 → x < 2 → x ≡ 1
first_one x y e below = omega (arith, e, below)

second_one : (x y : ℕ) → min x y ≡ 1 → y < 2 → y ≡ 1
second_one x y e below = omega (arith, e, below)

bit_small : (n k : ℕ) → bit_at n k < 2
bit_small n k = omega arith

-- ---- marks of two words together, and of both

pub or_left : (a b k : ℕ) → HasMark a k → HasMark (bit_or a b) k
or_left a b k has = bit_at_or a b k ∙ one_left (bit_at a k) (bit_at b k) has (bit_small b k)

pub or_right : (a b k : ℕ) → HasMark b k → HasMark (bit_or a b) k
or_right a b k has = bit_at_or a b k ∙ one_right (bit_at a k) (bit_at b k) has (bit_small a k)

pub or_cases : (a b k : ℕ) → HasMark (bit_or a b) k → HasMark a k ⊎ HasMark b k
or_cases a b k has = one_of (bit_at a k) (bit_at b k) (sym (bit_at_or a b k) ∙ has)

pub and_both : (a b k : ℕ) → HasMark a k → HasMark b k → HasMark (bit_and a b) k
and_both a b k one other = bit_at_and a b k ∙ both_one (bit_at a k) (bit_at b k) one other

pub and_first : (a b k : ℕ) → HasMark (bit_and a b) k → HasMark a k
and_first a b k has = first_one (bit_at a k) (bit_at b k) (sym (bit_at_and a b k) ∙ has) (bit_small a k)

pub and_second : (a b k : ℕ) → HasMark (bit_and a b) k → HasMark b k
and_second a b k has = second_one (bit_at a k) (bit_at b k) (sym (bit_at_and a b k) ∙ has) (bit_small b k)

pub marks_joined : (a b k : ℕ) → HasMark (bit_or a b) k ↔ (HasMark a k ⊎ HasMark b k)
marks_joined a b k = (or_cases a b k, λ has. elim has [ inl one ↦ or_left a b k one | inr other ↦ or_right a b k other ])

-- a word of one mark, in any width
pub one_bit : (width m k : ℕ) → m < width → HasMark (1 * 2 ^ m % 2 ^ width) k ↔ (k ≡ m)
one_bit width m k low =
    let e : 1 * 2 ^ m % 2 ^ width ≡ 2 ^ m = one_shl m width low in (
      λ has. elim (cases_eq k m) [
        | inl same ↦ same
        | inr other ↦
            let none = bit_at-pow_other m k other in
            let at : bit_at (2 ^ m) k ≡ 1 = subst (λ (v : ℕ). HasMark v k) e has in
            absurd (omega (arith, none, at))
      ],
      λ same. subst (λ (v : ℕ). HasMark v k) (sym e) (ap (bit_at (2 ^ m)) same ∙ bit_at-pow_same m),
    )

-- 0 has no mark
pub none_in_zero : (k : ℕ) → HasMark 0 k → ⊥
none_in_zero k has = absurd (omega (arith, has))

zero_there : (n b : ℕ) → word_at (replicate n 0) b ≡ 0
zero_there n b =
    elim (cases_lt b n) [
      | inl below ↦ get_or-replicate n b 0 0 below
      | inr past ↦ get_or_past (replicate n 0) b 0 (omega (arith, past, length-replicate {A = ℕ} n 0))
    ]

-- a table of zeros has no marks
pub none_in_zeros : (n b k : ℕ) (marks : List ℕ) → marks ≡ replicate n 0 → HasMark (word_at marks b) k → ⊥
none_in_zeros n b k marks bare has =
    none_in_zero k (subst (λ (w : ℕ). HasMark w k) (ap (λ (ws : List ℕ). word_at ws b) bare ∙ zero_there n b) has)

-- ---- a word of a table that is changed

pub word_here : (marks : List ℕ) (node v : ℕ) → node < length marks → word_at (slice_set marks node v) node ≡ v
word_here marks node v inside = get_or-set_same marks node v 0 inside

pub word_there : (marks : List ℕ) (node n v : ℕ) → n ≢ node → word_at (slice_set marks node v) n ≡ word_at marks n
word_there marks node n v other = get_or-set_other marks node n v 0 other
