-- Numbers of blocks, and the addresses at which these begin.
use Rattle.std.proofs.Common.{◌≡◌, ◌∙◌, inl, inr, ℕ, ◌<◌, ◌==◌, nat_le, length, sym, ap, arith}
use Rattle.std.specs.List.Sorted.{IsStrictlyIncreasing}
use Rattle.std.proofs.lemmas.Bool.{cases_order}
use Rattle.std.proofs.lemmas.Bool.Decides.{nat_tests}
use Rattle.std.proofs.lemmas.List.{length-map}
use Rattle.std.proofs.lemmas.List.Kept.{AllPairs-from_increasing}
use Rattle.code_blocks.specs.Blocks.{start_of}
use Rattle.code_blocks.specs.Numbers.{starts_of, start_at}
use Rattle.code_blocks.specs.declared.parts.Code.{Code}

-- numbers in the order of others
same_order : (x y i j : ℕ) → (i ≡ j → x ≡ y) → (i < j → x < y) → (j < i → y < x) → ((x == y) ≡ (i == j)) × (nat_le x y ≡ nat_le i j)
same_order x y i j same less more =
    elim (cases_order i j) [
      | inl here ↦ let e = same here in (grind (arith, nat_tests, here, e), grind (arith, nat_tests, here, e))
      | inr other ↦ elim other [
        | inl lower ↦ let e = less lower in (grind (arith, nat_tests, lower, e), grind (arith, nat_tests, lower, e))
        | inr higher ↦ let e = more higher in (grind (arith, nat_tests, higher, e), grind (arith, nat_tests, higher, e))
      ]
    ]

pub start_less : (c : Code) (i j : ℕ) → IsStrictlyIncreasing (starts_of c) → i < j → j < length c.blocks.items → start_at c i < start_at c j
start_less c i j ascending lower below =
    let count = length-map c.blocks.items start_of in
    AllPairs-from_increasing (starts_of c) ascending i j 0 lower (omega (arith, below, count))

-- blocks begin in the order of their numbers
pub starts_ordered : (c : Code) (i j : ℕ) → IsStrictlyIncreasing (starts_of c) → i < length c.blocks.items → j < length c.blocks.items → ((start_at c i == start_at c j) ≡ (i == j)) × (nat_le (start_at c i) (start_at c j) ≡ nat_le i j)
starts_ordered c i j ascending first second =
    same_order (start_at c i) (start_at c j) i j
    (λ same. ap (start_at c) same)
    (λ lower. start_less c i j ascending lower second)
    (λ higher. start_less c j i ascending higher first)

-- an address is the start of block `b` just where the block that begins there is `b`
pub is_number : (c : Code) (a k b : ℕ) → IsStrictlyIncreasing (starts_of c) → (k < length c.blocks.items) × (start_at c k ≡ a) → b < length c.blocks.items → (a == start_at c b) ≡ (k == b)
is_number c a k b ascending (within, at) below =
    ap (λ (x : ℕ). x == start_at c b) (sym at) ∙ (starts_ordered c k b ascending within below).0
