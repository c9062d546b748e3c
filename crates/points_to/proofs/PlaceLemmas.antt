-- Sets of places, and tables of them.
use Rattle.std.proofs.Common.{◌≡◌, ◌⊎◌, inl, inr, ℕ, ◌*◌, ◌%◌, ◌^◌, ◌<◌, set, bit_or, sym, ◌∙◌, subst, arith}
use Rattle.std.specs.Prelude.{◌↔◌}
use Rattle.std.specs.Int.{bit_at, w32}
use Rattle.std.proofs.lemmas.Bool.{cases_eq}
use Rattle.std.proofs.lemmas.Nat.Bits.{bit_at_or, bit_at-lt, bit_at-zero, bit_at_set_same, bit_at_set_other}
use Rattle.points_to.specs.Rows.{Has, no_places}
use Rattle.points_to.specs.declared.flows.Places.{Places}

pub in_either : (a b y : ℕ) → (bit_at (bit_or a b) y ≡ 1) ↔ ((bit_at a y ≡ 1) ⊎ (bit_at b y ≡ 1))
in_either a b y =
    let e = bit_at_or a b y in
    let first = bit_at-lt a y in
    let second = bit_at-lt b y in (
      λ set. elim (cases_eq (bit_at a y) 1) [ inl is ↦ inl is | inr other ↦ inr (omega (arith, e, first, second, set, other)) ],
      λ has. elim has [ inl is ↦ omega (arith, e, first, second, is) | inr is ↦ omega (arith, e, first, second, is) ],
    )

pub in_more : (a k y : ℕ) → k < 32 → (bit_at (bit_or a (1 * 2 ^ k % 2 ^ 32)) y ≡ 1) ↔ ((bit_at a y ≡ 1) ⊎ (k ≡ y))
in_more a k y fits =
    elim (cases_eq y k) [
      | inl same ↦ (
        λ set. inr (sym same),
        λ has. subst (λ (j : ℕ). bit_at (bit_or a (1 * 2 ^ k % 2 ^ 32)) j ≡ 1) (sym same) (bit_at_set_same w32 a k fits),
      )
      | inr other ↦
          let kept : bit_at (bit_or a (1 * 2 ^ k % 2 ^ 32)) y ≡ bit_at a y = bit_at_set_other w32 a k fits y other in (
            λ set. inl (sym kept ∙ set),
            λ has. elim has [ inl is ↦ kept ∙ is | inr is ↦ absurd (other (sym is)) ],
          )
    ]

pub in_none : (y : ℕ) → Has no_places y → ⊥
in_none y has = let e = bit_at-zero y in omega (arith, e, has)

pub in_one : (one : Places) (k y : ℕ) → (Has one y ↔ (Has no_places y ⊎ (k ≡ y))) → Has one y ↔ (k ≡ y)
in_one one k y is = (λ has. elim (is.0 has) [ inl none ↦ absurd (in_none y none) | inr same ↦ same ], λ same. is.1 (inr same))
