-- Sets of forms that are collected.
use Rattle.std.proofs.Common.{◌⊎◌, inl, inr, ℕ, ◌+◌, ◌<◌, List, subst, arith}
use Rattle.std.specs.Prelude.{◌↔◌}
use Rattle.std.proofs.lemmas.Bool.{cases_eq}
use Rattle.relink_core.specs.declared.unit_forms.UnitAt.{UnitAt}
use Rattle.relink_core.specs.UnitSets.{Gains, Upto}

pub gains_none : (S : UnitAt → Type 0) (a : List UnitAt) → ((x : UnitAt) → S x → ⊥) → Gains S a a
gains_none S a none =
    record {
      each = λ x. (λ has. inl has, λ has. elim has [ inl old ↦ old | inr new ↦ absurd (none x new) ]);
    }

-- two sets one behind the other
pub gains_both : (S T U : UnitAt → Type 0) (a b c : List UnitAt) → Gains S a b → Gains T b c → ((x : UnitAt) → U x ↔ (S x ⊎ T x)) → Gains U a c
gains_both S T U a b c one other is =
    record {
      each = λ x. (
        λ has. elim ((other.each x).0 has) [
          | inl before ↦ elim ((one.each x).0 before) [ inl old ↦ inl old | inr first ↦ inr ((is x).1 (inl first)) ]
          | inr second ↦ inr ((is x).1 (inr second))
        ],
        λ has. elim has [
          | inl old ↦ (other.each x).1 (inl ((one.each x).1 (inl old)))
          | inr new ↦ elim ((is x).0 new) [
            | inl first ↦ (other.each x).1 (inl ((one.each x).1 (inr first)))
            | inr second ↦ (other.each x).1 (inr second)
          ]
        ],
      );
    }

-- the same set in other words
pub gains_same : (S U : UnitAt → Type 0) (a b : List UnitAt) → Gains S a b → ((x : UnitAt) → U x ↔ S x) → Gains U a b
gains_same S U a b one is =
    record {
      each = λ x. (
        λ has. elim ((one.each x).0 has) [ inl old ↦ inl old | inr new ↦ inr ((is x).1 new) ],
        λ has. (one.each x).1 (elim has [ inl old ↦ inl old | inr new ↦ inr ((is x).0 new) ]),
      );
    }

-- ---- one of a sequence of sets

upto_more : (m : ℕ) (P : ℕ → UnitAt → Type 0) (x : UnitAt) → Upto (m + 1) P x ↔ (Upto m P x ⊎ P m x)
upto_more m P x = (
  λ up. elim (cases_eq up.place m) [
    | inl same ↦ inr (subst (λ (k : ℕ). P k x) same up.is)
    | inr other ↦ let low = up.below in inl (record { place = up.place; below = omega (arith, low, other); is = up.is })
  ],
  λ has. elim has [
    | inl up ↦ let low = up.below in record { place = up.place; below = omega (arith, low); is = up.is }
    | inr here ↦ record { place = m; below = omega arith; is = here }
  ],
)

pub upto_same : (m : ℕ) (P Q : ℕ → UnitAt → Type 0) (x : UnitAt) → ((k : ℕ) → k < m → P k x ↔ Q k x) → Upto m P x ↔ Upto m Q x
upto_same m P Q x same = (
  λ up. record { place = up.place; below = up.below; is = (same up.place up.below).0 up.is },
  λ up. record { place = up.place; below = up.below; is = (same up.place up.below).1 up.is },
)

-- the next of a sequence
pub gains_more : (m : ℕ) (P : ℕ → UnitAt → Type 0) (a b c : List UnitAt) → Gains (Upto m P) a b → Gains (P m) b c → Gains (Upto (m + 1) P) a c
gains_more m P a b c one other = gains_both (Upto m P) (P m) (Upto (m + 1) P) a b c one other (upto_more m P)

pub gains_first : (P : ℕ → UnitAt → Type 0) (a : List UnitAt) → Gains (Upto 0 P) a a
gains_first P a = gains_none (Upto 0 P) a (λ x up. let low = up.below in omega (arith, low))

-- sets up to a place, where no later one has a form
pub gains_whole : (m n : ℕ) (P : ℕ → UnitAt → Type 0) (a b : List UnitAt) → ((k : ℕ) (x : UnitAt) → k < n → P k x → k < m) → ((k : ℕ) (x : UnitAt) → k < m → P k x → k < n) → Gains (Upto m P) a b → Gains (Upto n P) a b
gains_whole m n P a b forth back one =
    gains_same (Upto m P) (Upto n P) a b one
    (λ x. (
      λ up. record { place = up.place; below = forth up.place x up.below up.is; is = up.is },
      λ up. record { place = up.place; below = back up.place x up.below up.is; is = up.is },
    ))
