-- What a list contains, and what is left of it by a test.
use Rattle.std.proofs.Common.{◌≡◌, ◌⊎◌, inl, inr, ℕ, zero, suc, Bool, true, false, List, [], ◌∷◌, refl, ◌∙◌, ap, subst, arith}
use Rattle.std.specs.List.{Contains, filter}

pub in_rest : {X : Type 0} (y : X) (xs : List X) (x : X) → Contains xs x → Contains (y ∷ xs) x
in_rest y xs x (k, below, is) = (suc k, omega (arith, below), is)

pub in_first : {X : Type 0} (x : X) (xs : List X) → Contains (x ∷ xs) x
in_first x xs = (0, omega arith, refl)

pub in_cons : {X : Type 0} (y : X) (xs : List X) (x : X) → Contains (y ∷ xs) x → (y ≡ x) ⊎ Contains xs x
in_cons y xs x (zero, below, is) = inl is
in_cons y xs x (suc k, below, is) = inr (k, omega (arith, below), is)

pub two_truths : (b : Bool) → (b ≡ true) ⊎ (b ≡ false)
two_truths true = inl refl
two_truths false = inr refl

pub kept : (p : ℕ → Bool) (xs : List ℕ) (x : ℕ) → Contains xs x → p x ≡ true → Contains (filter p xs) x
kept p [] x (k, below, is) passes = absurd (omega (arith, below))
kept p (y ∷ xs) x found passes =
    elim (two_truths (p y)) [
      | inl on ↦ rw on (elim (in_cons y xs x found) [
        | inl same ↦ subst (λ (z : ℕ). Contains (y ∷ filter p xs) z) same (in_first y (filter p xs))
        | inr rest ↦ in_rest y (filter p xs) x (kept p xs x rest passes)
      ])
      | inr off ↦ rw off (elim (in_cons y xs x found) [
        | inl same ↦ let also : p y ≡ true = ap p same ∙ passes in absurd (cc (also, off))
        | inr rest ↦ kept p xs x rest passes
      ])
    ]

pub from_kept : (p : ℕ → Bool) (xs : List ℕ) (x : ℕ) → Contains (filter p xs) x → Contains xs x
from_kept p [] x found = found
from_kept p (y ∷ xs) x found =
    elim (two_truths (p y)) [
      | inl on ↦ elim (in_cons y (filter p xs) x (rw on at found)) [
        | inl same ↦ subst (λ (z : ℕ). Contains (y ∷ xs) z) same (in_first y xs)
        | inr rest ↦ in_rest y xs x (from_kept p xs x rest)
      ]
      | inr off ↦ in_rest y xs x (from_kept p xs x (rw off at found))
    ]
