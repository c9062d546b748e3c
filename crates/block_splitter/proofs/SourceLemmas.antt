-- The least and the greatest source of each block.
use Rattle.std.proofs.Common.{◌≡◌, ◌∙◌, ◌⊎◌, inl, inr, ℕ, min, max, ◌<◌, ◌==◌, nat_lt, Bool, true, false, ◌&&◌, ◌||◌, List, set, length, refl, sym, ap, arith}
use Rattle.std.proofs.lemmas.Bool.Decides.{nat_tests}
use Rattle.std.proofs.lemmas.List.{get_or-set_same, get_or-set_other}
use Rattle.block_splitter.specs.declared.block_form.Sources.{Sources}
use Rattle.block_splitter.specs.Facts.{no_sources, sources_at}

-- ---- one source more

and_true : (x y t : Bool) → t ≡ true → x || y ≡ x || (y && t)
and_true true y t is = refl
and_true false true t is = sym is
and_true false false t is = refl

and_false : (x y t : Bool) → t ≡ false → x ≡ x || (y && t)
and_false true y t is = refl
and_false false true t is = sym is
and_false false false t is = refl

equal : (k b : ℕ) → k ≡ b → (k == b) ≡ true
equal k b same = grind (arith, nat_tests, same)

unequal : (k b : ℕ) → (k ≡ b → ⊥) → (k == b) ≡ false
unequal k b differs = grind (arith, nat_tests, differs)

-- a test of the sources of block `b` where those of block `k` have changed
there : (p : Sources → Bool) (q : Bool) (old : List Sources) (k b : ℕ) (t : Bool) (new : Sources) → k < length old → t ≡ (k == b) → p new ≡ p (sources_at old k) || q → p (sources_at (set old k new) b) ≡ p (sources_at old b) || (q && t)
there p q old k b t new below is more =
    let place : (k ≡ b) ⊎ (k ≡ b → ⊥) = grind arith in
    elim place [
      | inl here ↦
          let item : sources_at (set old k new) b ≡ new = rw (sym here) (get_or-set_same old k new no_sources below) in
          ap p item ∙ more ∙ ap (λ (j : ℕ). p (sources_at old j) || q) here ∙ and_true (p (sources_at old b)) q t (is ∙ equal k b here)
      | inr other ↦
          ap p (get_or-set_other old k b new no_sources (λ e. other (sym e))) ∙ and_false (p (sources_at old b)) q t (is ∙ unequal k b other)
    ]

min_less : (x a first : ℕ) → nat_lt (min x a) first ≡ nat_lt x first || nat_lt a first
min_less x a first = grind (arith, nat_tests)

max_more : (x a last : ℕ) → nat_lt last (max x a) ≡ nat_lt last x || nat_lt last a
max_more x a last = grind (arith, nat_tests)

pub least_there : (old : List Sources) (k a b first : ℕ) (t : Bool) (new : Sources) → k < length old → t ≡ (k == b) → new.least ≡ min (sources_at old k).least a → nat_lt (sources_at (set old k new) b).least first ≡ nat_lt (sources_at old b).least first || (nat_lt a first && t)
least_there old k a b first t new below is least =
    there (λ s. nat_lt s.least first) (nat_lt a first) old k b t new below is
    (ap (λ (x : ℕ). nat_lt x first) least ∙ min_less (sources_at old k).least a first)

pub greatest_there : (old : List Sources) (k a b last : ℕ) (t : Bool) (new : Sources) → k < length old → t ≡ (k == b) → new.greatest ≡ max (sources_at old k).greatest a → nat_lt last (sources_at (set old k new) b).greatest ≡ nat_lt last (sources_at old b).greatest || (nat_lt last a && t)
greatest_there old k a b last t new below is greatest =
    there (λ s. nat_lt last s.greatest) (nat_lt last a) old k b t new below is
    (ap (λ (x : ℕ). nat_lt last x) greatest ∙ max_more (sources_at old k).greatest a last)
