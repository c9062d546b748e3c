-- Addresses one word behind the other, as long as a test passes.
use Rattle.std.proofs.Common.{◌≡◌, ◌⊎◌, inl, inr, ℕ, zero, suc, ◌+◌, ◌*◌, ◌<◌, Bool, true, false, if◌then◌else◌, List, [], ◌∷◌, length, slice_index_or, refl, ◌∙◌, ap, subst, arith}
use Rattle.elf_reader.specs.File.{PlainView}
use Rattle.code_blocks.specs.Blocks.{goes_on, unit_addresses}

abbrev pub chain : (ℕ → Bool) → ℕ → ℕ → List ℕ
chain go a zero = []
chain go a (suc n) = a ∷ (if go a then chain go (a + 4) n else [])

pub is_chain : (v : PlainView) (a n : ℕ) → unit_addresses v a n ≡ chain (goes_on v) a n
is_chain v a zero = refl
is_chain v a (suc n) = ap (λ (rest : List ℕ). a ∷ (if goes_on v a then rest else [])) (is_chain v (a + 4) n)

pub chain_some : (go : ℕ → Bool) (a n : ℕ) → 0 < n → 0 < length (chain go a n)
chain_some go a zero some = absurd (omega (arith, some))
chain_some go a (suc n) some = omega arith

at_after : (rest : List ℕ) (a k : ℕ) (b : Bool) → (k < length rest → slice_index_or rest k 0 ≡ (a + 4) + 4 * k) → suc k < length (a ∷ (if b then rest else [])) → slice_index_or (a ∷ (if b then rest else [])) (suc k) 0 ≡ a + 4 * suc k
at_after rest a k true at below =
    let e : (a + 4) + 4 * k ≡ a + 4 * suc k = omega arith in at (omega (arith, below)) ∙ e
at_after rest a k false at below = absurd (omega (arith, below))

-- the address at a place
pub chain_at : (go : ℕ → Bool) (a n k : ℕ) → k < length (chain go a n) → slice_index_or (chain go a n) k 0 ≡ a + 4 * k
chain_at go a zero k below = absurd (omega (arith, below))
chain_at go a (suc n) zero below = omega arith
chain_at go a (suc n) (suc k) below = at_after (chain go (a + 4) n) a k (go a) (chain_at go (a + 4) n k) below

below_after : (rest : List ℕ) (a n k : ℕ) (b : Bool) → (k < length rest → k < n) → suc k < length (a ∷ (if b then rest else [])) → suc k < suc n
below_after rest a n k true few below = let less = few (omega (arith, below)) in omega (arith, less)
below_after rest a n k false few below = absurd (omega (arith, below))

-- there are no more than words
pub chain_below : (go : ℕ → Bool) (a n k : ℕ) → k < length (chain go a n) → k < n
chain_below go a zero k below = absurd (omega (arith, below))
chain_below go a (suc n) zero below = omega arith
chain_below go a (suc n) (suc k) below = below_after (chain go (a + 4) n) a n k (go a) (chain_below go (a + 4) n k) below

end_first : (rest : List ℕ) (a : ℕ) (b : Bool) → 0 < length rest → 1 ≡ length (a ∷ (if b then rest else [])) → b ≡ false
end_first rest a true some one = absurd (omega (arith, some, one))
end_first rest a false some one = refl

end_after : (rest : List ℕ) (go : ℕ → Bool) (a n k : ℕ) (b : Bool) → (suc k ≡ length rest → (suc k ≡ n) ⊎ (go ((a + 4) + 4 * k) ≡ false)) → suc (suc k) ≡ length (a ∷ (if b then rest else [])) → (suc (suc k) ≡ suc n) ⊎ (go (a + 4 * suc k) ≡ false)
end_after rest go a n k true ends last =
    let e : (a + 4) + 4 * k ≡ a + 4 * suc k = omega arith in
    elim (ends (omega (arith, last))) [
      | inl all ↦ inl (ap suc all)
      | inr stops ↦ inr (subst (λ (x : ℕ). go x ≡ false) e stops)
    ]
end_after rest go a n k false ends last = absurd (omega (arith, last))

-- the last one has no word behind it, or fails the test
pub chain_ends : (go : ℕ → Bool) (a n k : ℕ) → suc k ≡ length (chain go a n) → (suc k ≡ n) ⊎ (go (a + 4 * k) ≡ false)
chain_ends go a zero k last = absurd (omega (arith, last))
chain_ends go a (suc zero) zero last = inl refl
chain_ends go a (suc (suc n)) zero last =
    let e : a ≡ a + 4 * 0 = omega arith in
    inr (subst (λ (x : ℕ). go x ≡ false) e (end_first (chain go (a + 4) (suc n)) a (go a) (chain_some go (a + 4) (suc n) (omega arith)) last))
chain_ends go a (suc n) (suc k) last = end_after (chain go (a + 4) n) go a n k (go a) (chain_ends go (a + 4) n k) last
