-- The pieces of a run.
use Rattle.std.proofs.Common.{◌≡◌, ◌⊎◌, inl, inr, ℕ, zero, suc, ◌+◌, ◌<◌, ◌≤◌, true, false, List, [], ◌∷◌, take, drop, length, refl, arith, rules}
use Rattle.hex_image.specs.Runs.{run_at}
use Rattle.hex_image.specs.Text.{is_cut, pieces_from}

-- a piece ends at the first cut, or with the bytes
pub first_piece : (first address : ℕ) (bytes : List ℕ) (n : ℕ) → 0 < n → n ≤ length bytes → ((k : ℕ) → 0 < k → k < n → is_cut first (address + k) ≡ false) → (n ≡ length bytes) ⊎ (is_cut first (address + n) ≡ true) → pieces_from first address bytes ≡ run_at address (take n bytes) ∷ pieces_from first (address + n) (drop n bytes)
first_piece first address [] n some fits inside ends = absurd (omega arith)
first_piece first address (b ∷ bs) zero some fits inside ends = absurd (omega arith)
first_piece first address (b ∷ []) (suc zero) some fits inside ends = search rules
first_piece first address (b ∷ c ∷ bs) (suc zero) some fits inside (inl all) = absurd (omega arith)
first_piece first address (b ∷ c ∷ bs) (suc zero) some fits inside (inr cut) = rw cut refl
first_piece first address (b ∷ bs) (suc (suc m)) some fits inside ends =
    let next : address + 1 + suc m ≡ address + suc (suc m) = omega arith in
    let uncut : is_cut first (address + 1) ≡ false = inside 1 (omega arith) (omega arith) in
    let rest = first_piece first (address + 1) bs (suc m) (omega arith) (omega arith)
    (λ k lower upper. let same : address + 1 + k ≡ address + suc k = omega arith in rw same (inside (suc k) (omega arith) (omega arith)))
    (elim ends [ inl all ↦ inl (omega arith) | inr cut ↦ inr (rw next cut) ]) in
    rw (uncut, rest, next) refl
