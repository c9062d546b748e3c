-- A truth value against a fact.
use Rattle.std.proofs.Common.{◌≡◌, ◌↔◌, true, false, IsTrue}

-- a refusal is right where the fact doesn't hold
pub refused : {P : Type 0} → (P → ⊥) → (IsTrue false ↔ P)
refused no_fact = (λ found. absurd (let e : false ≡ true = found in cc), λ fact. absurd (no_fact fact))
