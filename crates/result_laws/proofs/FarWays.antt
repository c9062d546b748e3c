-- Two words that jump far, by a register that doesn't matter where they go.
use Rattle.std.proofs.Common.{◌≡◌, ◌∙◌, ℕ, suc, ◌+◌, ◌*◌, ◌/◌, ◌%◌, ◌<◌, List, [], ◌∷◌, length, slice_index, sym, ap, subst, arith}
use Rattle.rv32im.specs.Words.{plus, upper_half, lower_half}
use Rattle.rv32im.specs.Sequences.{jump_absolute, MeanAll}
use Rattle.rv32im.proofs.SequenceLemmas.{halves}
use Rattle.flat_machine.proofs.SilentLines.{even_again}
use Rattle.simulation.specs.Setups.{Setup}
use Rattle.simulation.specs.Units.{StandsAt}
use Rattle.simulation.specs.Ways.{Way, Far, reached_by}

reached : (to : ℕ) → to < 4294967296 → to % 2 ≡ 0 → reached_by (upper_half to) (lower_half to) ≡ to
reached to below even = ap (λ (w : ℕ). w / 2 * 2) (halves to below) ∙ even_again to even

-- two words that stand still, by a register that doesn't matter where they go
pub far_way : (l : Setup) (live : ℕ → ℕ → Type 0) (form : ℕ → ℕ → ℕ → Type 0) (r v at t to n : ℕ) (ws : List ℕ) → at + 4 < 4294967296 → to < 4294967296 → to % 2 ≡ 0 → MeanAll ws (jump_absolute t to) → ((k : ℕ) → k < length ws → StandsAt l r (at + 4 * k) (slice_index ws k)) → (t ≡ 0 → ⊥) → (live v t → ⊥) → Way l live form r v n to → Way l live form r v (suc (suc n)) at
far_way l live form r v at t to n [] low below even mean stands some dead way = absurd mean
far_way l live form r v at t to n (w ∷ []) low below even mean stands some dead way = absurd mean.1
far_way l live form r v at t to n (w ∷ x ∷ []) low below even mean stands some dead way =
    let here : at + 4 * 0 ≡ at = omega arith in
    let behind : at + 4 * 1 ≡ plus at 4 = omega (arith, low) in
    Far n at w x t (upper_half to) (lower_half to) (subst (λ a. StandsAt l r a w) here (stands 0 (omega arith))) mean.0
    (subst (λ a. StandsAt l r a x) behind (stands 1 (omega arith))) mean.1.0 some dead
    (subst (λ a. Way l live form r v n a) (sym (reached to below even)) way)
far_way l live form r v at t to n (w ∷ x ∷ y ∷ ws) low below even mean stands some dead way = absurd mean.1.1
