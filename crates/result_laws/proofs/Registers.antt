-- Registers have addresses of objects that each may hold, also behind a write.
use Rattle.std.proofs.Common.{◌≡◌, ◌∙◌, inl, inr, ℕ, sym, subst}
use Rattle.std.proofs.lemmas.Bool.{cases_eq}
use Rattle.cell_values.specs.declared.values.Val.{Val}
use Rattle.object_machine.specs.State.{SourceState, value, with_value, wrote}
use Rattle.simulation.proofs.Steps.{value_zero, value_wrote, value_other}
use Rattle.result_laws.specs.Holds.{ValueIsHeld, AreHeld}
use Rattle.result_laws.proofs.Values.{value_more}

module _ (before after : ℕ → ℕ → Type 0) (escapes : ℕ → Type 0) where
  -- all other registers keep what they may hold
  pub write_held : (rd : ℕ) (x : Val) (s : SourceState) → ((k o : ℕ) → (k ≡ 0 → ⊥) → (k ≡ rd → ⊥) → before k o → after k o) → ((rd ≡ 0 → ⊥) → ValueIsHeld (after rd) escapes x) → AreHeld before escapes s → AreHeld after escapes (wrote s rd x)
  write_held rd x s others new held = record { regs = regs; fixed = held.fixed; cells = held.cells }
    where
      regs : (k : ℕ) → ValueIsHeld (after k) escapes (value (with_value s.regs rd x) k)
      regs k =
          elim (cases_eq k 0) [
            | inl none ↦ let there = value_zero (with_value s.regs rd x) k none in rw there tt
            | inr some ↦ elim (cases_eq k rd) [
              | inl same ↦
                  let there = value_wrote s.regs rd k x same some in
                  let here : ValueIsHeld (after k) escapes x =
                  subst (λ (j : ℕ). ValueIsHeld (after j) escapes x) (sym same) (new (λ none. some (same ∙ none))) in
                  rw there here
              | inr other ↦
                  let there = value_other s.regs rd k x other in
                  rw there (value_more (before k) (after k) escapes (λ o. others k o some other) (value s.regs k) (held.regs k))
            ]
          ]

  pub kept_held : (s : SourceState) → ((k o : ℕ) → (k ≡ 0 → ⊥) → before k o → after k o) → AreHeld before escapes s → AreHeld after escapes s
  kept_held s kept held = record { regs = regs; fixed = held.fixed; cells = held.cells }
    where
      regs : (k : ℕ) → ValueIsHeld (after k) escapes (value s.regs k)
      regs k =
          elim (cases_eq k 0) [
            | inl none ↦ let there = value_zero s.regs k none in rw there tt
            | inr some ↦ value_more (before k) (after k) escapes (λ o. kept k o some) (value s.regs k) (held.regs k)
          ]
