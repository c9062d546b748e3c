-- Memory has addresses of objects that escape alone, also behind what stores and calls put.
use Rattle.std.proofs.Common.{◌≡◌, ◌∙◌, inl, inr, ℕ, ◌+◌, ◌-◌, ◌<◌, ◌≤◌, slice_index_or, List, [], ◌∷◌, refl, subst, arith}
use Rattle.std.proofs.lemmas.Bool.{cases_eq, cases_lt}
use Rattle.rv32im.specs.Acts.{store_width}
use Rattle.rv32im.specs.declared.instructions.LoadKind.{LoadKind}
use Rattle.rv32im.specs.declared.instructions.LoadKind.TheVariants.{Lb, Lh, Lw, Lbu, Lhu}
use Rattle.rv32im.specs.declared.instructions.StoreKind.{StoreKind}
use Rattle.cell_values.specs.Cells.{split, put_at, put_cells}
use Rattle.cell_values.specs.declared.values.Val.{Val}
use Rattle.cell_values.specs.declared.values.Cell.{Cell}
use Rattle.cell_values.specs.declared.values.Cell.TheVariants.{Byte, Mist}
use Rattle.object_machine.specs.Program.{Program}
use Rattle.object_machine.specs.State.{Cells, SourceState}
use Rattle.object_machine.specs.Places.{Where, InFixed, InObject, Nowhere, byte_place}
use Rattle.object_machine.specs.Memory.{cell_at, signed_byte, signed_half, same_number, loaded_value, stored_at, stored_cells}
use Rattle.object_machine.specs.Calls.{put_input}
use Rattle.simulation.proofs.Puts.{ChangedIn, put_here, put_elsewhere, split_changed, width_small}
use Rattle.result_laws.specs.Holds.{ValueIsHeld, CellIsHeld, AreHeld}
use Rattle.result_laws.proofs.Values.{byte_in, half_in, join_in}

-- ---- cells that change

-- cells that are put in a row
changed_held : (escapes : ℕ → Type 0) (old new : Cells) (k n : ℕ) (xs : ℕ → Cell) → ChangedIn old new k n xs → ((a : ℕ) → CellIsHeld escapes (old a)) → ((i : ℕ) → i < n → CellIsHeld escapes (xs i)) → (a : ℕ) → CellIsHeld escapes (new a)
changed_held escapes old new k n xs cells before put a =
    elim (cases_lt a k) [
      | inl low ↦ elsewhere (λ i below same. omega (arith, low, same))
      | inr high ↦ elim (cases_lt (a - k) n) [
        | inl below ↦ here below high
        | inr beyond ↦ elsewhere (λ i below same. omega (arith, high, beyond, below, same))
      ]
    ]
  where
    elsewhere : ((i : ℕ) → i < n → a ≡ k + i → ⊥) → CellIsHeld escapes (new a)
    elsewhere other = let cell = cells.outside a other in rw cell (before a)

    here : a - k < n → k ≤ a → CellIsHeld escapes (new a)
    here below high =
        let same : k + (a - k) ≡ a = omega (arith, high) in
        let cell : new a ≡ xs (a - k) = subst (λ b. new b ≡ xs (a - k)) same (cells.inside (a - k) below) in
        rw cell (put (a - k) below)

module _ (may : ℕ → ℕ → Type 0) (escapes : ℕ → Type 0) where
  -- the cells of one object change
  object_held : (old : ℕ → Cells) (o : ℕ) (cells : Cells) → ((q i : ℕ) → CellIsHeld escapes (old q i)) → ((i : ℕ) → CellIsHeld escapes (cells i)) → (q i : ℕ) → CellIsHeld escapes (put_at old o cells q i)
  object_held old o cells before put q i =
      elim (cases_eq q o) [
        | inl same ↦ let there = put_here old o q cells same in rw there (put i)
        | inr other ↦ let there = put_elsewhere old o q cells other in rw there (before q i)
      ]

  one_held : (table : Cells) (k : ℕ) (c : Cell) → CellIsHeld escapes c → ((a : ℕ) → CellIsHeld escapes (table a)) → (a : ℕ) → CellIsHeld escapes (put_at table k c a)
  one_held table k c put before a =
      elim (cases_eq a k) [
        | inl same ↦ let there = put_here table k a c same in rw there put
        | inr other ↦ let there = put_elsewhere table k a c other in rw there (before a)
      ]

  -- ---- stores

  module _ (kind : StoreKind) (x : Val) (cell_held : (k : ℕ) → k < 4 → CellIsHeld escapes (slice_index_or (split x) k Mist)) where
    table_held : (table : Cells) (k : ℕ) → ((a : ℕ) → CellIsHeld escapes (table a)) → (a : ℕ) → CellIsHeld escapes (put_cells table k (stored_cells kind x) a)
    table_held table k before =
        let small = width_small kind in
        changed_held escapes table (put_cells table k (stored_cells kind x)) k (store_width kind)
        (λ i. slice_index_or (split x) i Mist) (split_changed kind x table k) before
        (λ i below. cell_held i (omega (arith, small, below)))

    pub store_held : (s : SourceState) (w : Where) → AreHeld may escapes s → AreHeld may escapes (stored_at s w (stored_cells kind x))
    store_held s (InFixed a) held =
        record { regs = held.regs; fixed = table_held s.fixed a held.fixed; cells = held.cells }
    store_held s (InObject o d) held =
        record {
          regs = held.regs;
          fixed = held.fixed;
          cells = object_held s.cells o (put_cells (s.cells o) d (stored_cells kind x)) held.cells (table_held (s.cells o) d (held.cells o));
        }
    store_held s (Nowhere why) held = held

  -- ---- what a call puts

  byte_held : (s : SourceState) (w : Where) (b : ℕ) → AreHeld may escapes s → AreHeld may escapes (stored_at s w (Byte b ∷ []))
  byte_held s (InFixed a) b held =
      record { regs = held.regs; fixed = one_held s.fixed a (Byte b) tt held.fixed; cells = held.cells }
  byte_held s (InObject o d) b held =
      record {
        regs = held.regs;
        fixed = held.fixed;
        cells = object_held s.cells o (put_at (s.cells o) d (Byte b)) held.cells (one_held (s.cells o) d (Byte b) tt (held.cells o));
      }
  byte_held s (Nowhere why) b held = held

  pub input_held : (p : Program) (bytes : List ℕ) (s : SourceState) (x : Val) (i : ℕ) → AreHeld may escapes s → AreHeld may escapes (put_input p s x i bytes)
  input_held p [] s x i held = held
  input_held p (b ∷ bytes) s x i held =
      input_held p bytes (stored_at s (byte_place p x i) (Byte b ∷ [])) x (i + 1) (byte_held s (byte_place p x i) b held)

  -- ---- loads

  cell_held : (s : SourceState) (w : Where) (i : ℕ) → AreHeld may escapes s → CellIsHeld escapes (cell_at s w i)
  cell_held s (InFixed a) i held = held.fixed (a + i)
  cell_held s (InObject o d) i held = held.cells o (d + i)
  cell_held s (Nowhere why) i held = tt

  -- only a word has an address
  pub load_held : (kind : LoadKind) (more : ℕ → Type 0) (s : SourceState) (w : Where) → (kind ≡ Lw → (o : ℕ) → escapes o → more o) → AreHeld may escapes s → ValueIsHeld more escapes (loaded_value kind s w)
  load_held Lb more s w also held = byte_in more escapes signed_byte (cell_at s w 0) (cell_held s w 0 held)
  load_held Lbu more s w also held = byte_in more escapes same_number (cell_at s w 0) (cell_held s w 0 held)
  load_held Lh more s w also held = half_in more escapes signed_half (cell_at s w 0) (cell_at s w 1)
  load_held Lhu more s w also held = half_in more escapes same_number (cell_at s w 0) (cell_at s w 1)
  load_held Lw more s w also held =
      join_in more escapes (cell_at s w 0) (cell_at s w 1) (cell_at s w 2) (cell_at s w 3) (also refl) (cell_held s w 0 held)

-- ---- a machine that goes on does so

pub stored_goes : (s : SourceState) (w : Where) (cs : List Cell) → (stored_at s w cs).outcome ≡ s.outcome
stored_goes s (InFixed a) cs = refl
stored_goes s (InObject o d) cs = refl
stored_goes s (Nowhere why) cs = refl

pub input_goes : (p : Program) (bytes : List ℕ) (s : SourceState) (x : Val) (i : ℕ) → (put_input p s x i bytes).outcome ≡ s.outcome
input_goes p [] s x i = refl
input_goes p (b ∷ bytes) s x i =
    input_goes p bytes (stored_at s (byte_place p x i) (Byte b ∷ [])) x (i + 1) ∙ stored_goes s (byte_place p x i) (Byte b ∷ [])
