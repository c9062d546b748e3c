-- Memory of both machines stays alike where a place and its address are changed alike.
use Rattle.std.proofs.Common.{◌≡◌, ◌⊎◌, inl, inr, ℕ, ◌+◌, ◌-◌, ◌<◌, ◌≤◌, Bool, true, false, sym, ◌∙◌, subst, arith}
use Rattle.std.proofs.lemmas.Bool.{cases_eq, cases_lt}
use Rattle.rv32im.specs.Memory.{Memory}
use Rattle.cell_values.specs.declared.values.Cell.{Cell}
use Rattle.cell_values.specs.Origins.{Origin}
use Rattle.cell_values.specs.Stands.{CellStands, CellHoldsWord}
use Rattle.object_machine.specs.Program.{Program}
use Rattle.object_machine.specs.State.{Cells}
use Rattle.simulation.specs.Setups.{Setup, Sound}
use Rattle.simulation.proofs.Puts.{ChangedIn}

-- what `Alike` says of memory, by its tables
pub record HoldsAlike (p : Program) (l : Setup) (r : ℕ) (fixed_cells : Cells) (object_cells : ℕ → Cells) (fixed_origins : ℕ → Origin) (object_origins : ℕ → ℕ → Origin) (mem : Memory) : Type 0 where
  pub fixed : (a : ℕ) → p.is_fixed a ≡ true → CellStands (l.place r) (l.upper r) (fixed_origins a) (fixed_cells a) (mem a)
  pub cells : (o i : ℕ) → i < p.objects.size o → CellStands (l.place r) (l.upper r) (object_origins o i) (object_cells o i) (mem (l.place r o + i))
  pub fixed_words : (a : ℕ) → p.is_fixed a ≡ true → CellHoldsWord (fixed_cells a)
  pub cell_words : (o i : ℕ) → i < p.objects.size o → CellHoldsWord (object_cells o i)
  pub still : (a : ℕ) → l.is_still r a ≡ true → mem a ≡ l.still r a

-- an entry is one of `n` in a row, or none of them
among : (k n b : ℕ) → ((i : ℕ) × ((i < n) × (b ≡ k + i))) ⊎ ((i : ℕ) → i < n → b ≡ k + i → ⊥)
among k n b =
    elim (cases_lt b k) [
      | inl before ↦ inr (λ i below same. omega arith)
      | inr from ↦ elim (cases_lt b (k + n)) [
        | inl inside ↦ inl (b - k, (omega arith, omega arith))
        | inr behind ↦ inr (λ i below same. omega arith)
      ]
    ]

opposed : (b : Bool) → b ≡ true → b ≡ false → ⊥
opposed b is other = cc

module _ (p : Program) (l : Setup) (r : ℕ) (sound : Sound p l r) (n : ℕ) (cs : ℕ → Cell) (ms : ℕ → Origin) (bytes : ℕ → ℕ) (stands : (i : ℕ) → i < n → CellStands (l.place r) (l.upper r) (ms i) (cs i) (bytes i)) (holds : (i : ℕ) → i < n → CellHoldsWord (cs i)) where
  -- entry `b` of a table is at the address `e`
  entry_stands : (k at : ℕ) (old new : Cells) (origins made : ℕ → Origin) (mem put : Memory) → ChangedIn old new k n cs → ChangedIn origins made k n ms → ChangedIn mem put at n bytes → (b e : ℕ) → e + k ≡ at + b → CellStands (l.place r) (l.upper r) (origins b) (old b) (mem e) → CellStands (l.place r) (l.upper r) (made b) (new b) (put e)
  entry_stands k at old new origins made mem put cells_are origins_are bytes_are b e place before =
      elim (among k n b) [
        | inl found ↦
            let i : ℕ = found.0 in
            let below : i < n = found.1.0 in
            let here : b ≡ k + i = found.1.1 in
            let there : e ≡ at + i = omega arith in
            let cell : new b ≡ cs i = subst (λ a. new a ≡ cs i) (sym here) (cells_are.inside i below) in
            let origin : made b ≡ ms i = subst (λ a. made a ≡ ms i) (sym here) (origins_are.inside i below) in
            let byte : put e ≡ bytes i = subst (λ a. put a ≡ bytes i) (sym there) (bytes_are.inside i below) in
            rw (cell, origin, byte) (stands i below)
        | inr disjoint ↦
            let cell : new b ≡ old b = cells_are.outside b disjoint in
            let origin : made b ≡ origins b = origins_are.outside b disjoint in
            let byte : put e ≡ mem e = bytes_are.outside e (λ i below same. disjoint i below (omega arith)) in
            rw (cell, origin, byte) before
      ]

  entry_holds : (k : ℕ) (old new : Cells) → ChangedIn old new k n cs → (b : ℕ) → CellHoldsWord (old b) → CellHoldsWord (new b)
  entry_holds k old new cells_are b before =
      elim (among k n b) [
        | inl found ↦
            let cell : new b ≡ cs found.0 = subst (λ a. new a ≡ cs found.0) (sym found.1.1) (cells_are.inside found.0 found.1.0) in
            rw cell (holds found.0 found.1.0)
        | inr disjoint ↦ let cell : new b ≡ old b = cells_are.outside b disjoint in rw cell before
      ]

  module _ (fixed_cells : Cells) (object_cells : ℕ → Cells) (fixed_origins : ℕ → Origin) (object_origins : ℕ → ℕ → Origin) (mem put : Memory) (alike : HoldsAlike p l r fixed_cells object_cells fixed_origins object_origins mem) where
    -- in fixed memory
    pub fixed_alike : (a : ℕ) (new : Cells) (made : ℕ → Origin) → ((i : ℕ) → i < n → p.is_fixed (a + i) ≡ true) → ChangedIn fixed_cells new a n cs → ChangedIn fixed_origins made a n ms → ChangedIn mem put a n bytes → HoldsAlike p l r new object_cells made object_origins put
    fixed_alike a new made here cells_are origins_are bytes_are =
        let off : (b : ℕ) → p.is_fixed b ≡ false → put b ≡ mem b =
        λ b free.
        bytes_are.outside b (λ i below same.
        opposed (p.is_fixed (a + i)) (here i below) (subst (λ q. p.is_fixed q ≡ false) same free)) in
        record {
          fixed = λ b is.
              entry_stands a a fixed_cells new fixed_origins made mem put cells_are origins_are bytes_are b b (omega arith)
              (alike.fixed b is);
          cells = λ o i below.
              subst (λ byte. CellStands (l.place r) (l.upper r) (object_origins o i) (object_cells o i) byte)
              (sym (off (l.place r o + i) (sound.objects_off_fixed o i below))) (alike.cells o i below);
          fixed_words = λ b is. entry_holds a fixed_cells new cells_are b (alike.fixed_words b is);
          cell_words = alike.cell_words;
          still = λ b is. off b (sound.still_off_fixed b is) ∙ alike.still b is;
        }

    -- in an object
    pub object_alike : (o d at : ℕ) (new : ℕ → Cells) (made : ℕ → ℕ → Origin) → at ≡ l.place r o + d → d + n ≤ p.objects.size o → ChangedIn (object_cells o) (new o) d n cs → ((q : ℕ) → (q ≡ o → ⊥) → new q ≡ object_cells q) → ChangedIn (object_origins o) (made o) d n ms → ((q : ℕ) → (q ≡ o → ⊥) → made q ≡ object_origins q) → ChangedIn mem put at n bytes → HoldsAlike p l r fixed_cells new fixed_origins made put
    object_alike o d at new made is inside cells_are other_cells origins_are other_origins bytes_are =
        let byte_place : (b i : ℕ) → b ≡ at + i → b ≡ l.place r o + (d + i) = λ b i same. omega arith in
        let off_fixed : (b : ℕ) → p.is_fixed b ≡ true → put b ≡ mem b =
        λ b fixed.
        bytes_are.outside b (λ i below same.
        opposed (p.is_fixed (l.place r o + (d + i))) (subst (λ q. p.is_fixed q ≡ true) (byte_place b i same) fixed)
        (sound.objects_off_fixed o (d + i) (omega arith))) in
        let off_still : (b : ℕ) → l.is_still r b ≡ true → put b ≡ mem b =
        λ b still.
        bytes_are.outside b (λ i below same.
        opposed (l.is_still r (l.place r o + (d + i)))
        (subst (λ q. l.is_still r q ≡ true) (byte_place b i same) still)
        (sound.still_off_objects o (d + i) (omega arith))) in
        let off_others : (q j : ℕ) → (q ≡ o → ⊥) → j < p.objects.size q → put (l.place r q + j) ≡ mem (l.place r q + j) =
        λ q j other small.
        bytes_are.outside (l.place r q + j) (λ i below same.
        sound.fit.disjoint q o j (d + i) other small (omega arith) (omega arith)) in
        let own_cells : (j : ℕ) → j < p.objects.size o → CellStands (l.place r) (l.upper r) (made o j) (new o j) (put (l.place r o + j)) =
        λ j small.
        entry_stands d at (object_cells o) (new o) (object_origins o) (made o) mem put cells_are origins_are bytes_are j
        (l.place r o + j) (omega arith) (alike.cells o j small) in
        record {
          fixed = λ b fixed.
              subst (λ byte. CellStands (l.place r) (l.upper r) (fixed_origins b) (fixed_cells b) byte)
              (sym (off_fixed b fixed)) (alike.fixed b fixed);
          cells = λ q j small.
              elim (cases_eq q o) [
                | inl same ↦
                    subst (λ k. j < p.objects.size k → CellStands (l.place r) (l.upper r) (made k j) (new k j) (put (l.place r k + j)))
                    (sym same) (own_cells j) small
                | inr other ↦
                    let cells_kept = other_cells q other in
                    let origins_kept = other_origins q other in
                    let byte_kept = off_others q j other small in
                    rw (cells_kept, origins_kept, byte_kept) (alike.cells q j small)
              ];
          fixed_words = alike.fixed_words;
          cell_words = λ q j small.
              elim (cases_eq q o) [
                | inl same ↦
                    subst (λ k. j < p.objects.size k → CellHoldsWord (new k j)) (sym same)
                    (λ less. entry_holds d (object_cells o) (new o) cells_are j (alike.cell_words o j less)) small
                | inr other ↦ let cells_kept = other_cells q other in rw cells_kept (alike.cell_words q j small)
              ];
          still = λ b still. off_still b still ∙ alike.still b still;
        }
