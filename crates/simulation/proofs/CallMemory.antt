-- The bytes that a call reads and writes: where they stand on the flat machine, and that both memories stay
-- alike as bytes are put.
use Rattle.std.proofs.Common.{◌≡◌, ◌⊎◌, inl, inr, ℕ, zero, suc, ◌+◌, ◌<◌, ◌≤◌, ◌==◌, if◌then◌else◌, Bool, true, false, Some, None, List, [], ◌∷◌, length, refl, sym, ◌∙◌, subst, arith}
use Rattle.std.specs.Prelude.{nat_lt}
use Rattle.std.proofs.lemmas.Bool.{cases_eq}
use Rattle.std.proofs.lemmas.Bool.Decides.{nat_tests}
use Rattle.std.proofs.lemmas.List.Elements.{All-head, All-tail}
use Rattle.rv32im.specs.Words.{plus}
use Rattle.rv32im.specs.Memory.{Memory, put, put_bytes}
use Rattle.elf_reader.specs.Loadable.{IsByte, AreBytes}
use Rattle.board_config.specs.declared.board.Range.{Range}
use Rattle.flat_machine.specs.Mapping.{is_mapped, can_move}
use Rattle.cell_values.specs.declared.values.Val.{Val}
use Rattle.cell_values.specs.declared.values.Val.TheVariants.{Int, Addr}
use Rattle.cell_values.specs.declared.values.Cell.{Cell}
use Rattle.cell_values.specs.declared.values.Cell.TheVariants.{Byte}
use Rattle.cell_values.specs.Origins.{Origin}
use Rattle.cell_values.specs.Stands.{Stands, CellStands, CellHoldsWord}
use Rattle.cell_values.specs.Cells.{put_at}
use Rattle.object_machine.specs.Program.{Program}
use Rattle.object_machine.specs.State.{SourceState}
use Rattle.object_machine.specs.Places.{Where, InFixed, InObject, Nowhere, in_fixed, byte_place, read_fault, write_fault}
use Rattle.object_machine.specs.Memory.{cell_at, stored_at}
use Rattle.object_machine.specs.Calls.{put_input}
use Rattle.object_machine.specs.Paired.{Origins, origin_at}
use Rattle.simulation.specs.Setups.{Setup, Sound}
use Rattle.simulation.proofs.Places.{all_mapped_each}

-- what `Alike` says of memory
pub record MemoryAlike (p : Program) (l : Setup) (r : ℕ) (s : SourceState) (m : Origins) (mem : Memory) : Type 0 where
  pub fixed : (a : ℕ) → p.is_fixed a ≡ true → CellStands (l.place r) (l.upper r) (m.fixed a) (s.fixed a) (mem a)
  pub cells : (o i : ℕ) → i < p.objects.size o → CellStands (l.place r) (l.upper r) (m.cells o i) (s.cells o i) (mem (l.place r o + i))
  pub fixed_words : (a : ℕ) → p.is_fixed a ≡ true → CellHoldsWord (s.fixed a)
  pub cell_words : (o i : ℕ) → i < p.objects.size o → CellHoldsWord (s.cells o i)
  pub still : (a : ℕ) → l.is_still r a ≡ true → mem a ≡ l.still r a
  pub bytes : (a : ℕ) → mem a < 256

-- the flat address of a byte's place
abbrev pub GoesTo : Program → Setup → ℕ → Where → ℕ → Type 0
GoesTo p l r (InFixed a) w = (w ≡ a) × (p.is_fixed a ≡ true)
GoesTo p l r (InObject o d) w = (w ≡ l.place r o + d) × (d < p.objects.size o)
GoesTo p l r (Nowhere why) w = ⊥

-- ---- tables

put_here : (mem : Memory) (w b : ℕ) → put mem w b w ≡ b
unfolding put
put_here mem w b = grind (arith, nat_tests)

put_off : (mem : Memory) (w b a : ℕ) → (a ≡ w → ⊥) → put mem w b a ≡ mem a
unfolding put
put_off mem w b a other = grind (arith, nat_tests)

cell_here : {A : Type 0} (table : ℕ → A) (k : ℕ) (x : A) → put_at table k x k ≡ x
unfolding put_at
cell_here table k x = grind (arith, nat_tests)

cell_off : {A : Type 0} (table : ℕ → A) (k : ℕ) (x : A) (j : ℕ) → (j ≡ k → ⊥) → put_at table k x j ≡ table j
unfolding put_at
cell_off table k x j other = grind (arith, nat_tests)

-- ---- bytes of a value's place

module _ (p : Program) (l : Setup) (r : ℕ) where
  fixed_goes : (b w : ℕ) → w ≡ b → (why : ℕ) (test : Bool) → p.is_fixed b ≡ test → read_fault (in_fixed b (if test then None else Some why)) ≡ None → GoesTo p l r (in_fixed b (if test then None else Some why)) w
  fixed_goes b w same why true is free = (same, is)
  fixed_goes b w same why false is free = cc

  -- an address of a byte of an object is no more than the object's place and what lies before the byte
  object_word : Sound p l r → (o d i w : ℕ) → d + i < p.objects.size o → w ≡ plus (l.place r o) d → w + i ≡ l.place r o + (d + i)
  object_word sound o d i w inside stands = let below = sound.fit.below o in omega arith

  pub byte_goes : Sound p l r → (origin : Origin) (x : Val) (w i : ℕ) → Stands p.objects (l.place r) (l.upper r) origin x w → read_fault (byte_place p x i) ≡ None → GoesTo p l r (byte_place p x i) (w + i)
  byte_goes sound origin (Int a) w i stands free =
      fixed_goes (a + i) (w + i) (omega arith) (if p.is_held (a + i) then 4 else 3) (p.is_fixed (a + i)) refl free
  byte_goes sound origin (Addr o d) w i stands free =
      object_at sound o d i w stands (nat_lt (d + i) (p.objects.size o)) refl free
    where
      object_at : Sound p l r → (o d i w : ℕ) → w ≡ plus (l.place r o) d → (test : Bool) → nat_lt (d + i) (p.objects.size o) ≡ test → read_fault (if test then InObject o (d + i) else Nowhere 1) ≡ None → GoesTo p l r (if test then InObject o (d + i) else Nowhere 1) (w + i)
      object_at sound o d i w stands true is free =
          let inside : d + i < p.objects.size o = grind (arith, nat_tests) in
          (object_word sound o d i w inside stands, inside)
      object_at sound o d i w stands false is free = cc
  byte_goes sound origin x w i stands free = cc

  -- where a place that can be reached lies on the flat machine
  pub goes_below : Sound p l r → (x : Where) (w : ℕ) → GoesTo p l r x w → w < 4294967296
  goes_below sound (InFixed a) w goes = let below = sound.fixed_below a goes.1 in omega arith
  goes_below sound (InObject o d) w goes = let below = sound.fit.below o in omega arith
  goes_below sound (Nowhere why) w goes = absurd goes

  pub goes_mapped : Sound p l r → (x : Where) (w : ℕ) → GoesTo p l r x w → is_mapped l.map w ≡ true
  goes_mapped sound (InFixed a) w goes =
      subst (λ b. is_mapped l.map b ≡ true) (sym goes.0) (sound.fixed_mapped a goes.1)
  goes_mapped sound (InObject o d) w goes =
      subst (λ b. is_mapped l.map b ≡ true) (sym goes.0) (sound.objects_mapped o d goes.1)
  goes_mapped sound (Nowhere why) w goes = absurd goes

-- what may be written may be read
pub read_too : (p : Program) (x : Where) → write_fault p x ≡ None → read_fault x ≡ None
read_too p (InFixed a) free = refl
read_too p (InObject o d) free = refl
read_too p (Nowhere why) free = free

-- bytes that are mapped and below 2 ^ 32 can be moved
bytes_below : (w n : ℕ) → w < 4294967296 → ((i : ℕ) → i < n → w + i < 4294967296) → w + n ≤ 4294967296
bytes_below w zero word each = omega arith
bytes_below w (suc n) word each = let last = each n (omega arith) in omega arith

pub moves : (map : List Range) (w n : ℕ) → w < 4294967296 → ((i : ℕ) → i < n → w + i < 4294967296) → ((i : ℕ) → i < n → is_mapped map (w + i) ≡ true) → can_move map w n ≡ true
moves map w n word below mapped =
    let ends = bytes_below w n word below in
    let all = all_mapped_each map w n mapped in
    grind (arith, nat_tests)

-- ---- bytes of memory

module _ (p : Program) (l : Setup) (r : ℕ) (sound : Sound p l r) (m : Origins) where
  pub goes_stands : (s : SourceState) (mem : Memory) → MemoryAlike p l r s m mem → (x : Where) (w : ℕ) → GoesTo p l r x w → CellStands (l.place r) (l.upper r) (origin_at m x 0) (cell_at s x 0) (mem w)
  goes_stands s mem alike (InFixed a) w goes =
      let none : a + 0 ≡ a = omega arith in
      subst (λ b. CellStands (l.place r) (l.upper r) (m.fixed b) (s.fixed b) (mem w)) (sym none)
      (subst (λ v. CellStands (l.place r) (l.upper r) (m.fixed a) (s.fixed a) (mem v)) (sym goes.0) (alike.fixed a goes.1))
  goes_stands s mem alike (InObject o d) w goes =
      let none : d + 0 ≡ d = omega arith in
      subst (λ b. CellStands (l.place r) (l.upper r) (m.cells o b) (s.cells o b) (mem w)) (sym none)
      (subst (λ v. CellStands (l.place r) (l.upper r) (m.cells o d) (s.cells o d) (mem v)) (sym goes.0) (alike.cells o d goes.1))
  goes_stands s mem alike (Nowhere why) w goes = absurd goes

  -- ---- one byte put into fixed memory

  chosen : (test : Bool) (origin : Origin) (c : Cell) (v b : ℕ) → CellStands (l.place r) (l.upper r) origin c v → CellStands (l.place r) (l.upper r) origin (if test then Byte b else c) (if test then b else v)
  chosen true origin c v b stands = refl
  chosen false origin c v b stands = stands

  chosen_word : (test : Bool) (c : Cell) (b : ℕ) → b < 256 → CellHoldsWord c → CellHoldsWord (if test then Byte b else c)
  chosen_word true c b byte word = byte
  chosen_word false c b byte word = word

  byte_put : (mem : Memory) (w b : ℕ) → b < 256 → ((a : ℕ) → mem a < 256) → (a : ℕ) → put mem w b a < 256
  unfolding put
  byte_put mem w b byte bytes a = let before = bytes a in grind (arith, nat_tests)

  -- an address of fixed memory is none of an object's, and none of what stands still
  fixed_off_object : (a o i : ℕ) → p.is_fixed a ≡ true → i < p.objects.size o → l.place r o + i ≡ a → ⊥
  fixed_off_object a o i fixed inside same =
      let other = subst (λ b. p.is_fixed b ≡ false) same (sound.objects_off_fixed o i inside) in cc

  fixed_off_still : (a b : ℕ) → p.is_fixed a ≡ true → l.is_still r b ≡ true → b ≡ a → ⊥
  fixed_off_still a b fixed still same =
      let other = subst (λ c. p.is_fixed c ≡ false) same (sound.still_off_fixed b still) in cc

  still_off_object : (a o i : ℕ) → l.is_still r a ≡ true → i < p.objects.size o → a ≡ l.place r o + i → ⊥
  still_off_object a o i still inside same =
      let other = sound.still_off_objects o i inside in
      let is = subst (λ b. l.is_still r b ≡ true) same still in
      cc

  fixed_put : (s : SourceState) (mem : Memory) → MemoryAlike p l r s m mem → (a b : ℕ) → p.is_fixed a ≡ true → b < 256 → MemoryAlike p l r (stored_at s (InFixed a) (Byte b ∷ [])) m (put mem a b)
  unfolding put put_at
  fixed_put s mem alike a b fixed byte = record {
    fixed = λ c is. chosen (c == a) (m.fixed c) (s.fixed c) (mem c) b (alike.fixed c is);
    cells = λ o i inside.
        subst (λ v. CellStands (l.place r) (l.upper r) (m.cells o i) (s.cells o i) v)
        (sym (put_off mem a b (l.place r o + i) (fixed_off_object a o i fixed inside))) (alike.cells o i inside);
    fixed_words = λ c is. chosen_word (c == a) (s.fixed c) b byte (alike.fixed_words c is);
    cell_words = alike.cell_words;
    still = λ c is. put_off mem a b c (fixed_off_still a c fixed is) ∙ alike.still c is;
    bytes = byte_put mem a b byte alike.bytes;
  }

  -- ---- one byte put into an object

  object_cells : (s : SourceState) (mem : Memory) (o d b q j : ℕ) → d < p.objects.size o → j < p.objects.size q → CellStands (l.place r) (l.upper r) (m.cells q j) (s.cells q j) (mem (l.place r q + j)) → CellStands (l.place r) (l.upper r) (m.cells q j) (put_at s.cells o (put_at (s.cells o) d (Byte b)) q j) (put mem (l.place r o + d) b (l.place r q + j))
  object_cells s mem o d b q j inside within stands =
      elim (cases_eq q o) [
        | inl same ↦ same_object q j same within stands
        | inr other ↦
            let cells : put_at s.cells o (put_at (s.cells o) d (Byte b)) q ≡ s.cells q = cell_off s.cells o (put_at (s.cells o) d (Byte b)) q other in
            let disjoint = sound.fit.disjoint q o j d other within inside in
            let byte = put_off mem (l.place r o + d) b (l.place r q + j) disjoint in
            subst (λ c. CellStands (l.place r) (l.upper r) (m.cells q j) (c j) (put mem (l.place r o + d) b (l.place r q + j))) (sym cells)
            (subst (λ v. CellStands (l.place r) (l.upper r) (m.cells q j) (s.cells q j) v) (sym byte) stands)
      ]
    where
      same_place : (j : ℕ) → CellStands (l.place r) (l.upper r) (m.cells o j) (s.cells o j) (mem (l.place r o + j)) → CellStands (l.place r) (l.upper r) (m.cells o j) (put_at (s.cells o) d (Byte b) j) (put mem (l.place r o + d) b (l.place r o + j))
      same_place j stands =
          elim (cases_eq j d) [
            | inl same ↦
                subst (λ k. CellStands (l.place r) (l.upper r) (m.cells o k) (put_at (s.cells o) d (Byte b) k) (put mem (l.place r o + d) b (l.place r o + k))) (sym same)
                (subst (λ c. CellStands (l.place r) (l.upper r) (m.cells o d) c (put mem (l.place r o + d) b (l.place r o + d))) (sym (cell_here (s.cells o) d (Byte b)))
                (put_here mem (l.place r o + d) b))
            | inr other ↦
                let cell = cell_off (s.cells o) d (Byte b) j other in
                let disjoint : l.place r o + j ≡ l.place r o + d → ⊥ = λ equal. other (omega arith) in
                let byte = put_off mem (l.place r o + d) b (l.place r o + j) disjoint in
                subst (λ c. CellStands (l.place r) (l.upper r) (m.cells o j) c (put mem (l.place r o + d) b (l.place r o + j))) (sym cell)
                (subst (λ v. CellStands (l.place r) (l.upper r) (m.cells o j) (s.cells o j) v) (sym byte) stands)
          ]

      same_object : (q j : ℕ) → q ≡ o → j < p.objects.size q → CellStands (l.place r) (l.upper r) (m.cells q j) (s.cells q j) (mem (l.place r q + j)) → CellStands (l.place r) (l.upper r) (m.cells q j) (put_at s.cells o (put_at (s.cells o) d (Byte b)) q j) (put mem (l.place r o + d) b (l.place r q + j))
      same_object q j same within stands =
          let here = subst (λ k. CellStands (l.place r) (l.upper r) (m.cells k j) (s.cells k j) (mem (l.place r k + j))) same stands in
          let cells : put_at s.cells o (put_at (s.cells o) d (Byte b)) o ≡ put_at (s.cells o) d (Byte b) = cell_here s.cells o (put_at (s.cells o) d (Byte b)) in
          subst (λ k. CellStands (l.place r) (l.upper r) (m.cells k j) (put_at s.cells o (put_at (s.cells o) d (Byte b)) k j) (put mem (l.place r o + d) b (l.place r k + j))) (sym same)
          (subst (λ c. CellStands (l.place r) (l.upper r) (m.cells o j) (c j) (put mem (l.place r o + d) b (l.place r o + j))) (sym cells)
          (same_place j here))

  object_words : (s : SourceState) (o d b q j : ℕ) → b < 256 → CellHoldsWord (s.cells o j) → CellHoldsWord (s.cells q j) → CellHoldsWord (put_at s.cells o (put_at (s.cells o) d (Byte b)) q j)
  unfolding put_at
  object_words s o d b q j byte own word = outer (q == o)
    where
      outer : (test : Bool) → CellHoldsWord ((if test then put_at (s.cells o) d (Byte b) else s.cells q) j)
      outer true = chosen_word (j == d) (s.cells o j) b byte own
      outer false = word

  object_put : (s : SourceState) (mem : Memory) → MemoryAlike p l r s m mem → (o d b : ℕ) → d < p.objects.size o → b < 256 → MemoryAlike p l r (stored_at s (InObject o d) (Byte b ∷ [])) m (put mem (l.place r o + d) b)
  object_put s mem alike o d b inside byte = record {
    fixed = λ a is.
        subst (λ v. CellStands (l.place r) (l.upper r) (m.fixed a) (s.fixed a) v)
        (sym (put_off mem (l.place r o + d) b a (λ same. fixed_off_object a o d is inside (sym same)))) (alike.fixed a is);
    cells = λ q j within. object_cells s mem o d b q j inside within (alike.cells q j within);
    fixed_words = alike.fixed_words;
    cell_words = λ q j within. words q j within (cases_eq q o);
    still = λ a is. put_off mem (l.place r o + d) b a (still_off_object a o d is inside) ∙ alike.still a is;
    bytes = byte_put mem (l.place r o + d) b byte alike.bytes;
  }
    where
      words : (q j : ℕ) → j < p.objects.size q → (q ≡ o) ⊎ (q ≡ o → ⊥) → CellHoldsWord (put_at s.cells o (put_at (s.cells o) d (Byte b)) q j)
      words q j within (inl same) =
          let word = alike.cell_words q j within in
          object_words s o d b q j byte (subst (λ k. CellHoldsWord (s.cells k j)) same word) word
      words q j within (inr other) =
          subst (λ c. CellHoldsWord (c j)) (sym (cell_off s.cells o (put_at (s.cells o) d (Byte b)) q other))
          (alike.cell_words q j within)

  -- ---- bytes put one after the other

  pub goes_put : (s : SourceState) (mem : Memory) → MemoryAlike p l r s m mem → (x : Where) (w b : ℕ) → GoesTo p l r x w → b < 256 → MemoryAlike p l r (stored_at s x (Byte b ∷ [])) m (put mem w b)
  goes_put s mem alike (InFixed a) w b goes byte =
      subst (λ v. MemoryAlike p l r (stored_at s (InFixed a) (Byte b ∷ [])) m (put mem v b)) (sym goes.0)
      (fixed_put s mem alike a b goes.1 byte)
  goes_put s mem alike (InObject o d) w b goes byte =
      subst (λ v. MemoryAlike p l r (stored_at s (InObject o d) (Byte b ∷ [])) m (put mem v b)) (sym goes.0)
      (object_put s mem alike o d b goes.1 byte)
  goes_put s mem alike (Nowhere why) w b goes byte = absurd goes

  pub input_put : (x : Val) (w : ℕ) (bytes : List ℕ) (i : ℕ) (s : SourceState) (mem : Memory) → MemoryAlike p l r s m mem → AreBytes bytes → ((j : ℕ) → i ≤ j → j < i + length bytes → GoesTo p l r (byte_place p x j) (w + j)) → MemoryAlike p l r (put_input p s x i bytes) m (put_bytes mem (w + i) bytes)
  input_put x w [] i s mem alike are goes = alike
  input_put x w (b ∷ bytes) i s mem alike are goes =
      let first = goes_put s mem alike (byte_place p x i) (w + i) b (goes i (omega arith) (omega arith)) (All-head IsByte b bytes are) in
      let rest =
      input_put x w bytes (i + 1) (stored_at s (byte_place p x i) (Byte b ∷ [])) (put mem (w + i) b) first
      (All-tail IsByte b bytes are) (λ j from below. goes j (omega arith) (omega arith)) in
      let next : w + (i + 1) ≡ w + i + 1 = omega arith in
      subst (λ v. MemoryAlike p l r (put_input p (stored_at s (byte_place p x i) (Byte b ∷ [])) x (i + 1) bytes) m (put_bytes (put mem (w + i) b) v bytes)) next
      rest
