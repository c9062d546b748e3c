-- Cells of words that have rows, where a row is put.
use Rattle.std.proofs.Common.{◌≡◌, ◌≢◌, ◌∙◌, inl, inr, ℕ, ◌+◌, ◌*◌, ◌/◌, ◌%◌, ◌<◌, ◌≤◌, ◌==◌, true, false, if◌then◌else◌, Option, Some, None, is_some, IsSome, List, [], ◌∷◌, length, set, slice_index_or, refl, sym, ap, arith}
use Rattle.std.proofs.lemmas.Bool.{cases_eq}
use Rattle.std.proofs.lemmas.Bool.Decides.{nat_tests}
use Rattle.std.proofs.lemmas.List.{get_or-set_same, get_or-set_other}
use Rattle.rv32im.specs.Memory.{Memory}
use Rattle.cell_values.specs.declared.values.Cell.{Cell}
use Rattle.cell_values.specs.declared.values.Cell.TheVariants.{Mist}
use Rattle.cell_values.specs.declared.values.Val.{Val}
use Rattle.cell_values.specs.declared.values.Val.TheVariants.{Int, Addr, Hi, Low, Piece, Unknown}
use Rattle.cell_values.specs.Cells.{put_at, put_cells, split, join}
use Rattle.cell_values.specs.Laws.{joined}
use Rattle.cell_values.specs.Marks.{AreMarked, mark_of}
use Rattle.cell_values.specs.Rows.{row_in, cell_in, cells_in, HasRow}
use Rattle.cell_values.specs.Stored.{cell_or, cells_over}
use Rattle.cell_values.proofs.CellLemmas.{HasNone}
use Rattle.cell_values.proofs.Stores.{first_cells}

abbrev Rows : Type 0
Rows = ℕ → Option (List Cell)

row_here : (old new : Rows) (at a : ℕ) (row : List Cell) → HasRow old new at row → a / 4 ≡ at / 4 → new (a / 4) ≡ Some row
row_here old new at a row has same =
    let is : (a / 4 == at / 4) ≡ true = grind (arith, nat_tests, same) in has (a / 4) ∙ rw is refl

row_there : (old new : Rows) (at a : ℕ) (row : List Cell) → HasRow old new at row → a / 4 ≢ at / 4 → new (a / 4) ≡ old (a / 4)
row_there old new at a row has other =
    let is : (a / 4 == at / 4) ≡ false = grind (arith, nat_tests, other) in has (a / 4) ∙ rw is refl

cell_there : (old new : Rows) (mem : Memory) (at a : ℕ) (row : List Cell) → HasRow old new at row → a / 4 ≢ at / 4 → cells_over (cells_in new) mem a ≡ cells_over (cells_in old) mem a
cell_there old new mem at a row has other =
    ap (λ r. cell_or (cell_in r (a % 4)) (mem a)) (row_there old new at a row has other)

cell_here : (old new : Rows) (mem : Memory) (at a : ℕ) (row : List Cell) → HasRow old new at row → a / 4 ≡ at / 4 → cells_over (cells_in new) mem a ≡ slice_index_or row (a % 4) Mist
cell_here old new mem at a row has same =
    ap (λ r. cell_or (cell_in r (a % 4)) (mem a)) (row_here old new at a row has same)

-- words with rows are marked still
pub still_marked : (old new : Rows) (marks : List ℕ) (at : ℕ) (row : List Cell) → AreMarked (cells_in old) marks → 0 < mark_of marks at → HasRow old new at row → AreMarked (cells_in new) marks
still_marked old new marks at row are mark has a none =
    elim (cases_eq (a / 4) (at / 4)) [
      | inl same ↦
          let is : mark_of marks a ≡ mark_of marks at = ap (λ (w : ℕ). slice_index_or marks (w % 65536) 0) same in
          absurd (omega (arith, is, none, mark))
      | inr other ↦
          ap (λ r. is_some (cell_in r (a % 4))) (row_there old new at a row has other) ∙ are a none
    ]

-- a word without a row has no entry
pub none_of_row : (cells : Option (List Cell)) (value : Option Val) → row_in cells value ≡ None → value ≡ None
none_of_row (Some cells) value none = cc
none_of_row None (Some value) none = cc
none_of_row None None none = refl

-- ---- what makes rows

-- one word has got an entry, and no other has changed
abbrev pub HasEntry : {T : Type 0} → (ℕ → Option T) → (ℕ → Option T) → ℕ → T → Type 0
HasEntry old new at entry = (w : ℕ) → new w ≡ (if w == at / 4 then Some entry else old w)

abbrev pub over : (ℕ → Option (List Cell)) → (ℕ → Option Val) → Rows
over cells values = λ w. row_in (cells w) (values w)

pub value_row : (cells : Rows) (old new : ℕ → Option Val) (at : ℕ) (x : Val) → cells (at / 4) ≡ None → HasEntry old new at x → HasRow (over cells old) (over cells new) at (split x)
value_row cells old new at x none has w =
    ap (row_in (cells w)) (has w)
    ∙ elim (cases_eq w (at / 4)) [
      | inl same ↦
          let is : (w == at / 4) ≡ true = grind (arith, nat_tests, same) in
          rw is (ap (λ o. row_in o (Some x)) (ap cells same ∙ none))
      | inr other ↦
          let is : (w == at / 4) ≡ false = grind (arith, nat_tests, other) in rw is refl
    ]

pub cells_row : (old new : Rows) (values : ℕ → Option Val) (at : ℕ) (row : List Cell) → HasEntry old new at row → HasRow (over old values) (over new values) at row
cells_row old new values at row has w =
    ap (λ o. row_in o (values w)) (has w)
    ∙ elim (cases_eq w (at / 4)) [
      | inl same ↦
          let is : (w == at / 4) ≡ true = grind (arith, nat_tests, same) in rw is refl
      | inr other ↦
          let is : (w == at / 4) ≡ false = grind (arith, nat_tests, other) in rw is refl
    ]

pub entry_made : {T : Type 0} (old new : ℕ → Option T) (at : ℕ) (entry : T) → HasEntry old new at entry → (w : ℕ) → IsSome (old w) → IsSome (new w)
entry_made old new at entry has w some =
    elim (cases_eq w (at / 4)) [
      | inl same ↦
          let is : (w == at / 4) ≡ true = grind (arith, nat_tests, same) in rw (has w, is) refl
      | inr other ↦
          let is : (w == at / 4) ≡ false = grind (arith, nat_tests, other) in rw (has w, is) some
    ]

-- the cells where no row has changed
pub rows_same : (old new : Rows) (mem : Memory) → ((w : ℕ) → new w ≡ old w) → cells_over (cells_in new) mem ≡ cells_over (cells_in old) mem
rows_same old new mem same = λ i a. cell_or (cell_in (same (a / 4) i) (a % 4)) (mem a)

-- ---- four cells are put in a word

abbrev four : Cell → Cell → Cell → Cell → List Cell
four x0 x1 x2 x3 = x0 ∷ x1 ∷ x2 ∷ x3 ∷ []

put_off : (t : ℕ → Cell) (at : ℕ) (x0 x1 x2 x3 : Cell) (a : ℕ) → a ≢ at → a ≢ at + 1 → a ≢ at + 1 + 1 → a ≢ at + 1 + 1 + 1 → put_cells t at (four x0 x1 x2 x3) a ≡ t a
unfolding put_at
put_off t at x0 x1 x2 x3 a n0 n1 n2 n3 =
    let b0 : (a == at) ≡ false = grind (arith, nat_tests, n0) in
    let b1 : (a == at + 1) ≡ false = grind (arith, nat_tests, n1) in
    let b2 : (a == at + 1 + 1) ≡ false = grind (arith, nat_tests, n2) in
    let b3 : (a == at + 1 + 1 + 1) ≡ false = grind (arith, nat_tests, n3) in rw (b3, b2, b1, b0) refl

put_on : (t : ℕ → Cell) (at : ℕ) (x0 x1 x2 x3 : Cell) (k : ℕ) → k < 4 → put_cells t at (four x0 x1 x2 x3) (at + k) ≡ slice_index_or (four x0 x1 x2 x3) k Mist
unfolding put_at
put_on t at x0 x1 x2 x3 k below =
    first_cells (λ (j : ℕ). put_cells t at (four x0 x1 x2 x3) (at + j) ≡ slice_index_or (four x0 x1 x2 x3) j Mist)
    (grind (arith, nat_tests)) (grind (arith, nat_tests)) (grind (arith, nat_tests)) (grind (arith, nat_tests)) k below

four_at : (old new : Rows) (mem : Memory) (at : ℕ) (x0 x1 x2 x3 : Cell) → at % 4 ≡ 0 → HasRow old new at (four x0 x1 x2 x3) → (a : ℕ) → cells_over (cells_in new) mem a ≡ put_cells (cells_over (cells_in old) mem) at (four x0 x1 x2 x3) a
four_at old new mem at x0 x1 x2 x3 aligned has a =
    elim (cases_eq (a / 4) (at / 4)) [
      | inl same ↦
          let is : at + a % 4 ≡ a = omega (arith, aligned, same) in
          cell_here old new mem at a (four x0 x1 x2 x3) has same
          ∙ (sym (put_on (cells_over (cells_in old) mem) at x0 x1 x2 x3 (a % 4) (omega arith))
          ∙ ap (put_cells (cells_over (cells_in old) mem) at (four x0 x1 x2 x3)) is)
      | inr other ↦
          cell_there old new mem at a (four x0 x1 x2 x3) has other
          ∙ sym (put_off (cells_over (cells_in old) mem) at x0 x1 x2 x3 a
          (λ is. other (omega (arith, aligned, is))) (λ is. other (omega (arith, aligned, is)))
          (λ is. other (omega (arith, aligned, is))) (λ is. other (omega (arith, aligned, is))))
    ]

pub four_put : (old new : Rows) (mem : Memory) (at : ℕ) (x0 x1 x2 x3 : Cell) → at % 4 ≡ 0 → HasRow old new at (four x0 x1 x2 x3) → cells_over (cells_in new) mem ≡ put_cells (cells_over (cells_in old) mem) at (four x0 x1 x2 x3)
four_put old new mem at x0 x1 x2 x3 aligned has =
    λ i a. four_at old new mem at x0 x1 x2 x3 aligned has a i

-- the cells of a value are put in a word
pub value_put : (old new : Rows) (mem : Memory) (at : ℕ) (x : Val) → at % 4 ≡ 0 → HasRow old new at (split x) → cells_over (cells_in new) mem ≡ put_cells (cells_over (cells_in old) mem) at (split x)
value_put old new mem at (Int n) aligned has = four_put old new mem at _ _ _ _ aligned has
value_put old new mem at (Addr o d) aligned has = four_put old new mem at _ _ _ _ aligned has
value_put old new mem at (Hi o d) aligned has = four_put old new mem at _ _ _ _ aligned has
value_put old new mem at (Low n) aligned has = four_put old new mem at _ _ _ _ aligned has
value_put old new mem at (Piece hi o d k) aligned has = four_put old new mem at _ _ _ _ aligned has
value_put old new mem at Unknown aligned has = four_put old new mem at _ _ _ _ aligned has

-- ---- one cell of a row is put

-- a row has the cells that stand in the word of an address
abbrev pub IsPresent : Rows → Memory → ℕ → List Cell → Type 0
IsPresent rows mem at row =
    (k : ℕ) → k < 4 → slice_index_or row k Mist ≡ cells_over (cells_in rows) mem (at / 4 * 4 + k)

present_here : (rows : Rows) (mem : Memory) (at a : ℕ) (row : List Cell) → IsPresent rows mem at row → a / 4 ≡ at / 4 → slice_index_or row (a % 4) Mist ≡ cells_over (cells_in rows) mem a
present_here rows mem at a row is same =
    let back : at / 4 * 4 + a % 4 ≡ a = omega (arith, same) in
    is (a % 4) (omega arith) ∙ ap (cells_over (cells_in rows) mem) back

kept_at : (old new : Rows) (mem : Memory) (at : ℕ) (row : List Cell) → IsPresent old mem at row → HasRow old new at row → (a : ℕ) → cells_over (cells_in new) mem a ≡ cells_over (cells_in old) mem a
kept_at old new mem at row is has a =
    elim (cases_eq (a / 4) (at / 4)) [
      | inl same ↦
          cell_here old new mem at a row has same ∙ present_here old mem at a row is same
      | inr other ↦ cell_there old new mem at a row has other
    ]

-- a word has got a row of the cells that it had
pub row_kept : (old new : Rows) (mem : Memory) (at : ℕ) (row : List Cell) → IsPresent old mem at row → HasRow old new at row → cells_over (cells_in new) mem ≡ cells_over (cells_in old) mem
row_kept old new mem at row is has = λ i a. kept_at old new mem at row is has a i

put_here : (t : ℕ → Cell) (at : ℕ) (c : Cell) (a : ℕ) → a ≡ at → put_at t at c a ≡ c
unfolding put_at
put_here t at c a same = grind (arith, nat_tests, same)

put_other : (t : ℕ → Cell) (at : ℕ) (c : Cell) (a : ℕ) → a ≢ at → put_at t at c a ≡ t a
unfolding put_at
put_other t at c a other = grind (arith, nat_tests, other)

single_at : (old new : Rows) (mem : Memory) (at : ℕ) (row : List Cell) (cell : Cell) → length row ≡ 4 → IsPresent old mem at row → HasRow old new at (set row (at % 4) cell) → (a : ℕ) → cells_over (cells_in new) mem a ≡ put_at (cells_over (cells_in old) mem) at cell a
single_at old new mem at row cell len is has a =
    let t = cells_over (cells_in old) mem in
    elim (cases_eq (a / 4) (at / 4)) [
      | inl same ↦
          cell_here old new mem at a (set row (at % 4) cell) has same
          ∙ elim (cases_eq a at) [
            | inl here ↦
                ap (λ (b : ℕ). slice_index_or (set row (at % 4) cell) (b % 4) Mist) here
                ∙ (get_or-set_same row (at % 4) cell Mist (omega (arith, len))
                ∙ sym (put_here t at cell a here))
            | inr there ↦
                get_or-set_other row (at % 4) (a % 4) cell Mist (λ alike. there (omega (arith, same, alike)))
                ∙ (present_here old mem at a row is same ∙ sym (put_other t at cell a there))
          ]
      | inr other ↦
          cell_there old new mem at a (set row (at % 4) cell) has other
          ∙ sym (put_other t at cell a (λ here. other (ap (λ (b : ℕ). b / 4) here)))
    ]

pub single_put : (old new : Rows) (mem : Memory) (at : ℕ) (row : List Cell) (cell : Cell) → length row ≡ 4 → IsPresent old mem at row → HasRow old new at (set row (at % 4) cell) → cells_over (cells_in new) mem ≡ put_at (cells_over (cells_in old) mem) at cell
single_put old new mem at row cell len is has =
    λ i a. single_at old new mem at row cell len is has a i

-- ---- what a word has

-- the cells of a row stand in its word
pub found_in : (rows : Rows) (mem : Memory) (at : ℕ) (row : List Cell) → rows (at / 4) ≡ Some row → IsPresent rows mem at row
found_in rows mem at row is k below =
    let word : (at / 4 * 4 + k) / 4 ≡ at / 4 = omega (arith, below) in
    let rest : (at / 4 * 4 + k) % 4 ≡ k = omega (arith, below) in
    sym (ap (λ r. cell_or (cell_in r ((at / 4 * 4 + k) % 4)) (mem (at / 4 * 4 + k))) (ap rows word ∙ is)
    ∙ ap (λ (j : ℕ). slice_index_or row j Mist) rest)

-- the word of a row
pub row_joined : (rows : Rows) (mem : Memory) (at : ℕ) (row : List Cell) → at % 4 ≡ 0 → rows (at / 4) ≡ Some row → join (slice_index_or row 0 Mist) (slice_index_or row 1 Mist) (slice_index_or row 2 Mist) (slice_index_or row 3 Mist) ≡ join (cells_over (cells_in rows) mem at) (cells_over (cells_in rows) mem (at + 1)) (cells_over (cells_in rows) mem (at + 2)) (cells_over (cells_in rows) mem (at + 3))
row_joined rows mem at row aligned is =
    let t = cells_over (cells_in rows) mem in
    let present = found_in rows mem at row is in
    let place : (k : ℕ) → at / 4 * 4 + k ≡ at + k = λ k. omega (arith, aligned) in
    let none : at / 4 * 4 + 0 ≡ at = omega (arith, aligned) in
    let c0 = present 0 (omega arith) ∙ ap t none in
    let c1 = present 1 (omega arith) ∙ ap t (place 1) in
    let c2 = present 2 (omega arith) ∙ ap t (place 2) in
    let c3 = present 3 (omega arith) ∙ ap t (place 3) in λ z. join (c0 z) (c1 z) (c2 z) (c3 z)

pub value_joined : (rows : Rows) (mem : Memory) (at : ℕ) (x : Val) → at % 4 ≡ 0 → rows (at / 4) ≡ Some (split x) → joined (split x) ≡ join (cells_over (cells_in rows) mem at) (cells_over (cells_in rows) mem (at + 1)) (cells_over (cells_in rows) mem (at + 2)) (cells_over (cells_in rows) mem (at + 3))
value_joined rows mem at (Int n) aligned is = row_joined rows mem at (split (Int n)) aligned is
value_joined rows mem at (Addr o d) aligned is = row_joined rows mem at (split (Addr o d)) aligned is
value_joined rows mem at (Hi o d) aligned is = row_joined rows mem at (split (Hi o d)) aligned is
value_joined rows mem at (Low n) aligned is = row_joined rows mem at (split (Low n)) aligned is
value_joined rows mem at (Piece hi o d k) aligned is = row_joined rows mem at (split (Piece hi o d k)) aligned is
value_joined rows mem at Unknown aligned is = row_joined rows mem at (split Unknown) aligned is

-- a word without a row has bytes
pub none_in : (rows : Rows) (at count : ℕ) → at % 4 + count ≤ 4 → rows (at / 4) ≡ None → HasNone (cells_in rows) at count
none_in rows at count fits none k below =
    let word : (at + k) / 4 ≡ at / 4 = omega (arith, fits, below) in
    ap (λ r. cell_in r ((at + k) % 4)) (ap rows word ∙ none)
