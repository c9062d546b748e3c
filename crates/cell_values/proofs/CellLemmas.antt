-- What a store's cells are after a write to its pages.
use Rattle.std.proofs.Common.{◌≡◌, ◌∙◌, inl, inr, ℕ, ◌+◌, ◌<◌, ◌≤◌, ◌/◌, ◌%◌, ◌==◌, Bool, true, false, if◌then◌else◌, Option, Some, None, is_some, IsSome, IsTrue, List, length, slice_index_or, refl, sym, ap, subst, arith}
use Rattle.std.proofs.lemmas.Bool.{cases_eq}
use Rattle.std.proofs.lemmas.Bool.Decides.{nat_tests}
use Rattle.std.proofs.lemmas.List.{get_or_default}
use Rattle.rv32im.specs.Words.{plus, byte_of}
use Rattle.rv32im.specs.Memory.{Memory, zeros, put, put_half, put_word, half_at, word_at}
use Rattle.cell_values.specs.declared.values.Cell.{Cell}
use Rattle.cell_values.specs.declared.values.Cell.TheVariants.{Byte, Part, Mist}
use Rattle.cell_values.specs.declared.values.Val.{Val}
use Rattle.cell_values.specs.declared.values.Val.TheVariants.{Int}
use Rattle.cell_values.specs.Cells.{put_at, put_cells, bytes_of, join}
use Rattle.cell_values.specs.Marks.{AreMarked, mark_of, half_of_cells}
use Rattle.cell_values.specs.declared.store.CellStore.{CellStore}
use Rattle.cell_values.specs.Stored.{cell_or, cells_over, CanPut, HasPlace}

byte_step : (here : Bool) (cell : Option Cell) (byte other : ℕ) → cell_or (if here then None else cell) (if here then byte else other) ≡ (if here then Byte byte else cell_or cell other)
byte_step true cell byte other = refl
byte_step false cell byte other = refl

byte_at_place : (old new : ℕ → Option Cell) (mem : Memory) (at byte : ℕ) → ((a : ℕ) → new a ≡ (if a == at then None else old a)) → (a : ℕ) → cell_or (new a) (put mem at byte a) ≡ put_at (cells_over old mem) at (Byte byte) a
unfolding put put_at
byte_at_place old new mem at byte table a =
    ap (λ o. cell_or o (if a == at then byte else mem a)) (table a) ∙ byte_step (a == at) (old a) byte (mem a)

-- a byte is put into a page, and the table has none at its address any more
pub byte_put : (old new : ℕ → Option Cell) (mem now : Memory) (at byte : ℕ) → ((a : ℕ) → new a ≡ (if a == at then None else old a)) → now ≡ put mem at byte → cells_over new now ≡ put_at (cells_over old mem) at (Byte byte)
byte_put old new mem now at byte table bytes =
    ap (cells_over new) bytes ∙ (λ i a. byte_at_place old new mem at byte table a i)

-- no entries, and zeros in all pages
pub zeros_stored : (table : ℕ → Option Cell) (mem : Memory) → ((a : ℕ) → table a ≡ None) → mem ≡ zeros → cells_over table mem ≡ (λ _. Byte 0)
zeros_stored table mem none empty =
    ap (cells_over table) empty ∙ (λ i a. ap (λ o. cell_or o 0) (none a) i)

-- the place of cell `k` of a list, whatever stands behind the last
pub place_at : (s : CellStore) (at : ℕ) (cells : List Cell) (k : ℕ) (d : Cell) → k < length cells → HasPlace s at (slice_index_or cells k Mist) → HasPlace s at (slice_index_or cells k d)
place_at s at cells k d below place =
    subst (λ (cell : Cell). HasPlace s at cell) (get_or_default cells k Mist d below) place

-- places where there are as many entries and pages
pub places_stay : (values values_now : ℕ → Option Val) (cells cells_now : ℕ → Option (List Cell)) (pages pages_now : ℕ → Bool) → ((w : ℕ) → values w ≡ None → values_now w ≡ None) → ((w : ℕ) → IsSome (cells w) → IsSome (cells_now w)) → ((a : ℕ) → IsTrue (pages a) → IsTrue (pages_now a)) → (a : ℕ) (other : Cell) → CanPut values cells pages a other → CanPut values_now cells_now pages_now a other
places_stay values values_now cells cells_now pages pages_now v c p a (Byte b) (inl some) = inl (c (a / 4) some)
places_stay values values_now cells cells_now pages pages_now v c p a (Byte b) (inr has) =
    inr (v (a / 4) has.0, p a has.1)
places_stay values values_now cells cells_now pages pages_now v c p a (Part hi o d k) some = c (a / 4) some
places_stay values values_now cells cells_now pages pages_now v c p a Mist some = c (a / 4) some

-- ---- cells where no word has a row

-- none of `count` entries from an address on is there
abbrev pub HasNone : (ℕ → Option Cell) → ℕ → ℕ → Type 0
HasNone table at count = (k : ℕ) → k < count → table (at + k) ≡ None

none_of : (o : Option Cell) → is_some o ≡ false → o ≡ None
none_of None is = refl
none_of (Some cell) is = cc

-- a word without a mark has none
pub none_marked : (table : ℕ → Option Cell) (marks : List ℕ) (at count : ℕ) → AreMarked table marks → at % 4 + count ≤ 4 → mark_of marks at ≡ 0 → HasNone table at count
none_marked table marks at count are fits mark k below =
    let word : (at + k) / 4 ≡ at / 4 = omega (arith, fits, below) in
    none_of (table (at + k)) (are (at + k) (ap (λ (w : ℕ). slice_index_or marks (w % 65536) 0) word ∙ mark))

none_first : (table : ℕ → Option Cell) (at count : ℕ) → 0 < count → HasNone table at count → table at ≡ None
none_first table at count some none =
    let first : at ≡ at + 0 = omega arith in ap table first ∙ none 0 some

byte_there : (table : ℕ → Option Cell) (mem : Memory) (a : ℕ) → table a ≡ None → cells_over table mem a ≡ Byte (mem a)
byte_there table mem a none = ap (λ o. cell_or o (mem a)) none

pub plain_byte : (table : ℕ → Option Cell) (mem : Memory) (at : ℕ) → HasNone table at 1 → Byte (mem at) ≡ cells_over table mem at
plain_byte table mem at none = sym (byte_there table mem at (none_first table at 1 (omega arith) none))

pub plain_half : (table : ℕ → Option Cell) (mem : Memory) (at : ℕ) → at + 2 ≤ 4294967296 → HasNone table at 2 → Some (half_at mem at) ≡ half_of_cells (cells_over table mem at) (cells_over table mem (at + 1))
plain_half table mem at within none =
    let place_1 : at + 1 ≡ plus at 1 = omega (arith, within) in
    let cell_0 = byte_there table mem at (none_first table at 2 (omega arith) none) in
    let cell_1 = byte_there table mem (at + 1) (none 1 (omega arith)) ∙ ap (λ (a : ℕ). Byte (mem a)) place_1 in
    sym (λ z. half_of_cells (cell_0 z) (cell_1 z))

pub plain_word : (table : ℕ → Option Cell) (mem : Memory) (at : ℕ) → at + 4 ≤ 4294967296 → HasNone table at 4 → Int (word_at mem at) ≡ join (cells_over table mem at) (cells_over table mem (at + 1)) (cells_over table mem (at + 2)) (cells_over table mem (at + 3))
plain_word table mem at within none =
    let place_1 : at + 1 ≡ plus at 1 = omega (arith, within) in
    let place_2 : at + 2 ≡ plus at 2 = omega (arith, within) in
    let place_3 : at + 3 ≡ plus at 3 = omega (arith, within) in
    let cell_0 = byte_there table mem at (none_first table at 4 (omega arith) none) in
    let cell_1 = byte_there table mem (at + 1) (none 1 (omega arith)) ∙ ap (λ (a : ℕ). Byte (mem a)) place_1 in
    let cell_2 = byte_there table mem (at + 2) (none 2 (omega arith)) ∙ ap (λ (a : ℕ). Byte (mem a)) place_2 in
    let cell_3 = byte_there table mem (at + 3) (none 3 (omega arith)) ∙ ap (λ (a : ℕ). Byte (mem a)) place_3 in
    sym (λ z. join (cell_0 z) (cell_1 z) (cell_2 z) (cell_3 z))

-- a byte is put where the table has none
same_number : (n : ℕ) → (n == n) ≡ true
same_number n = grind (arith, nat_tests)

still_none : (table : ℕ → Option Cell) (at : ℕ) → table at ≡ None → (a : ℕ) → table a ≡ (if a == at then None else table a)
still_none table at none a =
    elim (cases_eq a at) [
      | inl same ↦ rw same (rw (same_number at) none)
      | inr other ↦ let differs : (a == at) ≡ false = grind (arith, nat_tests, other) in rw differs refl
    ]

pub plain_put : (table : ℕ → Option Cell) (mem now : Memory) (at byte : ℕ) → table at ≡ None → now ≡ put mem at byte → cells_over table now ≡ put_at (cells_over table mem) at (Byte byte)
plain_put table mem now at byte none is =
    byte_put table table mem now at byte (still_none table at none) is

byte_after : (table : ℕ → Option Cell) (mem : Memory) (t : ℕ → Cell) (p q b c : ℕ) → table q ≡ None → p ≡ q → b ≡ c → cells_over table mem ≡ t → cells_over table (put mem p b) ≡ put_at t q (Byte c)
byte_after table mem t p q b c none place byte is =
    byte_put table table mem (put mem p b) p b (still_none table p (ap table place ∙ none)) refl ∙ (λ z. put_at (is z) (place z) (Byte (byte z)))

pub plain_byte_put : (table : ℕ → Option Cell) (mem now : Memory) (at n m : ℕ) → HasNone table at 1 → now ≡ put mem at m → m ≡ byte_of n 0 → cells_over table now ≡ put_at (cells_over table mem) at (Byte (byte_of n 0))
plain_byte_put table mem now at n m none is low =
    ap (cells_over table) is ∙ byte_after table mem (cells_over table mem) at at m (byte_of n 0) (none_first table at 1 (omega arith) none) refl low refl

pub plain_half_put : (table : ℕ → Option Cell) (mem now : Memory) (at n m : ℕ) → at + 2 ≤ 4294967296 → HasNone table at 2 → now ≡ put_half mem at m → m % 65536 ≡ n % 65536 → cells_over table now ≡ put_at (put_at (cells_over table mem) at (Byte (byte_of n 0))) (at + 1) (Byte (byte_of n 1))
plain_half_put table mem now at n m within none is half =
    let first = byte_after table mem (cells_over table mem) at at (m % 256) (byte_of n 0) (none_first table at 2 (omega arith) none) refl (omega (arith, half)) refl in
    ap (cells_over table) is
    ∙ byte_after table _ _ (plus at 1) (at + 1) (m / 256 % 256) (byte_of n 1) (none 1 (omega arith)) (omega (arith, within)) (omega (arith, half)) first

pub plain_word_put : (table : ℕ → Option Cell) (mem now : Memory) (at n : ℕ) → at + 4 ≤ 4294967296 → HasNone table at 4 → now ≡ put_word mem at n → cells_over table now ≡ put_cells (cells_over table mem) at (bytes_of n)
plain_word_put table mem now at n within none is =
    let half : HasNone table at 2 = λ k below. none k (omega (arith, below)) in
    let low = plain_half_put table mem (put_half mem at n) at n n (omega (arith, within)) half refl refl in
    let place_2 : at + 2 ≡ at + 1 + 1 = omega arith in
    let place_3 : at + 3 ≡ at + 1 + 1 + 1 = omega arith in
    let third = byte_after table _ _ (plus at 2) (at + 1 + 1) (n / 65536 % 256) (byte_of n 2) (ap table (sym place_2) ∙ none 2 (omega arith)) (omega (arith, within)) (omega arith) low in
    ap (cells_over table) is
    ∙ byte_after table _ _ (plus at 3) (at + 1 + 1 + 1) (n / 16777216 % 256) (byte_of n 3) (ap table (sym place_3) ∙ none 3 (omega arith)) (omega (arith, within)) (omega arith) third
