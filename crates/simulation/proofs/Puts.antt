-- Tables of which some entries in a row are changed: memory, cells and origins after stores.
use Rattle.std.proofs.Common.{◌≡◌, ℕ, zero, suc, ◌+◌, ◌%◌, ◌<◌, ◌≤◌, List, [], ◌∷◌, length, slice_index_or, refl, sym, ◌∙◌, subst, arith}
use Rattle.std.proofs.lemmas.Bool.Decides.{nat_tests}
use Rattle.std.proofs.lemmas.List.{get_or-take, length-take-le}
use Rattle.rv32im.specs.Words.{byte_of}
use Rattle.rv32im.specs.Memory.{Memory, put, put_half, put_word}
use Rattle.rv32im.specs.Acts.{stored, store_width}
use Rattle.rv32im.specs.declared.instructions.StoreKind.{StoreKind}
use Rattle.rv32im.specs.declared.instructions.StoreKind.TheVariants.{Sb, Sh, Sw}
use Rattle.cell_values.specs.Cells.{split, put_at, put_cells}
use Rattle.cell_values.specs.declared.values.Val.{Val}
use Rattle.cell_values.specs.declared.values.Val.TheVariants.{Int, Addr, Hi, Low, Piece, Unknown}
use Rattle.cell_values.specs.declared.values.Cell.{Cell}
use Rattle.cell_values.specs.declared.values.Cell.TheVariants.{Mist}
use Rattle.cell_values.specs.Origins.{Origin}
use Rattle.object_machine.specs.State.{Cells}
use Rattle.object_machine.specs.Memory.{stored_cells}
use Rattle.object_machine.specs.Paired.{put_origins}

-- `n` entries from `k` on are `xs`, and all others are as they were
pub record ChangedIn {A : Type 0} (old new : ℕ → A) (k n : ℕ) (xs : ℕ → A) : Type 0 where
  pub inside : (i : ℕ) → i < n → new (k + i) ≡ xs i
  pub outside : (a : ℕ) → ((i : ℕ) → i < n → a ≡ k + i → ⊥) → new a ≡ old a

pub put_here : {A : Type 0} (table : ℕ → A) (k a : ℕ) (x : A) → a ≡ k → put_at table k x a ≡ x
unfolding put_at
put_here table k a x same = grind (arith, nat_tests)

pub put_elsewhere : {A : Type 0} (table : ℕ → A) (k a : ℕ) (x : A) → (a ≡ k → ⊥) → put_at table k x a ≡ table a
unfolding put_at
put_elsewhere table k a x other = grind (arith, nat_tests)

changed_none : {A : Type 0} (old : ℕ → A) (k : ℕ) (xs : ℕ → A) → ChangedIn old old k 0 xs
changed_none old k xs = record { inside = λ i below. absurd (omega arith); outside = λ a disjoint. refl }

-- one entry is changed before those behind it
changed_first : {A : Type 0} (old new : ℕ → A) (k n : ℕ) (x : A) (xs : ℕ → A) → xs 0 ≡ x → ChangedIn (put_at old k x) new (k + 1) n (λ i. xs (suc i)) → ChangedIn old new k (suc n) xs
changed_first old new k n x xs first rest = record {
  inside = at;
  outside = λ a disjoint.
      let kept = rest.outside a (λ i below same. disjoint (suc i) (omega arith) (omega arith)) in
      kept ∙ put_elsewhere old k a x (λ same. disjoint 0 (omega arith) (omega arith));
}
  where
    at : (i : ℕ) → i < suc n → new (k + i) ≡ xs i
    at zero below =
        let kept = rest.outside (k + 0) (λ i less same. omega arith) in
        kept ∙ (put_here old k (k + 0) x (omega arith) ∙ sym first)
    at (suc i) below =
        let place : k + 1 + i ≡ k + suc i = omega arith in
        subst (λ a. new a ≡ xs (suc i)) place (rest.inside i (omega arith))

-- cells and origins that are put in a row
pub cells_changed : (cs : List Cell) (table : Cells) (k : ℕ) → ChangedIn table (put_cells table k cs) k (length cs) (λ i. slice_index_or cs i Mist)
cells_changed [] table k = changed_none table k (λ i. slice_index_or [] i Mist)
cells_changed (c ∷ cs) table k =
    changed_first table (put_cells (put_at table k c) (k + 1) cs) k (length cs) c (λ i. slice_index_or (c ∷ cs) i Mist) refl
    (cells_changed cs (put_at table k c) (k + 1))

pub origins_changed : (n : ℕ) (table : ℕ → Origin) (k : ℕ) (origin : Origin) → ChangedIn table (put_origins table k origin n) k n (λ i. origin)
origins_changed zero table k origin = changed_none table k (λ i. origin)
origins_changed (suc n) table k origin =
    changed_first table (put_origins (put_at table k origin) (k + 1) origin n) k n origin (λ i. origin) refl
    (origins_changed n (put_at table k origin) (k + 1) origin)

pub changed_as : {A : Type 0} (old new : ℕ → A) (k n : ℕ) (xs ys : ℕ → A) → ((i : ℕ) → i < n → xs i ≡ ys i) → ChangedIn old new k n xs → ChangedIn old new k n ys
changed_as old new k n xs ys same changed =
    record { inside = λ i below. changed.inside i below ∙ same i below; outside = changed.outside }

-- of a value that is stored its first cells
four_cells : (x : Val) → length (split x) ≡ 4
four_cells (Int n) = refl
four_cells (Addr o d) = refl
four_cells (Hi o d) = refl
four_cells (Low n) = refl
four_cells (Piece hi o d k) = refl
four_cells Unknown = refl

pub width_small : (kind : StoreKind) → store_width kind ≤ 4
width_small Sb = omega arith
width_small Sh = omega arith
width_small Sw = omega arith

cell_count : (kind : StoreKind) (x : Val) → length (stored_cells kind x) ≡ store_width kind
cell_count kind x =
    let four = four_cells x in
    let small = width_small kind in
    length-take-le (store_width kind) (split x) (omega arith)

pub split_changed : (kind : StoreKind) (x : Val) (table : Cells) (k : ℕ) → ChangedIn table (put_cells table k (stored_cells kind x)) k (store_width kind) (λ i. slice_index_or (split x) i Mist)
split_changed kind x table k =
    let cs : List Cell = stored_cells kind x in
    changed_as table (put_cells table k cs) k (store_width kind) (λ i. slice_index_or cs i Mist) (λ i. slice_index_or (split x) i Mist)
    (λ i below. get_or-take (store_width kind) (split x) i Mist below)
    (subst (λ n. ChangedIn table (put_cells table k cs) k n (λ i. slice_index_or cs i Mist)) (cell_count kind x)
    (cells_changed cs table k))

-- ---- the bytes that a store of the flat machine puts

pub byte_changed : (mem : Memory) (at byte : ℕ) (bytes : ℕ → ℕ) → bytes 0 ≡ byte → ChangedIn mem (put mem at byte) at 1 bytes
unfolding put
byte_changed mem at byte bytes first = record { inside = inside; outside = outside }
  where
    inside : (i : ℕ) → i < 1 → put mem at byte (at + i) ≡ bytes i
    inside zero below = grind (arith, nat_tests)
    inside (suc i) below = absurd (omega arith)

    outside : (a : ℕ) → ((i : ℕ) → i < 1 → a ≡ at + i → ⊥) → put mem at byte a ≡ mem a
    outside a disjoint = let none = disjoint 0 (omega arith) in grind (arith, nat_tests)

half_changed : (mem : Memory) (at value : ℕ) → at + 2 ≤ 4294967296 → ChangedIn mem (put_half mem at value) at 2 (byte_of value)
unfolding put
half_changed mem at value below = record { inside = inside; outside = outside }
  where
    inside : (i : ℕ) → i < 2 → put_half mem at value (at + i) ≡ byte_of value i
    inside zero less = grind (arith, nat_tests)
    inside (suc zero) less = grind (arith, nat_tests)
    inside (suc (suc i)) less = absurd (omega arith)

    outside : (a : ℕ) → ((i : ℕ) → i < 2 → a ≡ at + i → ⊥) → put_half mem at value a ≡ mem a
    outside a disjoint =
        let first = disjoint 0 (omega arith) in
        let second = disjoint 1 (omega arith) in
        grind (arith, nat_tests)

word_changed : (mem : Memory) (at value : ℕ) → at + 4 ≤ 4294967296 → ChangedIn mem (put_word mem at value) at 4 (byte_of value)
unfolding put
word_changed mem at value below = record { inside = inside; outside = outside }
  where
    inside : (i : ℕ) → i < 4 → put_word mem at value (at + i) ≡ byte_of value i
    inside zero less = grind (arith, nat_tests)
    inside (suc zero) less = grind (arith, nat_tests)
    inside (suc (suc zero)) less = grind (arith, nat_tests)
    inside (suc (suc (suc zero))) less = grind (arith, nat_tests)
    inside (suc (suc (suc (suc i)))) less = absurd (omega arith)

    outside : (a : ℕ) → ((i : ℕ) → i < 4 → a ≡ at + i → ⊥) → put_word mem at value a ≡ mem a
    outside a disjoint =
        let first = disjoint 0 (omega arith) in
        let second = disjoint 1 (omega arith) in
        let third = disjoint 2 (omega arith) in
        let fourth = disjoint 3 (omega arith) in
        grind (arith, nat_tests)

pub stored_changed : (kind : StoreKind) (mem : Memory) (at value : ℕ) → at + store_width kind ≤ 4294967296 → ChangedIn mem (stored kind mem at value) at (store_width kind) (byte_of value)
stored_changed Sb mem at value below = byte_changed mem at (value % 256) (byte_of value) (omega arith)
stored_changed Sh mem at value below = half_changed mem at value below
stored_changed Sw mem at value below = word_changed mem at value below
