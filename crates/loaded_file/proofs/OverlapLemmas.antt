-- Why one sweep over ascending ranges finds all that meet another, and what that says of objects.
use Rattle.std.proofs.Common.{◌≡◌, ◌∙◌, ◌⊎◌, inl, inr, ℕ, zero, suc, ◌+◌, ◌<◌, ◌≤◌, ◌==◌, nat_lt, Bool, true, false, not, ◌&&◌, ◌||◌, if◌then◌else◌, List, map, length, slice_index_or, refl, sym, ap, subst, arith}
use Rattle.std.specs.List.{list_any}
use Rattle.std.proofs.lemmas.Bool.{cases_lt, eq-eqb, eqb-true, ltb-true}
use Rattle.std.proofs.lemmas.Bool.Decides.{nat_tests}
use Rattle.std.proofs.lemmas.List.{get_or-map, get_or_default}
use Rattle.std.proofs.lemmas.List.Folds.{Any-from_list_any, list_any_at}
use Rattle.list_checks.specs.Tests.{ranges_overlap}
use Rattle.list_checks.proofs.TestLemmas.{either, both, not_true, same_tests, any_found, any_at}
use Rattle.elf_reader.specs.File.{PlainSymbol, PlainView}
use Rattle.loaded_file.specs.Records.{symbol_at}
use Rattle.loaded_file.specs.declared.byte_ranges.ByteRange.{ByteRange}
use Rattle.loaded_file.specs.Ranges.{has_range, is_of, is_symbol_of, is_range, overlaps_range, is_overlapped}
use Rattle.loaded_file.specs.ByteRanges.{is_byte_range, has_byte_range_in, byte_range_at, no_byte_range, precedes, IsAscending, IsFilled, overlaps_unequal, overlaps_another, end_of, furthest_end_below, reaches_next}
use Rattle.loaded_file.proofs.ByteRangeLemmas.{both_made}
use Rattle.loaded_file.proofs.RangeLemmas.{IsOf, of_parts}

-- the byte range at which a list passes a test
pub any_place : (test : ByteRange → Bool) (xs : List ByteRange) → list_any test xs ≡ true → (k : ℕ) × (k < length xs) × (test (byte_range_at xs k) ≡ true)
any_place test xs found =
    let (k, x, below, here, passes) = Any-from_list_any test xs found in
    (k, below, ap test (get_or_default xs k no_byte_range x below ∙ here) ∙ passes)

farther_keeps : (furthest_end x : ℕ) → furthest_end ≤ (if nat_lt furthest_end x then x else furthest_end)
farther_keeps furthest_end x = grind (arith, nat_tests)

farther_takes : (furthest_end x : ℕ) → x ≤ (if nat_lt furthest_end x then x else furthest_end)
farther_takes furthest_end x = grind (arith, nat_tests)

farther_from : (a furthest_end x : ℕ) → a < (if nat_lt furthest_end x then x else furthest_end) → (a < furthest_end) ⊎ (a < x)
farther_from a furthest_end x below =
    elim (cases_lt a furthest_end) [
      | inl lower ↦ inl lower
      | inr behind ↦ inr (grind (arith, nat_tests, below, behind))
    ]

-- no end before place `k` is beyond the reach there, and some end is the reach
reach_covers : (xs : List ByteRange) (k j : ℕ) → j < k → end_of (byte_range_at xs j) ≤ furthest_end_below xs k
reach_covers xs zero j below = absurd (omega arith)
reach_covers xs (suc k) j below =
    let furthest_end = furthest_end_below xs k in
    let end = end_of (byte_range_at xs k) in
    let place : (j ≡ k) ⊎ (j < k) = grind arith in
    elim place [
      | inl here ↦ rw here (farther_takes furthest_end end)
      | inr earlier ↦
          let covered = reach_covers xs k j earlier in
          let keeps = farther_keeps furthest_end end in
          omega (arith, covered, keeps)
    ]

reach_found : (xs : List ByteRange) (k a : ℕ) → a < furthest_end_below xs k → (j : ℕ) × (j < k) × (a < end_of (byte_range_at xs j))
reach_found xs zero a below = absurd (omega (arith, below))
reach_found xs (suc k) a below =
    elim (farther_from a (furthest_end_below xs k) (end_of (byte_range_at xs k)) below) [
      | inl earlier ↦ let (j, before, ends) = reach_found xs k a earlier in (j, omega (arith, before), ends)
      | inr here ↦ (k, omega arith, here)
    ]

-- a byte range that precedes another doesn't begin behind it, and differs from it
precedes_home : (a n b m : ℕ) → (nat_lt a b || ((a == b) && nat_lt n m)) ≡ true → a ≤ b
precedes_home a n b m before = grind (arith, nat_tests, before)

differs_after : (a n b m : ℕ) → (nat_lt a b || ((a == b) && nat_lt n m)) ≡ true → not ((b == a) && (m == n)) ≡ true
differs_after a n b m before = grind (arith, nat_tests, before)

differs_before : (a n b m : ℕ) → (nat_lt a b || ((a == b) && nat_lt n m)) ≡ true → not ((a == b) && (n == m)) ≡ true
differs_before a n b m before = grind (arith, nat_tests, before)

overlaps_made : (a n b m : ℕ) → 0 < n → 0 < m → a < b + m → b < a + n → ranges_overlap a n b m ≡ true
overlaps_made a n b m first second left right = grind (arith, nat_tests, first, second, left, right)

record Overlaps (a n b m : ℕ) : Type 0 where
  pub left : a < b + m
  pub right : b < a + n

overlaps_parts : (a n b m : ℕ) → ranges_overlap a n b m ≡ true → Overlaps a n b m
overlaps_parts a n b m passes =
    let last = both (nat_lt 0 n && nat_lt 0 m && nat_lt a (b + m)) (nat_lt b (a + n)) passes in
    let first = both (nat_lt 0 n && nat_lt 0 m) (nat_lt a (b + m)) last.0 in
    record { left = ltb-true a (b + m) first.1; right = ltb-true b (a + n) last.1 }

-- two byte ranges of an ascending list meet where the one that begins first ends behind the other's beginning
pub overlaps_later : (xs : List ByteRange) → IsAscending xs → IsFilled xs → (j k : ℕ) → j < k → k < length xs → (byte_range_at xs k).home < end_of (byte_range_at xs j) → (overlaps_another xs (byte_range_at xs j) ≡ true) × (overlaps_another xs (byte_range_at xs k) ≡ true)
overlaps_later xs ascends filled j k before below ends =
    let e = byte_range_at xs j in
    let f = byte_range_at xs k in
    let order : precedes e f ≡ true = ascends j k no_byte_range before below in
    let home = precedes_home e.home e.size f.home f.size order in
    let inside : j < length xs = omega (arith, before, below) in
    let first : 0 < e.size = filled j no_byte_range inside in
    let second : 0 < f.size = filled k no_byte_range below in
    let left : e.home < f.home + f.size = omega (arith, home, second) in
    let to = both_made _ _ (overlaps_made e.home e.size f.home f.size first second left ends) (differs_after e.home e.size f.home f.size order) in
    let from = both_made _ _ (overlaps_made f.home f.size e.home e.size second first ends left) (differs_before e.home e.size f.home f.size order) in
    (list_any_at (overlaps_unequal e) xs k no_byte_range below to, list_any_at (overlaps_unequal f) xs j no_byte_range inside from)

or_left : (a b : Bool) → a ≡ true → (a || b) ≡ true
or_left true b passes = refl
or_left false b passes = cc

or_right : (a b : Bool) → b ≡ true → (a || b) ≡ true
or_right true b passes = refl
or_right false b passes = passes

less_passes : (a b : ℕ) → a < b → nat_lt a b ≡ true
less_passes a b below = grind (arith, nat_tests, below)

-- what is looked at finds what meets
found_near : (xs : List ByteRange) → IsAscending xs → (k : ℕ) → k < length xs → (nat_lt (byte_range_at xs k).home (furthest_end_below xs k) || reaches_next xs k) ≡ true → IsFilled xs → overlaps_another xs (byte_range_at xs k) ≡ true
found_near xs ascends k below found filled =
    elim (either (nat_lt (byte_range_at xs k).home (furthest_end_below xs k)) (reaches_next xs k) found) [
      | inl earlier ↦
          let (j, before, ends) = reach_found xs k (byte_range_at xs k).home (ltb-true _ _ earlier) in
          (overlaps_later xs ascends filled j k before below ends).1
      | inr next ↦
          let parts = both (nat_lt (k + 1) (length xs)) (nat_lt (byte_range_at xs (k + 1)).home (end_of (byte_range_at xs k))) next in
          (overlaps_later xs ascends filled k (k + 1) (omega arith) (ltb-true _ _ parts.0) (ltb-true _ _ parts.1)).0
    ]

-- the next byte range doesn't begin behind a later one
next_home : (xs : List ByteRange) → IsAscending xs → (k j : ℕ) → k < j → j < length xs → (byte_range_at xs (k + 1)).home ≤ (byte_range_at xs j).home
next_home xs ascends k j after within =
    elim (cases_lt (k + 1) j) [
      | inl later ↦
          let e = byte_range_at xs (k + 1) in
          let f = byte_range_at xs j in
          precedes_home e.home e.size f.home f.size (ascends (k + 1) j no_byte_range later within)
      | inr reached ↦
          let here : k + 1 ≡ j = omega (arith, after, reached) in
          rw here (omega arith)
    ]

-- what meets is found by what is looked at
seen_near : (xs : List ByteRange) → IsAscending xs → (k : ℕ) → k < length xs → overlaps_another xs (byte_range_at xs k) ≡ true → (nat_lt (byte_range_at xs k).home (furthest_end_below xs k) || reaches_next xs k) ≡ true
seen_near xs ascends k below found =
    let e = byte_range_at xs k in
    let (j, within, passes) = any_place (overlaps_unequal e) xs found in
    let f = byte_range_at xs j in
    let parts = both (ranges_overlap e.home e.size f.home f.size) (not (is_byte_range e.home e.size f)) passes in
    let overlap = overlaps_parts e.home e.size f.home f.size parts.0 in
    let differs = not_true (is_byte_range e.home e.size f) parts.1 in
    elim (cases_lt j k) [
      | inl before ↦
          let covers = reach_covers xs k j before in
          let left = overlap.left in
          or_left _ (reaches_next xs k) (less_passes _ _ (omega (arith, covers, left)))
      | inr behind ↦
          elim (cases_lt k j) [
            | inl after ↦
                let next : k + 1 < length xs = omega (arith, after, within) in
                let right = overlap.right in
                let home = next_home xs ascends k j after within in
                or_right (nat_lt e.home (furthest_end_below xs k)) _ (both_made _ _ (less_passes _ _ next) (less_passes _ _ (omega (arith, home, right))))
            | inr reached ↦
                let here : j ≡ k = omega (arith, behind, reached) in
                let same = both_made (f.home == e.home) (f.size == e.size) (eq-eqb _ _ (ap (λ i. (byte_range_at xs i).home) here)) (eq-eqb _ _ (ap (λ i. (byte_range_at xs i).size) here)) in
                cc (differs, same)
          ]
    ]

-- the mark of byte range `k`, by the byte ranges before it and the next one
pub seen_in_sweep : (xs : List ByteRange) → IsAscending xs → IsFilled xs → (k : ℕ) → k < length xs → (nat_lt (byte_range_at xs k).home (furthest_end_below xs k) || reaches_next xs k) ≡ overlaps_another xs (byte_range_at xs k)
seen_in_sweep xs ascends filled k below =
    same_tests _ _ (λ found. found_near xs ascends k below found filled) (λ found. seen_near xs ascends k below found)

-- ---- what the marks say of objects

-- a symbol of another object, whose range meets this one
overlaps_here : (v : PlainView) (e f : ByteRange) (s : PlainSymbol) → IsOf v f.home f.size s → overlaps_unequal e f ≡ true → (has_range v s && ranges_overlap e.home e.size s.value s.size && not ((s.value == e.home) && (s.size == e.size))) ≡ true
overlaps_here v e f s of passes =
    let parts = both (ranges_overlap e.home e.size f.home f.size) (not (is_byte_range e.home e.size f)) passes in
    let overlap = subst (λ (m : ℕ). ranges_overlap e.home e.size s.value m ≡ true) (sym of.size) (subst (λ (a : ℕ). ranges_overlap e.home e.size a f.size ≡ true) (sym of.value) parts.0) in
    let differs = subst (λ (m : ℕ). not ((s.value == e.home) && (m == e.size)) ≡ true) (sym of.size) (subst (λ (a : ℕ). not ((a == e.home) && (f.size == e.size)) ≡ true) (sym of.value) parts.1) in
    both_made _ _ (both_made _ _ of.test overlap) differs

overlap_of_list : (v : PlainView) (ranges : List ByteRange) → ((home n : ℕ) → has_byte_range_in ranges home n ≡ is_range v home n) → (e : ByteRange) → overlaps_another ranges e ≡ true → is_overlapped v e.home e.size ≡ true
overlap_of_list v ranges exact e found =
    let (j, below, passes) = any_place (overlaps_unequal e) ranges found in
    let f = byte_range_at ranges j in
    let itself = list_any_at (is_byte_range f.home f.size) ranges j no_byte_range below (both_made _ _ (eq-eqb f.home f.home refl) (eq-eqb f.size f.size refl)) in
    let (k, within, of) = any_found (is_symbol_of v f.home f.size) (length v.symbols) (sym (exact f.home f.size) ∙ itself) in
    any_at (overlaps_range v e.home e.size) (length v.symbols) k within (overlaps_here v e f (symbol_at v k) (of_parts v f.home f.size (symbol_at v k) of) passes)

-- and back: the range of that symbol stands in the list
own_range : (v : PlainView) (s : PlainSymbol) → has_range v s ≡ true → is_of v s.value s.size s ≡ true
own_range v s has =
    both_made (has_range v s && (s.value == s.value)) (s.size == s.size) (both_made (has_range v s) (s.value == s.value) has (eq-eqb s.value s.value refl)) (eq-eqb s.size s.size refl)

listed_here : (e f : ByteRange) (a m : ℕ) → f.home ≡ a → f.size ≡ m → ranges_overlap e.home e.size a m ≡ true → not ((a == e.home) && (m == e.size)) ≡ true → overlaps_unequal e f ≡ true
listed_here e f a m home size overlap differs =
    let overlap' = subst (λ (x : ℕ). ranges_overlap e.home e.size f.home x ≡ true) (sym size) (subst (λ (x : ℕ). ranges_overlap e.home e.size x m ≡ true) (sym home) overlap) in
    let differs' = subst (λ (x : ℕ). not ((f.home == e.home) && (x == e.size)) ≡ true) (sym size) (subst (λ (x : ℕ). not ((x == e.home) && (m == e.size)) ≡ true) (sym home) differs) in
    both_made _ _ overlap' differs'

overlap_in_list : (v : PlainView) (ranges : List ByteRange) → ((home n : ℕ) → has_byte_range_in ranges home n ≡ is_range v home n) → (e : ByteRange) → is_overlapped v e.home e.size ≡ true → overlaps_another ranges e ≡ true
overlap_in_list v ranges exact e found =
    let (k, below, passes) = any_found (overlaps_range v e.home e.size) (length v.symbols) found in
    let s = symbol_at v k in
    let last = both (has_range v s && ranges_overlap e.home e.size s.value s.size) (not ((s.value == e.home) && (s.size == e.size))) passes in
    let first = both (has_range v s) (ranges_overlap e.home e.size s.value s.size) last.0 in
    let range = any_at (is_symbol_of v s.value s.size) (length v.symbols) k below (own_range v s first.0) in
    let (j, within, here) = any_place (is_byte_range s.value s.size) ranges (exact s.value s.size ∙ range) in
    let f = byte_range_at ranges j in
    let same = both (f.home == s.value) (f.size == s.size) here in
    list_any_at (overlaps_unequal e) ranges j no_byte_range within (listed_here e f s.value s.size (eqb-true f.home s.value same.0) (eqb-true f.size s.size same.1) first.1 last.1)

-- where the list has just the ranges of a program's objects, an object meets another of the list just where
-- it overlaps another
pub overlaps_by_list : (v : PlainView) (ranges : List ByteRange) → ((home n : ℕ) → has_byte_range_in ranges home n ≡ is_range v home n) → (e : ByteRange) → overlaps_another ranges e ≡ is_overlapped v e.home e.size
overlaps_by_list v ranges exact e =
    same_tests (overlaps_another ranges e) (is_overlapped v e.home e.size) (λ found. overlap_of_list v ranges exact e found) (λ found. overlap_in_list v ranges exact e found)

-- the mark of each range of such a list
pub overlap_marks : (v : PlainView) (ranges : List ByteRange) (marks : List Bool) → ((home n : ℕ) → has_byte_range_in ranges home n ≡ is_range v home n) → marks ≡ map (overlaps_another ranges) ranges → (k : ℕ) → k < length ranges → slice_index_or marks k false ≡ is_overlapped v (byte_range_at ranges k).home (byte_range_at ranges k).size
overlap_marks v ranges marks exact made k below =
    ap (λ ms. slice_index_or ms k false) made
    ∙ get_or-map (overlaps_another ranges) ranges k no_byte_range false below
    ∙ overlaps_by_list v ranges exact (byte_range_at ranges k)
