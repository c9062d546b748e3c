-- Byte ranges as numbers, their tests in lists, and the symbols that they come from.
use Rattle.std.proofs.Common.{Result, Ok, Err, IfOk, ◌≡◌, ◌∙◌, inl, inr, ℕ, ◌+◌, ◌*◌, ◌/◌, ◌%◌, ◌<◌, ◌==◌, Bool, true, false, ◌&&◌, ◌||◌, List, [], ◌∷◌, map, length, slice_index_or, refl, sym, ap, arith, add-one}
use Rattle.std.specs.List.{list_any}
use Rattle.std.specs.List.Sorted.{IsStrictlyIncreasing}
use Rattle.std.proofs.lemmas.Bool.{cases_lt, eq-eqb}
use Rattle.std.proofs.lemmas.Bool.Decides.{nat_tests}
use Rattle.std.proofs.lemmas.List.{get_or-map, length-map}
use Rattle.std.proofs.lemmas.List.Folds.{list_any_at}
use Rattle.std.proofs.lemmas.List.Kept.{AllPairs-from_increasing}
use Rattle.list_checks.specs.Tests.{any_below}
use Rattle.list_checks.proofs.TestLemmas.{any_found}
use Rattle.elf_reader.specs.File.{PlainSymbol, PlainView}
use Rattle.loaded_file.specs.Records.{symbol_at}
use Rattle.loaded_file.specs.declared.byte_ranges.ByteRange.{ByteRange}
use Rattle.loaded_file.specs.Ranges.{has_range, is_of, is_symbol_of, is_range}
use Rattle.loaded_file.specs.ByteRanges.{is_byte_range, has_byte_range_in, precedes, IsAscending, IsFilled, key_of, byte_range_of, is_key_of}
use Rattle.loaded_file.proofs.RangeLemmas.{range_parts, HasRange, of_parts}

gated : (a b c : Bool) → (a ≡ true → b ≡ c) → (a && b) ≡ (a && c)
gated true b c same = same refl
gated false b c same = refl

grouped : (a b c : Bool) → (a && (b && c)) ≡ (a && b && c)
grouped true b c = refl
grouped false b c = refl

key_reads : (v : PlainView) (home n : ℕ) (s : PlainSymbol) → HasRange v s → is_key_of home n (key_of s.value s.size) ≡ ((s.value == home) && (s.size == n))
key_reads v home n s range =
    let ends = range.ends in
    let high : (s.value * 4294967296 + s.size) / 4294967296 ≡ s.value = omega (arith, ends) in
    let low : (s.value * 4294967296 + s.size) % 4294967296 ≡ s.size = omega (arith, ends) in
    rw (high, low) refl

-- the key of a symbol's range is that of the `n` bytes at `home` just where the symbol is of these
pub key_is_of : (v : PlainView) (home n : ℕ) (s : PlainSymbol) → (has_range v s && is_key_of home n (key_of s.value s.size)) ≡ is_of v home n s
key_is_of v home n s =
    gated (has_range v s) (is_key_of home n (key_of s.value s.size)) ((s.value == home) && (s.size == n)) (λ passes. key_reads v home n s (range_parts v s passes))
    ∙ grouped (has_range v s) (s.value == home) (s.size == n)

pub any_map : {A B : Type 0} (f : A → B) (test : B → Bool) (xs : List A) → list_any test (map f xs) ≡ list_any (λ x. test (f x)) xs
any_map f test [] = refl
any_map f test (x ∷ xs) = ap (λ b. test (f x) || b) (any_map f test xs)

key_before : (a b : ℕ) → a < b → precedes (byte_range_of a) (byte_range_of b) ≡ true
key_before a b below =
    elim (cases_lt (a / 4294967296) (b / 4294967296)) [
      | inl lower ↦ grind (arith, nat_tests, lower)
      | inr behind ↦
          let same : a / 4294967296 ≡ b / 4294967296 = omega (arith, below, behind) in
          let lower : a % 4294967296 < b % 4294967296 = omega (arith, below, behind) in
          grind (arith, nat_tests, same, lower)
    ]

-- keys that rise are of ranges that ascend
pub byte_ranges_ascend : (keys : List ℕ) → IsStrictlyIncreasing keys → IsAscending (map byte_range_of keys)
byte_ranges_ascend keys rise i j d before below =
    let inside : j < length keys = rw (sym (length-map keys byte_range_of)) below in
    let lower = AllPairs-from_increasing keys rise i j 0 before inside in
    rw (get_or-map byte_range_of keys i 0 d (omega (arith, before, inside)), get_or-map byte_range_of keys j 0 d inside) (key_before _ _ lower)

-- one more symbol
pub one_more : (v : PlainView) (home n k : ℕ) (s : PlainSymbol) (old new : Bool) → old ≡ any_below (is_symbol_of v home n) k → new ≡ (old || (has_range v s && is_key_of home n (key_of s.value s.size))) → symbol_at v k ≡ s → new ≡ any_below (is_symbol_of v home n) (k + 1)
one_more v home n k s old new earlier more here =
    rw (add-one k)
    (more
    ∙ ap (λ b. old || b) (key_is_of v home n s)
    ∙ ap (λ b. b || is_of v home n s) earlier
    ∙ ap (λ t. any_below (is_symbol_of v home n) k || is_of v home n t) (sym here))

-- two tests that both pass
pub both_made : (a b : Bool) → a ≡ true → b ≡ true → (a && b) ≡ true
both_made true true first second = refl
both_made true false first second = second
both_made false b first second = first

-- a list of just the ranges of objects has none without bytes
pub ranges_filled : (v : PlainView) (ranges : List ByteRange) → ((home n : ℕ) → has_byte_range_in ranges home n ≡ is_range v home n) → IsFilled ranges
ranges_filled v ranges exact k d below =
    let e = slice_index_or ranges k d in
    let test = both_made (e.home == e.home) (e.size == e.size) (eq-eqb e.home e.home refl) (eq-eqb e.size e.size refl) in
    let found = list_any_at (is_byte_range e.home e.size) ranges k d below test in
    let (j, within, passes) = any_found (is_symbol_of v e.home e.size) (length v.symbols) (sym (exact e.home e.size) ∙ found) in
    let of = of_parts v e.home e.size (symbol_at v j) passes in
    let size = of.size in
    let filled = of.range.filled in
    omega (arith, size, filled)

-- the ranges of keys that are just those of objects
pub keys_exact : (v : PlainView) (keys : List ℕ) (ranges : List ByteRange) → ranges ≡ map byte_range_of keys → ((home n : ℕ) → list_any (is_key_of home n) keys ≡ is_range v home n) → (home n : ℕ) → has_byte_range_in ranges home n ≡ is_range v home n
keys_exact v keys ranges made exact home n =
    ap (list_any (is_byte_range home n)) made ∙ any_map byte_range_of (is_byte_range home n) keys ∙ exact home n

-- what follows of each result follows of that which there is
pub ok_then : {A E : Type 0} (r : Result A E) (P Q : A → Type 0) → ((a : A) → P a → Q a) → IfOk r P → IfOk r Q
ok_then (Ok a) P Q follows holds = follows a holds
ok_then (Err e) P Q follows holds = holds

pub keys_ascend : (keys : List ℕ) (ranges : List ByteRange) → ranges ≡ map byte_range_of keys → IsStrictlyIncreasing keys → IsAscending ranges
keys_ascend keys ranges made rise = rw made (byte_ranges_ascend keys rise)
