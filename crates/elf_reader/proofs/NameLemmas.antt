-- The names of a string table, and the index by which their ends are found.
use Rattle.std.proofs.Common.{◌≡◌, ◌≢◌, ◌⊎◌, inl, inr, ℕ, ◌+◌, ◌-◌, ◌/◌, ◌<◌, ◌≤◌, nat_lt, true, false, not, List, length, get_or, take, drop, arith, refl, ap, length-drop}
use Rattle.std.specs.List.{position_or_len, slice_range}
use Rattle.std.proofs.lemmas.Bool.Decides.{nat_tests}
use Rattle.std.proofs.lemmas.List.{drop_more, drop_all, get_or-drop}
use Rattle.std.proofs.lemmas.List.Folds.{list_any_at}
use Rattle.std.proofs.lemmas.List.Sums.{prefix_len-drop_yes, prefix_len-drop_no, prefix_len-drop_all, prefix_len-le-length}
use Rattle.elf_reader.specs.Sections.{is_zero, has_name, name_in}
use Rattle.elf_reader.specs.Names.{zero_from, block_start}

-- the byte at `k` is the first zero byte at or behind `k`, or else that behind it is
pub zero_here : (table : List ℕ) (k : ℕ) → k < length table → get_or table k 0 ≡ 0 → zero_from table k ≡ k
unfolding zero_from
zero_here table k below zero =
    let fails : not (is_zero (get_or table k 0)) ≡ false = grind (arith, nat_tests) in
    let none = prefix_len-drop_no (λ byte. not (is_zero byte)) table k 0 below fails in
    omega (arith, none)

pub zero_later : (table : List ℕ) (k : ℕ) → k < length table → get_or table k 0 ≢ 0 → zero_from table k ≡ zero_from table (k + 1)
unfolding zero_from
zero_later table k below other =
    let passes : not (is_zero (get_or table k 0)) ≡ true = grind (arith, nat_tests) in
    let more = prefix_len-drop_yes (λ byte. not (is_zero byte)) table k 0 below passes in
    omega (arith, more)

pub zero_at_end : (table : List ℕ) → zero_from table (length table) ≡ length table
unfolding zero_from
zero_at_end table =
    let none = prefix_len-drop_all (λ byte. not (is_zero byte)) table (length table) (omega arith) in
    omega (arith, none)

pub zero_within : (table : List ℕ) (start : ℕ) → start ≤ length table → zero_from table start ≤ length table
unfolding zero_from
zero_within table start le =
    let short = prefix_len-le-length (λ byte. not (is_zero byte)) (drop start table) in
    omega (arith, short, length-drop start table)

pub zero_behind : (table : List ℕ) (start : ℕ) → start ≤ zero_from table start
unfolding zero_from
zero_behind table start = omega arith

-- a name is what stands before that byte
pub name_is : (table : List ℕ) (start : ℕ) → slice_range table start (zero_from table start) ≡ name_in table start
unfolding zero_from
name_is table start =
    let size = position_or_len is_zero (drop start table) in
    let cut : start + size - start ≡ size = omega arith in
    ap (λ n. take n (drop start table)) cut

-- a name begins inside the table
pub none_behind : (table : List ℕ) (start : ℕ) → length table ≤ start → has_name table start ≡ false
none_behind table start le = rw (drop_all start table le) refl

pub begins_inside : (table : List ℕ) (start : ℕ) → has_name table start ≡ true → start < length table
begins_inside table start name =
    let place : (start < length table) ⊎ (length table ≤ start) = grind arith in
    elim place [ inl inside ↦ inside | inr behind ↦ let none = none_behind table start behind in cc ]

-- a name begins at each byte up to a zero byte
pub name_before : (table : List ℕ) (place start : ℕ) → place < length table → get_or table place 0 ≡ 0 → start ≤ place → has_name table start ≡ true
name_before table place start below zero le =
    let short : place - start < length (drop start table) = rw (length-drop start table) (omega arith) in
    let back : start + (place - start) ≡ place = omega arith in
    let passes : is_zero (get_or (drop start table) (place - start) 0) ≡ true = rw (get_or-drop start table (place - start) 0, back, zero) refl in
    list_any_at is_zero (drop start table) (place - start) 0 short passes

-- the byte at `k` begins a name where it is a zero byte, or else where the next one does
pub no_name_here : (table : List ℕ) (k : ℕ) → k < length table → get_or table k 0 ≢ 0 → has_name table (k + 1) ≡ false → has_name table k ≡ false
no_name_here table k below other none =
    let fails : is_zero (get_or table k 0) ≡ false = grind (arith, nat_tests) in
    rw (drop_more table k 0 below, fails, none) refl

-- the last zero byte is at `place`
pub last_zero : (table : List ℕ) (place start : ℕ) → place < length table → get_or table place 0 ≡ 0 → ((k : ℕ) → place + 1 ≤ k → has_name table k ≡ false) → has_name table start ≡ nat_lt start (place + 1)
last_zero table place start below zero none =
    let side : (start ≤ place) ⊎ (place + 1 ≤ start) = grind arith in
    elim side [
      | inl before ↦ let name = name_before table place start below zero before in grind (arith, nat_tests)
      | inr behind ↦ let no_name = none start behind in grind (arith, nat_tests)
    ]

-- the last entry of the index, for the table's end
pub last_entry : (table zeros : List ℕ) (k : ℕ) → length zeros ≡ length table / 256 + 2 → get_or zeros (length table / 256 + 1) 0 ≡ length table → length table / 256 + 1 ≤ k → k < length zeros → get_or zeros k 0 ≡ zero_from table (block_start (length table) k)
last_entry table zeros k count last behind below =
    let at : length table / 256 + 1 ≡ k = omega arith in
    let end : block_start (length table) k ≡ length table = omega arith in
    let found : zero_from table (block_start (length table) k) ≡ length table = rw end (zero_at_end table) in
    cc
