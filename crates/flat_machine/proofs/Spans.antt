-- Spans of mapped addresses.
use Rattle.std.proofs.Common.{◌≡◌, ℕ, ◌+◌, ◌-◌, ◌%◌, ◌<◌, ◌≤◌, subst, sym, List, [], ◌∷◌, length, get_or, arith, zero, suc}
use Rattle.std.specs.Prelude.{true, false}
use Rattle.std.proofs.lemmas.Bool.Decides.{nat_tests}
use Rattle.board_config.specs.declared.board.Range.{Range}
use Rattle.flat_machine.specs.Mapping.{is_mapped, all_mapped, is_inside_one, IsPart, can_access}

-- one range that holds more addresses holds fewer, and the last one
shorter : (map : List Range) (at n : ℕ) → is_inside_one map at (suc n) ≡ true → is_inside_one map at n ≡ true
shorter [] at n h = grind (arith, nat_tests)
shorter (r ∷ map) at n h = grind (arith, nat_tests, shorter map at n)

last : (map : List Range) (at n : ℕ) → is_inside_one map at (suc n) ≡ true → is_mapped map (at + n) ≡ true
last [] at n h = grind (arith, nat_tests)
last (r ∷ map) at n h = grind (arith, nat_tests, last map at n)

pub mapped_inside_one : (map : List Range) (at n : ℕ) → is_inside_one map at n ≡ true → all_mapped map at n ≡ true
mapped_inside_one map at zero h = grind (arith, nat_tests)
mapped_inside_one map at (suc n) h = grind (arith, nat_tests, mapped_inside_one map at n (shorter map at n h), last map at n h)

-- an address that is not mapped
pub unmapped_at : (map : List Range) (at n i : ℕ) → i < n → is_mapped map (at + i) ≡ false → all_mapped map at n ≡ false
unmapped_at map at zero i h u = grind (arith, nat_tests)
unmapped_at map at (suc n) i h u = grind (arith, nat_tests, unmapped_at map at n i)

-- a range of the list holds no more than the list does
part_at : (map : List Range) (k : ℕ) (range : Range) (at n : ℕ) → k < length map → range ≡ get_or map k range → is_inside_one (range ∷ []) at n ≡ true → is_inside_one map at n ≡ true
part_at [] k range at n within is h = absurd (omega arith)
part_at (r ∷ map) zero range at n within is h = grind (arith, nat_tests)
part_at (r ∷ map) (suc k) range at n within is h = grind (arith, nat_tests, part_at map k range at n)

pub found_is_part : (map : List Range) (k : ℕ) (range : Range) → k < length map → range ≡ get_or map k range → IsPart range map
found_is_part map k range within is at n h = part_at map k range at n within is h

-- what a part holds is mapped
pub part_is_mapped : (range : Range) (map : List Range) (at n : ℕ) → IsPart range map → is_inside_one (range ∷ []) at n ≡ true → all_mapped map at n ≡ true
part_is_mapped range map at n part h = mapped_inside_one map at n (part at n h)

pub aligned_and_mapped : (map : List Range) (at width : ℕ) → at % width ≡ 0 → all_mapped map at width ≡ true → true ≡ can_access map at width
aligned_and_mapped map at width aligned mapped = grind (arith, nat_tests)

-- more addresses are mapped than fewer
fewer_mapped : (map : List Range) (at n k : ℕ) → all_mapped map at (n + k) ≡ true → all_mapped map at n ≡ true
fewer_mapped map at n zero all =
    let same : n + zero ≡ n = omega arith in
    subst (λ m. all_mapped map at m ≡ true) same all
fewer_mapped map at n (suc k) all =
    let more : n + suc k ≡ suc (n + k) = omega arith in
    let here : all_mapped map at (suc (n + k)) ≡ true = subst (λ m. all_mapped map at m ≡ true) more all in
    grind (arith, nat_tests, fewer_mapped map at n k)

-- an aligned access of at most four bytes, where one range holds four
pub near_access : (map : List Range) (at width : ℕ) → width ≤ 4 → at % width ≡ 0 → is_inside_one map at 4 ≡ true → can_access map at width ≡ true
near_access map at width few aligned inside =
    let all : all_mapped map at 4 ≡ true = mapped_inside_one map at 4 inside in
    let split : 4 ≡ width + (4 - width) = omega arith in
    let mapped : all_mapped map at width ≡ true = fewer_mapped map at width (4 - width) (subst (λ n. all_mapped map at n ≡ true) split all) in
    sym (aligned_and_mapped map at width aligned mapped)
