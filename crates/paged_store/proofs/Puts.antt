-- What a memory holds after bytes were put in a row.
use Rattle.std.proofs.Common.{◌≡◌, ℕ, ◌+◌, ◌-◌, ◌/◌, ◌%◌, ◌<◌, ◌≤◌, List, [], ◌∷◌, ◌++◌, take, drop, length, ap, ◌∙◌, slice_index, arith, zero, suc}
use Rattle.std.proofs.lemmas.Grind.{common_steps}
use Rattle.std.proofs.lemmas.List.{drop-drop, take-append-drop}
use Rattle.std.proofs.lemmas.Bool.Decides.{nat_tests}
use Rattle.rv32im.specs.Words.{plus}
use Rattle.rv32im.specs.Memory.{Memory, put, put_word, put_bytes}

-- an address before or behind them keeps its byte
pub put_bytes_before : (bytes : List ℕ) (mem : Memory) (at a : ℕ) → a < at → put_bytes mem at bytes a ≡ mem a
unfolding put
put_bytes_before [] mem at a h = grind (arith, nat_tests)
put_bytes_before (b ∷ bytes) mem at a h = grind (arith, nat_tests, put_bytes_before bytes (put mem at b) (at + 1) a)

pub put_bytes_behind : (bytes : List ℕ) (mem : Memory) (at a : ℕ) → at + length bytes ≤ a → put_bytes mem at bytes a ≡ mem a
unfolding put
put_bytes_behind [] mem at a h = grind (arith, nat_tests)
put_bytes_behind (b ∷ bytes) mem at a h = grind (arith, nat_tests, put_bytes_behind bytes (put mem at b) (at + 1) a)

-- byte k of them stands k places behind the first
pub put_bytes_at : (bytes : List ℕ) (mem : Memory) (at k a : ℕ) → a ≡ at + k → k < length bytes → put_bytes mem at bytes a ≡ slice_index bytes k
unfolding put
put_bytes_at [] mem at k a e h = grind (arith, nat_tests)
put_bytes_at (b ∷ bytes) mem at zero a e h = grind (arith, nat_tests, put_bytes_before bytes (put mem at b) (at + 1) a)
put_bytes_at (b ∷ bytes) mem at (suc k) a e h = grind (arith, nat_tests, put_bytes_at bytes (put mem at b) (at + 1) k a)

-- bytes in two parts
pub put_bytes-append : (xs ys : List ℕ) (mem : Memory) (at : ℕ) → put_bytes mem at (xs ++ ys) ≡ put_bytes (put_bytes mem at xs) (at + length xs) ys
put_bytes-append [] ys mem at = grind (arith, common_steps)
put_bytes-append (x ∷ xs) ys mem at =
    let rest = put_bytes-append xs ys (put mem at x) (at + 1) in
    let end : at + 1 + length xs ≡ at + suc (length xs) = omega arith in
    rest ∙ ap (λ a. put_bytes (put_bytes (put mem at x) (at + 1) xs) a ys) end

-- the bytes of a word, which do not pass 2 ^ 32
pub put_bytes-word : (mem : Memory) (at word b0 b1 b2 b3 : ℕ) → at + 3 < 4294967296 → b0 ≡ word % 256 → b1 ≡ word / 256 % 256 → b2 ≡ word / 65536 % 256 → b3 ≡ word / 16777216 % 256 → put_bytes mem at (b0 ∷ b1 ∷ b2 ∷ b3 ∷ []) ≡ put_word mem at word
put_bytes-word mem at word b0 b1 b2 b3 within e0 e1 e2 e3 =
    let one : at + 1 ≡ plus at 1 = omega arith in
    let two : at + 1 + 1 ≡ plus at 2 = omega arith in
    let three : at + 1 + 1 + 1 ≡ plus at 3 = omega arith in
    cc

-- a piece more, of bytes that are put piece by piece
pub put_bytes_more : (mem new : Memory) (at d n : ℕ) (bytes : List ℕ) → d + n ≤ length bytes → new ≡ put_bytes mem (at + d) (take (d + n - d) (drop d bytes)) → put_bytes new (at + (d + n)) (drop (d + n) bytes) ≡ put_bytes mem (at + d) (drop d bytes)
put_bytes_more mem new at d n bytes inside made =
    let piece : List ℕ = take n (drop d bytes) in
    let same : d + n - d ≡ n = omega arith in
    let first : new ≡ put_bytes mem (at + d) piece = made ∙ ap (λ i. put_bytes mem (at + d) (take i (drop d bytes))) same in
    let count : length piece ≡ n = grind (arith, common_steps) in
    let end : at + d + length piece ≡ at + (d + n) = omega arith in
    let rest : piece ++ drop (d + n) bytes ≡ drop d bytes = rw (← drop-drop n d bytes) (take-append-drop n (drop d bytes)) in
    let whole = put_bytes-append piece (drop (d + n) bytes) mem (at + d) in
    cc
