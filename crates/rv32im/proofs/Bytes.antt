-- What stands in memory, or in registers, after something was put there.
use Rattle.std.proofs.Common.{◌≡◌, ◌≢◌, ℕ, ◌<◌, arith}
use Rattle.std.proofs.lemmas.Bool.Decides.{nat_tests}
use Rattle.rv32im.specs.Memory.{Memory, put, word_at, put_word}

pub put_same : (mem : Memory) (at byte : ℕ) → put mem at byte at ≡ byte
unfolding put
put_same mem at byte = grind (arith, nat_tests)

pub put_other : (mem : Memory) (at byte a : ℕ) → a ≢ at → put mem at byte a ≡ mem a
unfolding put
put_other mem at byte a disjoint = grind (arith, nat_tests)

-- what is put below a bound among what is below it
pub put_below : (bound : ℕ) (mem : Memory) (at byte : ℕ) → ((a : ℕ) → mem a < bound) → byte < bound → (a : ℕ) → put mem at byte a < bound
unfolding put
put_below bound mem at byte below fits a = let here = below a in grind (arith, nat_tests)

pub word_at-put_word : (mem : Memory) (at value : ℕ) → at < 4294967296 → value < 4294967296 → word_at (put_word mem at value) at ≡ value
unfolding put
word_at-put_word mem at value within fits = grind (arith, nat_tests)
