-- Memory as the byte at each address. An address at which nothing was ever put holds 0.
-- Registers are functions of the same kind, so `put` serves both.
use Rattle.std.specs.Prelude.{ℕ, ◌+◌, ◌/◌, ◌%◌, ◌==◌, if◌then◌else◌, List, [], ◌∷◌, ◌++◌, zero, suc}
use Rattle.rv32im.specs.Words.{plus, half_of, word_of}

abbrev pub Memory : Type 0
Memory = ℕ → ℕ

-- nothing but zeros
abbrev pub zeros : Memory
zeros = λ _. 0

-- `mem` with one byte changed
unfoldable pub put : Memory → ℕ → ℕ → Memory
put mem at byte = λ a. if a == at then byte else mem a

-- the little-endian halfword and word at an address; addresses wrap modulo 2 ^ 32
abbrev pub half_at : Memory → ℕ → ℕ
half_at mem at = half_of (mem at) (mem (plus at 1))

abbrev pub word_at : Memory → ℕ → ℕ
word_at mem at = word_of (mem at) (mem (plus at 1)) (mem (plus at 2)) (mem (plus at 3))

-- `mem` with the low bytes of `value` put at an address, least first
abbrev pub put_byte : Memory → ℕ → ℕ → Memory
put_byte mem at value = put mem at (value % 256)

abbrev pub put_half : Memory → ℕ → ℕ → Memory
put_half mem at value = put (put_byte mem at value) (plus at 1) (value / 256 % 256)

abbrev pub put_word : Memory → ℕ → ℕ → Memory
put_word mem at value =
    put (put (put_half mem at value) (plus at 2) (value / 65536 % 256)) (plus at 3) (value / 16777216 % 256)

-- the `n` bytes from `at`
abbrev pub bytes_at : Memory → ℕ → ℕ → List ℕ
bytes_at mem at zero = []
bytes_at mem at (suc n) = bytes_at mem at n ++ mem (at + n) ∷ []

-- `mem` with `bytes` put from `at` on
abbrev pub put_bytes : Memory → ℕ → List ℕ → Memory
put_bytes mem at [] = mem
put_bytes mem at (byte ∷ bytes) = put_bytes (put mem at byte) (at + 1) bytes
