-- 32-bit words as natural numbers: sums, signs, halves and bytes.
-- Each definition is total over the naturals, with the modulus written out.
use Rattle.std.specs.Prelude.{◌≡◌, ℕ, ◌+◌, ◌-◌, ◌*◌, ◌/◌, ◌%◌, ◌^◌, ◌<◌, nat_lt, if◌then◌else◌, ℤ, pos, ◌-ℤ◌}
use Rattle.std.specs.Int.{cast_unsigned, w32}

-- the sum of two words, modulo 2 ^ 32
abbrev pub plus : ℕ → ℕ → ℕ
plus a b = (a + b) % 4294967296

-- the difference of two words, modulo 2 ^ 32
abbrev pub minus : ℕ → ℕ → ℕ
minus a b = (a + (4294967296 - b % 4294967296)) % 4294967296

-- the address at a signed distance `z` from `a`, modulo 2 ^ 32
abbrev pub offset : ℕ → ℤ → ℕ
offset a z = (a + cast_unsigned w32 z) % 4294967296

-- a number below `half + half`, read in two's complement
abbrev pub signed : ℕ → ℕ → ℤ
signed half n = if nat_lt n half then pos n else pos n -ℤ pos (half + half)

-- the low `bits` bits of `w`, sign-extended to 32 bits
abbrev pub sign_extended : ℕ → ℕ → ℕ
sign_extended w bits =
    if nat_lt (w % 2 ^ bits) (2 ^ (bits - 1)) then w % 2 ^ bits
    else (w % 2 ^ bits + (4294967296 - 2 ^ bits))

-- %hi(a): the upper 20 bits of `a`, rounded so that the signed low part makes up the rest
-- (RISC-V psABI, "Absolute Addresses", HI20)
abbrev pub upper_half : ℕ → ℕ
upper_half a = (a + 2048) % 4294967296 / 4096

-- %lo(a): the low twelve bits of `a`, as a signed number (RISC-V psABI, LO12_I and LO12_S)
abbrev pub lower_half : ℕ → ℤ
lower_half a = signed 2048 (a % 4096)

-- bytes, least first, as a halfword and as a word
abbrev pub half_of : ℕ → ℕ → ℕ
half_of b0 b1 = b0 + 256 * b1

abbrev pub word_of : ℕ → ℕ → ℕ → ℕ → ℕ
word_of b0 b1 b2 b3 = b0 + 256 * b1 + 65536 * b2 + 16777216 * b3

-- byte `k` of a word, the least being byte 0
abbrev pub byte_of : ℕ → ℕ → ℕ
byte_of w k = w / 256 ^ k % 256

-- the upper half and the signed lower half of a word make the word again
abbrev pub HalvesRebuild : Type 0
HalvesRebuild = (a : ℕ) → a < 4294967296 → plus (upper_half a * 4096) (cast_unsigned w32 (lower_half a)) ≡ a

-- the four bytes of a word make the word again
abbrev pub BytesRebuild : Type 0
BytesRebuild = (w : ℕ) → w < 4294967296 → word_of (byte_of w 0) (byte_of w 1) (byte_of w 2) (byte_of w 3) ≡ w
