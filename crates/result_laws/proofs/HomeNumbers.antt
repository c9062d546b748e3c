-- Numbers: a number is itself, and a sum that is a word.
use Rattle.std.proofs.Common.{◌≡◌, ℕ, ◌+◌, ◌<◌, ◌≤◌, ◌==◌, true, arith}
use Rattle.std.proofs.lemmas.Bool.Decides.{nat_tests}
use Rattle.rv32im.specs.Words.{plus}

pub same_number : (a : ℕ) → (a == a) ≡ true
same_number a = grind (arith, nat_tests)

-- an address at most `n` bytes behind a home, where these end below 2 ^ 32
pub plain_sum : (home n d x : ℕ) → x ≡ d → x ≤ n → home + n < 4294967296 → home + x ≡ plus home d
plain_sum home n d x is near ends = omega (arith, is, near, ends)
