-- Tests of numbers, turned round and refuted, and numbers that are told.
use Rattle.std.proofs.Common.{◌≡◌, ℕ, ◌==◌, true, false, Some, arith}
use Rattle.std.proofs.lemmas.Bool.Decides.{nat_tests}

pub turned : (a b : ℕ) → (a == b) ≡ (b == a)
turned a b = grind (arith, nat_tests)

pub equal_numbers : (a b : ℕ) → a ≡ b → (a == b) ≡ true
equal_numbers a b same = grind (arith, nat_tests, same)

pub other_numbers : (a b : ℕ) → (a ≡ b → ⊥) → (a == b) ≡ false
other_numbers a b other = grind (arith, nat_tests, other)

pub same_some : (a b : ℕ) → Some a ≡ Some b → a ≡ b
same_some a b same = cc
