-- Zeros, one more at a time.
use Rattle.std.proofs.Common.{◌≡◌, ℕ, zero, suc, ◌+◌, List, [], ◌∷◌, ◌++◌, length, refl, ap, add-one, append_assoc}
use Rattle.elf_writer.specs.Pieces.{zero_bytes}

zero_suc : (n : ℕ) → zero_bytes n ++ 0 ∷ [] ≡ zero_bytes (suc n)
zero_suc zero = refl
zero_suc (suc n) = ap (λ bytes. 0 ∷ bytes) (zero_suc n)

pub zero_pushed : (out : List ℕ) (n : ℕ) → out ++ zero_bytes n ++ 0 ∷ [] ≡ out ++ zero_bytes (n + 1)
zero_pushed out n = rw (append_assoc, add-one, zero_suc)

pub length-zero_bytes : (n : ℕ) → length (zero_bytes n) ≡ n
length-zero_bytes zero = refl
length-zero_bytes (suc n) = ap suc (length-zero_bytes n)
