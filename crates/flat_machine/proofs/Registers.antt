-- The array of registers as a function.
use Rattle.std.proofs.Common.{◌≡◌, ℕ, ◌<◌, List, length, slice_index, slice_set, replicate, zero, suc, arith, inl, inr}
use Rattle.std.proofs.lemmas.Grind.{common_steps}
use Rattle.std.proofs.lemmas.Bool.{cases_eq}
use Rattle.std.proofs.lemmas.Bool.Decides.{nat_tests}
use Rattle.rv32im.specs.Memory.{put, zeros}
use Rattle.rv32im.specs.Acts.{with_register}

set_at : (regs : List ℕ) (rd value k : ℕ) → slice_index regs 0 ≡ 0 → rd < length regs → slice_index (slice_set (slice_set regs rd value) 0 0) k ≡ with_register (λ j. slice_index regs j) rd value k
unfolding put
set_at regs rd value k none inside =
    elim (cases_eq k 0) [
      | inl here ↦ grind (arith, nat_tests, common_steps)
      | inr other ↦ grind (arith, nat_tests, common_steps)
    ]

-- a write into the array, in which x0 is then 0 again, is a write of the register
pub regs-set : (regs : List ℕ) (i rd value : ℕ) → i ≡ rd → slice_index regs 0 ≡ 0 → rd < length regs → (λ k. slice_index (slice_set (slice_set regs i value) 0 0) k) ≡ with_register (λ j. slice_index regs j) rd value
regs-set regs i rd value e none inside = rw e (λ t k. set_at regs rd value k none inside t)

-- an array of zeros
zero_at : (n k : ℕ) → slice_index (replicate n 0) k ≡ 0
zero_at zero k = grind (arith, common_steps)
zero_at (suc n) zero = grind (arith, common_steps)
zero_at (suc n) (suc k) = grind (arith, common_steps, zero_at n k)

pub none_set : (λ k. slice_index (replicate 32 0) k) ≡ zeros
none_set = λ t k. zero_at 32 k t
