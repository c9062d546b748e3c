-- A set of registers as the bits of a word.
use Rattle.std.specs.Prelude.{◌≡◌, ℕ, ◌<◌, ◌↔◌, List, Contains}
use Rattle.std.specs.Int.{bit_at}
use Rattle.rv32im.specs.declared.instructions.RegSet.{RegSet}

-- register `k` is in the set
abbrev pub IsIn : RegSet → ℕ → Type 0
IsIn set k = bit_at set.bits k ≡ 1

-- of the registers, the set has exactly those of the list
abbrev pub HasExactly : RegSet → List ℕ → Type 0
HasExactly set ks = (k : ℕ) → k < 32 → IsIn set k ↔ Contains ks k
