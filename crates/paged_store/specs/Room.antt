-- Addresses that have room: a byte can be put there without taking memory.
use Rattle.std.specs.Prelude.{ℕ, ◌<◌, Bool, IsTrue}
use Rattle.rv32im.specs.Words.{plus}

-- the `n` addresses from `at`, modulo 2 ^ 32, have room
abbrev pub HasRoom : (ℕ → Bool) → ℕ → ℕ → Type 0
HasRoom room at n = (k : ℕ) → k < n → IsTrue (room (plus at k))

-- no address loses its room
abbrev pub RoomGrows : (ℕ → Bool) → (ℕ → Bool) → Type 0
RoomGrows old new = (a : ℕ) → IsTrue (old a) → IsTrue (new a)
