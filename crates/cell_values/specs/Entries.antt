-- Places of entries for words of memory: an index has at the address of each word 0, or else a place, counted from 1.
use Rattle.std.specs.Prelude.{◌≡◌, ◌≢◌, ℕ, zero, suc, ◌+◌, ◌*◌, ◌≤◌, List, length, slice_get, Option, None}
use Rattle.rv32im.specs.Words.{word_of}
use Rattle.rv32im.specs.Memory.{Memory}

-- what an index has for a word
abbrev pub place_of : Memory → ℕ → ℕ
place_of mem w = word_of (mem (w * 4)) (mem (w * 4 + 1)) (mem (w * 4 + 2)) (mem (w * 4 + 3))

-- the entry at a place
abbrev pub entry_in : {T : Type 0} → List T → ℕ → Option T
entry_in entries zero = None
entry_in entries (suc i) = slice_get entries i

-- each place has an entry
abbrev pub AreInside : {T : Type 0} → List T → Memory → Type 0
AreInside entries mem = (w : ℕ) → place_of mem w ≤ length entries

-- no entry is of two words
abbrev pub AreApart : Memory → Type 0
AreApart mem = (v w : ℕ) → place_of mem v ≢ 0 → place_of mem v ≡ place_of mem w → v ≡ w
