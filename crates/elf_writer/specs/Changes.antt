-- Bytes of a file that are changed where they stand.
use Rattle.std.specs.Prelude.{◌≡◌, ℕ, ◌+◌, ◌-◌, nat_lt, nat_le, Bool, false, ◌&&◌, if◌then◌else◌, List, [], ◌∷◌, length, slice_index, All}

-- bytes, and the place in the file from which on they come to stand
pub record Change : Type 0 where
  pub place : ℕ
  pub content : List ℕ

-- one of `n` places from `start` on
abbrev pub within : ℕ → ℕ → ℕ → Bool
within start n place = nat_le start place && nat_lt place (start + n)

-- one of them comes to stand at place `at`
abbrev pub changes_place : Change → ℕ → Bool
changes_place c at = within c.place (length c.content) at

-- a place that no change touches
abbrev pub IsUntouched : List Change → ℕ → Type 0
IsUntouched cs place = All (λ c. changes_place c place ≡ false) cs

-- what stands there after the change, where `old` stood before
abbrev pub byte_after : Change → ℕ → ℕ → ℕ
byte_after c at old = if changes_place c at then slice_index c.content (at - c.place) else old

-- what stands there after all changes. No two changes of a file that is written share a place
abbrev pub byte_changed : List Change → ℕ → ℕ → ℕ
byte_changed [] at old = old
byte_changed (c ∷ cs) at old = byte_changed cs at (byte_after c at old)

-- the bytes from place `at` on, after all changes
abbrev pub changed : List Change → ℕ → List ℕ → List ℕ
changed cs at [] = []
changed cs at (byte ∷ bytes) = byte_changed cs at byte ∷ changed cs (at + 1) bytes
