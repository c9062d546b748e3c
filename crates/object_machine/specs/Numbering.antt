-- The numbers of the blocks that begin with units.
use Rattle.std.specs.Prelude.{◌≡◌, ℕ, ◌<◌, false, List, length, slice_index, slice_index_or, Option, Some, None, MatchOption}
use Rattle.code_blocks.specs.Early.{has}
use Rattle.object_machine.specs.declared.units.Prepared.{Prepared}
use Rattle.object_machine.specs.Units.{unit_in}

-- the number of the block at `a` among those that begin at these addresses: none begins there, or that one does
abbrev pub IsNumberIn : List ℕ → ℕ → Option ℕ → Type 0
IsNumberIn starts a o = MatchOption o (has starts a ≡ false) (λ k. (k < length starts) × (slice_index starts k ≡ a))

-- those of the first n units
pub record AreNumbers (starts : List ℕ) (units : List Prepared) (n : ℕ) (numbers : List (Option ℕ)) : Type 0 where
  pub count : length numbers ≡ n
  pub each : (k : ℕ) → k < n → IsNumberIn starts (unit_in units k).at (slice_index_or numbers k None)

-- the same of all units, as equations: of these a list has one proof at most
pub record HasNumbers (starts : List ℕ) (units : List Prepared) (numbers : List (Option ℕ)) : Type 0 where
  pub count : length numbers ≡ length units
  pub none : (k : ℕ) → k < length units → slice_index_or numbers k None ≡ None → has starts (unit_in units k).at ≡ false
  pub some : (k b : ℕ) → k < length units → slice_index_or numbers k None ≡ Some b → (b < length starts) × (slice_index starts b ≡ (unit_in units k).at)
