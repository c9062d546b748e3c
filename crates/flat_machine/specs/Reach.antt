-- Addresses that one test shows to be mapped.
use Rattle.std.specs.Prelude.{ℕ, ◌≤◌, List, IsTrue}
use Rattle.board_config.specs.declared.board.Range.{Range}
use Rattle.flat_machine.specs.declared.reach.Reach.{Reach}
use Rattle.flat_machine.specs.Mapping.{is_inside_one}

abbrev pub IsIn : ℕ → Reach → Type 0
IsIn at reach = (reach.first ≤ at) × (at ≤ reach.last)

-- one range holds the four bytes from each of the addresses on
abbrev pub IsMappedReach : Reach → List Range → Type 0
IsMappedReach reach map = (at : ℕ) → IsIn at reach → IsTrue (is_inside_one map at 4)
