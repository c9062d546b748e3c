-- Why a board gives a program no regions, and what a result tells of it.
use Rattle.std.specs.Prelude.{◌≡◌, ◌⊎◌, ℕ, List, Option, Some, None, Result, Ok, Err, string_bytes}
use Rattle.region_former.specs.declared.fault.RegionFault.{RegionFault}
use Rattle.region_former.specs.declared.fault.RegionFault.TheVariants as region

-- a fault, with a name as its bytes. `memory` is the want of memory, which no check gives
pub data Fault : Type 0 where
  unknown_function : List ℕ → Fault
  two_regions : List ℕ → Fault
  memory : Fault

abbrev pub plain_fault : RegionFault → Fault
plain_fault (region.UnknownFunction name) = unknown_function (string_bytes name)
plain_fault (region.TwoRegions name) = two_regions (string_bytes name)
plain_fault region.Memory = memory

-- a result tells of the first check that fails, or that no memory was left: Ok exactly where none fails
abbrev pub ReportsFirst : {T : Type 0} → Result T RegionFault → Option Fault → Type 0
ReportsFirst (Ok value) first = first ≡ None
ReportsFirst (Err fault) first = (fault ≡ region.Memory) ⊎ (first ≡ Some (plain_fault fault))
