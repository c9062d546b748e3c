-- Where control lands, as tables of places of units by the address of a word.
use Rattle.std.specs.Prelude.{◌≡◌, ℕ, ◌<◌, true, List, length, slice_index}
use Rattle.code_blocks.specs.Early.{has}
use Rattle.object_machine.specs.declared.units.Prepared.{Prepared}
use Rattle.object_machine.specs.Units.{unit_in}

-- each entry that leads to a unit leads to one at some of these addresses
abbrev pub AreLandings : List Prepared → List ℕ → List ℕ → Type 0
AreLandings units starts landings =
    (i : ℕ) → i < length landings → slice_index landings i < length units
    → has starts (unit_in units (slice_index landings i)).at ≡ true
