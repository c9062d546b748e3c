-- Places of accesses as the machine finds them.
use Rattle.std.specs.Prelude.{◌≡◌, ◌⊎◌, ℕ, ◌+◌, ◌<◌, ◌≤◌, Bool, true, length, slice_index_or, Option, Some, None}
use Rattle.rv32im.specs.declared.instructions.LoadKind.{LoadKind}
use Rattle.cell_values.specs.Objects.{object_of}
use Rattle.object_machine.specs.declared.events.Access.{Access}
use Rattle.object_machine.specs.declared.spots.Spot.{Spot}
use Rattle.object_machine.specs.declared.spots.Spot.TheVariants.{Fixed, Object, Nowhere}
use Rattle.object_machine.specs.declared.tables.Tables.{Tables}
use Rattle.object_machine.specs.Layout.{is_in_some}
use Rattle.object_machine.specs.Places.{Where, InFixed, InObject, Nowhere as NowhereFor}

abbrev pub where_of : Spot → Where
where_of (Fixed a) = InFixed a
where_of (Object o d) = InObject o d
where_of (Nowhere why) = NowhereFor why

-- how many bytes a load or a store touches
abbrev pub IsWidth : ℕ → Type 0
IsWidth n = (n ≡ 1) ⊎ ((n ≡ 2) ⊎ (n ≡ 4))

-- the byte `i` behind a place is memory, if the place is one
abbrev pub HasByte : Tables → Spot → ℕ → Type 0
HasByte t (Fixed a) i = (a + i < 4294967296) × (is_in_some t.fixed.items (a + i) ≡ true)
HasByte t (Object o d) i = (o < length t.graph.objects.items) × (d + i < (object_of t.graph o).size)
HasByte t (Nowhere why) i = Unit {0}

-- the `n` bytes from a place are
abbrev pub Spans : Tables → ℕ → Spot → Type 0
Spans t n spot = (i : ℕ) → i < n → HasByte t spot i

-- a place is memory
abbrev pub IsSomewhere : Spot → Type 0
IsSomewhere (Fixed a) = Unit {0}
IsSomewhere (Object o d) = Unit {0}
IsSomewhere (Nowhere why) = ⊥
