-- Objects that aren't writable stay as they are at the start, so what stands still at their homes is theirs.
use Rattle.std.specs.Prelude.{◌≡◌, ℕ, ◌+◌, ◌<◌, true, false, Some}
use Rattle.cell_values.specs.declared.values.Cell.{Cell}
use Rattle.cell_values.specs.declared.values.Cell.TheVariants.{Byte, Part, Mist}
use Rattle.cell_values.specs.Stands.{Uppers, CellStands}
use Rattle.cell_values.specs.Origins.{Origin}
use Rattle.object_machine.specs.Program.{Program}
use Rattle.object_machine.specs.State.{SourceState}
use Rattle.object_machine.specs.Paired.{Origins}
use Rattle.simulation.specs.Setups.{Setup}

-- their cells, and the origins of these, are those of a state `s₀`
pub record AreUnwritten (p : Program) (first : SourceState) (made : Origins) (s : SourceState) (m : Origins) : Type 0 where
  pub cells : (o i : ℕ) → p.objects.writable o ≡ false → s.cells o i ≡ first.cells o i
  pub origins : (o i : ℕ) → p.objects.writable o ≡ false → m.cells o i ≡ made.cells o i

-- such a cell can be one byte alone
abbrev pub IsOneByte : Uppers → Origin → Cell → Type 0
IsOneByte up origin (Byte b) = Unit {0}
IsOneByte up origin (Part true o d k) = (w : ℕ) × (up origin o d ≡ Some w)
IsOneByte up origin (Part false o d k) = Unit {0}
IsOneByte up origin Mist = ⊥

-- while a region is current, the homes of those that stand elsewhere stand still, with the bytes of their cells
pub record HomesStandStill (p : Program) (l : Setup) (r : ℕ) (first : SourceState) (made : Origins) : Type 0 where
  pub is_still : (o i : ℕ) → p.objects.writable o ≡ false → i < p.objects.size o → (l.place r o ≡ p.objects.home o → ⊥)
      → l.is_still r (p.objects.home o + i) ≡ true
  pub bytes : (o i : ℕ) → p.objects.writable o ≡ false → i < p.objects.size o → (l.place r o ≡ p.objects.home o → ⊥)
      → CellStands (l.place r) (l.upper r) (made.cells o i) (first.cells o i) (l.still r (p.objects.home o + i))
