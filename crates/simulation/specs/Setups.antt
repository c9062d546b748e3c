-- Where the objects and the code stand on the flat machine. A program may keep other things in other places
-- while it is in another of its regions, so all but the mapped memory is by the number of a region.
use Rattle.std.specs.Prelude.{◌≡◌, ℕ, ◌+◌, ◌<◌, Bool, true, false, List, Some}
use Rattle.rv32im.specs.Memory.{Memory}
use Rattle.board_config.specs.declared.board.Range.{Range}
use Rattle.flat_machine.specs.Mapping.{is_mapped}
use Rattle.cell_values.specs.Stands.{Places, Uppers, Fit, MakesByLui, AreWords, MixesParts}
use Rattle.object_machine.specs.Program.{Program, Target}

pub record Setup : Type 0 where
  -- the mapped memory
  pub map : List Range
  -- the place of each object, and the words of upper parts
  pub place : ℕ → Places
  pub upper : ℕ → Uppers
  -- the addresses whose bytes never change while the region is current, as those of code, and these bytes
  pub is_still : ℕ → ℕ → Bool
  pub still : ℕ → Memory

-- what must hold of a setup while a region is current: the objects may stand at their places; memory that
-- the program reads and writes is mapped; and fixed memory, objects and what stands still are disjoint
pub record Sound (p : Program) (l : Setup) (r : ℕ) : Type 0 where
  pub fit : Fit p.objects (l.place r)
  pub lui : MakesByLui (l.place r) (l.upper r)
  pub upper_words : AreWords (l.upper r)
  pub mixes : MixesParts (l.upper r)
  pub sites : (u : ℕ) (t : Target) → p.site u ≡ Some t → t.offset < 4294967296
  pub fixed_below : (a : ℕ) → p.is_fixed a ≡ true → a < 4294967296
  pub fixed_mapped : (a : ℕ) → p.is_fixed a ≡ true → is_mapped l.map a ≡ true
  pub objects_mapped : (o i : ℕ) → i < p.objects.size o → is_mapped l.map (l.place r o + i) ≡ true
  pub objects_off_fixed : (o i : ℕ) → i < p.objects.size o → p.is_fixed (l.place r o + i) ≡ false
  pub still_off_fixed : (a : ℕ) → l.is_still r a ≡ true → p.is_fixed a ≡ false
  pub still_off_objects : (o i : ℕ) → i < p.objects.size o → l.is_still r (l.place r o + i) ≡ false
