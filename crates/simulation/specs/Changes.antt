-- What the flat machine does where another region becomes current.
use Rattle.std.specs.Prelude.{◌≡◌, ◌⊎◌, ℕ, ◌+◌, ◌<◌, ◌==◌, Bool, true, false, not, Some}
use Rattle.rv32im.specs.Memory.{Memory}
use Rattle.rv32im.specs.Acts.{register}
use Rattle.flat_machine.specs.State.{State}
use Rattle.cell_values.specs.Origins.{Origin}
use Rattle.cell_values.specs.Stands.{upper_word, CellStands}
use Rattle.object_machine.specs.Program.{Program}
use Rattle.object_machine.specs.State.{SourceState}
use Rattle.object_machine.specs.Paired.{Origins}
use Rattle.simulation.specs.Setups.{Setup}

-- all objects but those that move have one place in two regions, and the same upper parts
pub record OthersStay (l : Setup) (moving : ℕ → Bool) (from to : ℕ) : Type 0 where
  pub place : (o : ℕ) → moving o ≡ false → l.place to o ≡ l.place from o
  pub upper : (origin : Origin) (o d : ℕ) → moving o ≡ false → l.upper to origin o d ≡ l.upper from origin o d

-- those whose places are two
abbrev pub moves : Setup → ℕ → ℕ → ℕ → Bool
moves l from to o = not (l.place to o == l.place from o)

-- all upper parts are as a LUI makes them of the places
abbrev pub AllByLui : Setup → ℕ → Type 0
AllByLui l r = (origin : Origin) (o d : ℕ) → l.upper r origin o d ≡ Some (upper_word (l.place r) o d)

-- a byte is the object's at its place, or where nothing writes the object, the one at its home
abbrev pub IsByteOf : Program → Setup → ℕ → Memory → ℕ → ℕ → ℕ → Type 0
IsByteOf p l r mem o i b =
    (b ≡ mem (l.place r o + i)) ⊎ ((p.objects.writable o ≡ false) × (b ≡ mem (p.objects.home o + i)))

-- From one region to another: each object's bytes come to its new place, and what stands still there comes where it
-- stands. Registers that matter at `u`, fixed memory, and what calls see stay.
pub record ChangesRegion (p : Program) (l : Setup) (live : ℕ → ℕ → Type 0) (from to u : ℕ) (t t' : State) : Type 0 where
  pub regs : (k : ℕ) → live u k → register t'.hart.regs k ≡ register t.hart.regs k
  pub fixed : (a : ℕ) → p.is_fixed a ≡ true → t'.hart.mem a ≡ t.hart.mem a
  pub objects : (o i : ℕ) → i < p.objects.size o → IsByteOf p l from t.hart.mem o i (t'.hart.mem (l.place to o + i))
  pub still : (a : ℕ) → l.is_still to a ≡ true → t'.hart.mem a ≡ l.still to a
  pub map : t'.map ≡ t.map
  pub outcome : t'.outcome ≡ t.outcome
  pub input : t'.input ≡ t.input
  pub output : t'.output ≡ t.output

-- the bytes at the homes of objects that nothing writes are theirs too, wherever they stand
abbrev pub AreAtHomeToo : Program → Setup → ℕ → SourceState → Origins → State → Type 0
AreAtHomeToo p l r s m t =
    (o i : ℕ) → p.objects.writable o ≡ false → i < p.objects.size o
    → CellStands (l.place r) (l.upper r) (m.cells o i) (s.cells o i) (t.hart.mem (p.objects.home o + i))
