-- The laws of a change of the region.
use Rattle.std.specs.Prelude.{◌≡◌, ℕ, ◌+◌, ◌<◌, Bool, true, false, Option}
use Rattle.rv32im.specs.declared.instructions.Instr.{Instr}
use Rattle.flat_machine.specs.State.{State}
use Rattle.flat_machine.specs.Sizes.{HasWords}
use Rattle.object_machine.specs.declared.events.Outcome.TheVariants.{GoesOn}
use Rattle.object_machine.specs.Program.{Program}
use Rattle.object_machine.specs.State.{SourceState}
use Rattle.object_machine.specs.Step.{next_state}
use Rattle.object_machine.specs.Paired.{Origins, origins_after}
use Rattle.simulation.specs.Setups.{Setup}
use Rattle.simulation.specs.Relation.{Alike}
use Rattle.simulation.specs.Names.{StateNamesNone}
use Rattle.simulation.specs.Changes.{moves, AllByLui, OthersStay, ChangesRegion, AreAtHomeToo}
use Rattle.simulation.specs.Unwritten.{AreUnwritten, IsOneByte, HomesStandStill}

-- a table says which registers matter at an address
abbrev pub matters : (ℕ → ℕ → Bool) → ℕ → ℕ → Type 0
matters live u k = live u k ≡ true

-- states that are alike in a region are alike in another behind such a change, where nothing that matters names an object
-- that moves
abbrev pub RegionsChange : Type 0
RegionsChange =
    (p : Program) (l : Setup) (live : ℕ → ℕ → Bool) (moving : ℕ → Bool) (from to u : ℕ) (s : SourceState) (m : Origins) (t t' : State)
    → Alike p l (matters live) from u s m t → AreAtHomeToo p l from s m t → OthersStay l moving from to
    → StateNamesNone moving (matters live u) s → ChangesRegion p l (matters live) from to u t t' → HasWords t'
    → Alike p l (matters live) to u s m t'

-- where a LUI makes each upper part, the objects that move are those whose places differ
abbrev pub PlacesDecide : Type 0
PlacesDecide =
    (l : Setup) (from to : ℕ) → AllByLui l from → AllByLui l to → OthersStay l (moves l from to) from to

-- ---- objects that nothing writes

abbrev pub UnwrittenStay : Type 0
UnwrittenStay =
    (p : Program) (first s : SourceState) (made m : Origins) (read : Option Instr) → AreUnwritten p first made s m
    → (next_state p s read).outcome ≡ GoesOn → AreUnwritten p first made (next_state p s read) (origins_after p s m read)

-- where their homes stand still, they are at home too
abbrev pub UnwrittenAreHome : Type 0
UnwrittenAreHome =
    (p : Program) (l : Setup) (live : ℕ → ℕ → Bool) (r u : ℕ) (first s : SourceState) (made m : Origins) (t : State)
    → Alike p l (matters live) r u s m t → AreUnwritten p first made s m → HomesStandStill p l r first made
    → AreAtHomeToo p l r s m t

-- and these bytes are already the ones that stand still there in the next region
abbrev pub HomesStayed : Type 0
HomesStayed =
    (p : Program) (l : Setup) (live : ℕ → ℕ → Bool) (moving : ℕ → Bool) (from to u : ℕ) (first s : SourceState) (made m : Origins) (t : State)
    (o i : ℕ)
    → Alike p l (matters live) from u s m t → AreUnwritten p first made s m
    → HomesStandStill p l from first made → HomesStandStill p l to first made
    → OthersStay l moving from to → StateNamesNone moving (matters live u) s
    → IsOneByte (l.upper from) (made.cells o i) (first.cells o i)
    → p.objects.writable o ≡ false → i < p.objects.size o → (l.place to o ≡ p.objects.home o → ⊥)
    → t.hart.mem (p.objects.home o + i) ≡ l.still to (p.objects.home o + i)
