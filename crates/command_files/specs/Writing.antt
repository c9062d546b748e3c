-- What is written under the names of a command, and what that leaves.
use Rattle.std.specs.Prelude.{◌≡◌, ◌⊎◌, ℕ, List, [], ◌∷◌}
use Rattle.shelf_io.specs.Shelf.{ShelfView, SetsName, LosesName, WantsMemory}
use Rattle.command_language.specs.Command.{Named}
use Rattle.command_files.specs.Diagnostic.{IsDiagnosticOf}
use Rattle.command_files.specs.declared.writing.Output.{Output}
use Rattle.command_files.specs.declared.diagnostic.Diagnostic.{Diagnostic}
use Rattle.command_files.specs.declared.diagnostic.Diagnostic.TheVariants as diagnostic
use Rattle.command_language.specs.declared.faults.CommandFault.TheVariants as command_fault

-- the outputs were written, one after the other
abbrev pub SetsAll : List Named → List (List ℕ) → ShelfView → ShelfView → Type 0
SetsAll [] [] old new = new ≡ old
SetsAll [] (output ∷ outputs) old new = ⊥
SetsAll (w ∷ names) [] old new = ⊥
SetsAll (w ∷ names) (output ∷ outputs) old new =
    (mid : ShelfView) × SetsName w.name output old mid × SetsAll names outputs mid new

-- the write at a place failed; those before it stand, and none behind it was made
abbrev pub LosesOne : List Named → List (List ℕ) → ℕ → ShelfView → ShelfView → Type 0
LosesOne [] outputs place old new = ⊥
LosesOne (w ∷ names) [] place old new = ⊥
LosesOne (w ∷ names) (output ∷ outputs) place old new =
    ((place ≡ w.place) × LosesName w.name old new)
    ⊎ ((mid : ShelfView) × SetsName w.name output old mid × LosesOne names outputs place mid new)

-- a write wanted memory and nothing but its count of wants rose; those before it stand, and none behind it was made
abbrev pub WantsInOne : List Named → List (List ℕ) → ShelfView → ShelfView → Type 0
WantsInOne [] outputs old new = ⊥
WantsInOne (w ∷ names) [] old new = ⊥
WantsInOne (w ∷ names) (output ∷ outputs) old new =
    WantsMemory old new
    ⊎ ((mid : ShelfView) × SetsName w.name output old mid × WantsInOne names outputs mid new)

-- an output that stands ready under a name, with the fault of its write
pub record IsOutput (w : Named) (output : List ℕ) (o : Output) : Type 0 where
  pub name : o.name.now ≡ w.name
  pub bytes : o.bytes.items ≡ output
  pub fault : IsDiagnosticOf (command_fault.Write w.place) o.fault

-- outputs that stand ready, each under its name
abbrev pub ArePrepared : List Named → List (List ℕ) → List Output → Type 0
ArePrepared [] [] [] = Unit
ArePrepared [] [] (o ∷ prepared) = ⊥
ArePrepared [] (output ∷ outputs) prepared = ⊥
ArePrepared (w ∷ names) [] prepared = ⊥
ArePrepared (w ∷ names) (output ∷ outputs) [] = ⊥
ArePrepared (w ∷ names) (output ∷ outputs) (o ∷ prepared) =
    IsOutput w output o × ArePrepared names outputs prepared

-- the same, from the outputs that stand ready
abbrev pub SetsPrepared : List Output → ShelfView → ShelfView → Type 0
SetsPrepared [] old new = new ≡ old
SetsPrepared (o ∷ prepared) old new =
    (mid : ShelfView) × SetsName o.name.now o.bytes.items old mid × SetsPrepared prepared mid new

-- a write failed, and `r` is its fault; or it wanted memory, which its count of wants tells
pub data FailsOnce (o : Output) (old new : ShelfView) (r : Diagnostic) : Type 0 where
  write_fails : r ≡ o.fault → LosesName o.name.now old new → FailsOnce o old new r
  wants_memory : r ≡ diagnostic.Memory → WantsMemory old new → FailsOnce o old new r

abbrev pub FailsToWrite : List Output → ShelfView → ShelfView → Diagnostic → Type 0
FailsToWrite [] old new r = ⊥
FailsToWrite (o ∷ prepared) old new r =
    FailsOnce o old new r
    ⊎ ((mid : ShelfView) × SetsName o.name.now o.bytes.items old mid × FailsToWrite prepared mid new r)
