-- What reading the names of a command gives.
use Rattle.std.specs.Prelude.{◌≡◌, ◌⊎◌, ℕ, List, [], ◌∷◌, ◌++◌, map, Vec}
use Rattle.std.specs.Global.{Global}
use Rattle.shelf_io.specs.declared.shelves.CallKind.TheVariants.{Read}
use Rattle.shelf_io.specs.Shelf.{ShelfView, Holds, LogsFailed}
use Rattle.command_language.specs.Command.{Named}
use Rattle.command_language.specs.declared.faults.CommandFault.{CommandFault}
use Rattle.command_language.specs.declared.faults.CommandFault.TheVariants as command_fault

-- the bytes of each text
abbrev pub contents : List (Vec ℕ Global) → List (List ℕ)
contents texts = map (λ text. text.items) texts

-- the shelf holds these texts under these names, one for each, as far as it tells
abbrev pub HoldsAll : ShelfView → List Named → List (List ℕ) → Type 0
HoldsAll shelf [] [] = Unit
HoldsAll shelf [] (text ∷ texts) = ⊥
HoldsAll shelf (n ∷ names) [] = ⊥
HoldsAll shelf (n ∷ names) (text ∷ texts) = Holds shelf n.name text × HoldsAll shelf names texts

-- reading a name was rejected: the read failed, or memory was wanting
abbrev pub RejectsRead : Named → ShelfView → ShelfView → CommandFault → Type 0
RejectsRead n old new fault =
    ((fault ≡ command_fault.Read n.place) × LogsFailed Read n.name old new) ⊎ ((fault ≡ command_fault.Memory) × (new ≡ old))

-- one of several names that are read in their order: those before it were read
pub record IsReached (shelf : ShelfView) (names : List Named) (read : Named) : Type 0 where
  pub before : List Named
  pub behind : List Named
  pub names_are : names ≡ before ++ read ∷ behind
  pub texts : List (List ℕ)
  pub holds : HoldsAll shelf before texts

-- so was reading several names, one after the other
pub data RejectsReads (names : List Named) (old new : ShelfView) (fault : CommandFault) : Type 0 where
  one_fails : (n : Named) → IsReached old names n → fault ≡ command_fault.Read n.place → LogsFailed Read n.name old new
      → RejectsReads names old new fault
  memory_wanting : fault ≡ command_fault.Memory → new ≡ old → RejectsReads names old new fault
