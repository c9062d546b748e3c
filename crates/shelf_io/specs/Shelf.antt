-- What a shelf shows, what its calls answer, and what they leave. Names and contents are lists of
-- bytes.
use Rattle.std.specs.Prelude.{◌≡◌, ◌≢◌, ℕ, Bool, if◌then◌else◌, List, [], ◌∷◌, ◌++◌, Option, Some, None, IfSome, Result, Ok, Err, IfOk, Vec}
use Rattle.std.specs.declared.alloc.Global.{Global}
use Rattle.shelf_io.specs.Counts.{Rose}
use Rattle.shelf_io.specs.declared.shelves.CallKind.{CallKind}
use Rattle.shelf_io.specs.declared.shelves.CallKind.TheVariants.{Read, Write}
use Rattle.shelf_io.specs.declared.shelves.ShelfFault.{ShelfFault}
use Rattle.shelf_io.specs.declared.shelves.ShelfFault.TheVariants.{Failed, Memory}

-- failed calls, oldest first: the kind and the name of each
abbrev pub CallList : Type 0
CallList = List (CallKind × List ℕ)

-- what is known of each name: nothing (`None`), that it is missing (`Some None`), or its bytes
abbrev pub Content : Type 0
Content = List ℕ → Option (Option (List ℕ))

-- what is to be seen of a shelf
pub record ShelfView : Type 0 where
  -- whether it tells what it keeps
  pub tells : Bool
  pub content : Content
  pub failed : CallList
  -- how many writes wanted memory in vain
  pub wants : ℕ

-- a shelf has these bytes under a name, as far as it tells
abbrev pub Holds : ShelfView → List ℕ → List ℕ → Type 0
Holds shelf name bytes = IfSome (shelf.content name) (λ held. held ≡ Some bytes)

-- A read gives the bytes of its name, as far as the shelf tells. A missing name is never `Ok`.
abbrev pub Reads : List ℕ → Result (Vec ℕ Global) ShelfFault → ShelfView → Type 0
Reads name result shelf = IfOk result (λ bytes. Holds shelf name bytes.items)

-- a failed call was logged, and nothing else changed
abbrev pub LogsFailed : CallKind → List ℕ → ShelfView → ShelfView → Type 0
LogsFailed kind name old new = new ≡ record old { failed = old.failed ++ (kind, name) ∷ [] }

-- a read changes nothing, but that a failed one is logged
abbrev pub ReadLeaves : List ℕ → Result (Vec ℕ Global) ShelfFault → ShelfView → ShelfView → Type 0
ReadLeaves name (Ok bytes) old new = new ≡ old
ReadLeaves name (Err Failed) old new = LogsFailed Read name old new
ReadLeaves name (Err Memory) old new = new ≡ old

-- two contents agree on every other name
abbrev pub SameElsewhere : List ℕ → Content → Content → Type 0
SameElsewhere name old new = (other : List ℕ) → other ≢ name → new other ≡ old other

-- the bytes stand under the name, and nothing else changed; a shelf that tells nothing still doesn't
pub record SetsName (name bytes : List ℕ) (old new : ShelfView) : Type 0 where
  pub set : new.content name ≡ (if old.tells then Some (Some bytes) else None)
  pub elsewhere : SameElsewhere name old.content new.content
  pub others : new ≡ record old { content = new.content }

-- a failed write was logged, nothing is known of its name, and nothing else changed
pub record LosesName (name : List ℕ) (old new : ShelfView) : Type 0 where
  pub elsewhere : SameElsewhere name old.content new.content
  pub logged : new ≡ record old { content = new.content; failed = old.failed ++ (Write, name) ∷ [] }

-- a write wanted memory, and nothing but the count of wants changed
pub record WantsMemory (old new : ShelfView) : Type 0 where
  pub rose : Rose old.wants new.wants
  pub others : new ≡ record old { wants = new.wants }

abbrev pub WriteLeaves : List ℕ → List ℕ → Result (Unit {0}) ShelfFault → ShelfView → ShelfView → Type 0
WriteLeaves name bytes (Ok done) old new = SetsName name bytes old new
WriteLeaves name bytes (Err Failed) old new = LosesName name old new
WriteLeaves name bytes (Err Memory) old new = WantsMemory old new
