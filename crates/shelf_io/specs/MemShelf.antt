-- What a `MemShelf` holds, and which of its calls fail.
use Rattle.std.specs.Prelude.{◌≡◌, ⊤, IsTrue, IsFalse, ℕ, Bool, true, if◌then◌else◌, List, [], Option, Some, None, Result, Ok, Err, Vec, String}
use Rattle.std.specs.declared.alloc.Global.{Global}
use Rattle.shelf_io.specs.Counts.{next_count, is_listed}
use Rattle.shelf_io.specs.Entries.{content_of, map_bytes}
use Rattle.shelf_io.specs.Shelf.{CallList, Content, ShelfView, SetsName, LosesName}
use Rattle.shelf_io.specs.FaultLog.{failed_calls}
use Rattle.shelf_io.specs.declared.shelves.ShelfFault.{ShelfFault}
use Rattle.shelf_io.specs.declared.shelves.ShelfFault.TheVariants.{Failed, Memory}
use Rattle.shelf_io.specs.declared.memory_shelf.MemShelf.{MemShelf}

-- the bytes that the shelf holds under a name
abbrev pub held_bytes : MemShelf → List ℕ → Option (List ℕ)
held_bytes shelf name = map_bytes shelf.entries name

-- what the shelf tells: each name's bytes, or that it is missing
abbrev pub shelf_content : MemShelf → Content
shelf_content shelf = λ name. Some (held_bytes shelf name)

-- the failed calls, oldest first, and the count of wants
abbrev pub shelf_failed : MemShelf → CallList
shelf_failed shelf = failed_calls shelf.log

abbrev pub shelf_wants : MemShelf → ℕ
shelf_wants shelf = shelf.log.wants

abbrev pub shelf_view : MemShelf → ShelfView
shelf_view shelf =
    record { tells = true; content = shelf_content shelf; failed = shelf_failed shelf; wants = shelf_wants shelf }

-- the numbers of the calls that fail, and how many calls were made
abbrev pub failing_calls : MemShelf → List ℕ
failing_calls shelf = shelf.failing.items

abbrev pub calls_made : MemShelf → ℕ
calls_made shelf = shelf.calls

-- whether the next call is listed as failing
abbrev pub fails_next : MemShelf → Bool
fails_next shelf = is_listed (failing_calls shelf) (calls_made shelf)

-- the bytes that a read of a name gives, if memory is found, or `None` where it fails: at a listed
-- call, and where the name is missing
abbrev pub readable_bytes : MemShelf → List ℕ → Option (List ℕ)
readable_bytes shelf name = if fails_next shelf then None else held_bytes shelf name

-- a read gives these bytes, or fails where there are none, or wants memory
abbrev pub AnswersRead : Option (List ℕ) → Result (Vec ℕ Global) ShelfFault → Type 0
AnswersRead answer (Ok bytes) = answer ≡ Some bytes.items
AnswersRead answer (Err Failed) = answer ≡ None
AnswersRead answer (Err Memory) = ⊤

-- a write fails exactly at a listed call, or wants memory
abbrev pub AnswersWrite : Bool → Result (Unit {0}) ShelfFault → Type 0
AnswersWrite listed (Ok done) = IsFalse listed
AnswersWrite listed (Err Failed) = IsTrue listed
AnswersWrite listed (Err Memory) = ⊤

-- what storing leaves; a want of memory is not counted yet
abbrev pub StoreLeaves : List ℕ → List ℕ → Result (Unit {0}) ShelfFault → ShelfView → ShelfView → Type 0
StoreLeaves name bytes (Ok done) old new = SetsName name bytes old new
StoreLeaves name bytes (Err Failed) old new = LosesName name old new
StoreLeaves name bytes (Err Memory) old new = new ≡ old

-- what every call does: it counts, whatever it answers, and the listed calls stay as they were
pub record CountsCall (old new : MemShelf) : Type 0 where
  pub calls : calls_made new ≡ next_count (calls_made old)
  pub listed : failing_calls new ≡ failing_calls old

-- a shelf that was just made of these entries, and fails at the listed calls
pub record IsMade (shelf : MemShelf) (entries : List (String Global × Vec ℕ Global)) (listed : List ℕ) : Type 0 where
  pub content : (name : List ℕ) → held_bytes shelf name ≡ content_of entries name
  pub failing : failing_calls shelf ≡ listed
  pub calls : calls_made shelf ≡ 0
  pub failed : shelf_failed shelf ≡ []
  pub wants : shelf_wants shelf ≡ 0
