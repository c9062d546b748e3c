-- Where two maps of bytes differ.
use Rattle.std.specs.Prelude.{◌≡◌, ◌≢◌, ◌⊎◌, ℕ, ◌<◌, ◌≤◌, min, List, [], ◌∷◌, Option, Some, None}
use Rattle.elf_reader.specs.File.{plain_segment}
use Rattle.elf_reader.specs.declared.view.Segment.{Segment}
use Rattle.hex_image.specs.Runs.{ByteMap, PlainRun, run_end, segment_run}

abbrev pub IsBetween : ℕ → ℕ → ℕ → Type 0
IsBetween first behind address = (first ≤ address) × (address < behind)

abbrev pub IsInRun : PlainRun → ℕ → Type 0
IsInRun run address = IsBetween run.start (run_end run) address

-- an address of one of the runs that a list holds
abbrev pub IsInOne : {X : Type 0} → (X → PlainRun) → List X → ℕ → Type 0
IsInOne run_of [] address = ⊥
IsInOne run_of (x ∷ xs) address = IsInRun (run_of x) address ⊎ IsInOne run_of xs address

abbrev pub view_run : Segment → PlainRun
view_run segment = segment_run (plain_segment segment)

-- the first of some addresses at which two maps differ, if they do at any of them
abbrev pub IsFirstOff : (ℕ → Type 0) → ByteMap → ByteMap → Option ℕ → Type 0
IsFirstOff IsAmong one other None = (address : ℕ) → IsAmong address → one address ≡ other address
IsFirstOff IsAmong one other (Some first) =
    (one first ≢ other first) × ((address : ℕ) → address < first → IsAmong address → one address ≡ other address)

abbrev pub lesser_of : Option ℕ → Option ℕ → Option ℕ
lesser_of None other = other
lesser_of (Some one) None = Some one
lesser_of (Some one) (Some other) = Some (min one other)

-- an address at which two maps differ, and below which they don't
pub record DiffersFirst (one other : ByteMap) (address : ℕ) : Type 0 where
  pub here : one address ≢ other address
  pub below : (earlier : ℕ) → earlier < address → one earlier ≡ other earlier

abbrev pub AreSame : ByteMap → ByteMap → Type 0
AreSame one other = (address : ℕ) → one address ≡ other address

-- the first difference of a file's bytes and entry from those of an image: none where all are the same;
-- else the least address at which the bytes differ, and the entry where they are the same
abbrev pub IsDifference : ByteMap → ℕ → ByteMap → Option ℕ → Option ℕ → Type 0
IsDifference file entry image start None = AreSame file image × (start ≡ Some entry)
IsDifference file entry image start (Some address) =
    DiffersFirst file image address ⊎ (AreSame file image × (start ≢ Some entry) × (address ≡ entry))
