-- What a sink shows, and what a put leaves.
use Rattle.std.specs.Prelude.{◌≡◌, ℕ, List, take, Option, Result, Ok, Err}
use Rattle.std.specs.Io.KnownBytes.{Appends}
use Rattle.shelf_io.specs.Counts.{Rose}
use Rattle.shelf_io.specs.declared.sinks.SinkFault.{SinkFault}

-- what is to be seen of a sink: the bytes so far, where it tells them, and how many puts failed
pub record SinkView : Type 0 where
  pub told : Option (List ℕ)
  pub faults : ℕ

-- a piece went to the sink
pub record PutAll (piece : List ℕ) (old new : SinkView) : Type 0 where
  pub told : Appends old.told new.told piece
  pub faults : new.faults ≡ old.faults

-- a put failed: the count of faults rose, and a prefix of the piece went to the sink
pub record PutSome (piece : List ℕ) (old new : SinkView) : Type 0 where
  pub count : ℕ
  pub told : Appends old.told new.told (take count piece)
  pub rose : Rose old.faults new.faults

abbrev pub Puts : List ℕ → Result (Unit {0}) SinkFault → SinkView → SinkView → Type 0
Puts piece (Ok done) old new = PutAll piece old new
Puts piece (Err fault) old new = PutSome piece old new
