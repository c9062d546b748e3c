-- What an `OutSink` writes to, and what it counts.
use Rattle.std.specs.Prelude.{ℕ, List, take, Option, Result, Ok, Err}
use Rattle.std.specs.Io.KnownBytes.{Appends}
use Rattle.shelf_io.specs.Sink.{SinkView}
use Rattle.shelf_io.specs.declared.sinks.SinkFault.{SinkFault}
use Rattle.shelf_io.specs.declared.output.OutSink.{OutSink}

-- the writer
abbrev pub sink_writer : {W : Type 0} → OutSink W → W
sink_writer sink = sink.out

-- how many puts failed
abbrev pub sink_faults : {W : Type 0} → OutSink W → ℕ
sink_faults sink = sink.faults

-- a writer took a piece, or at a fault some prefix of it
abbrev pub Writes : List ℕ → Result (Unit {0}) SinkFault → Option (List ℕ) → Option (List ℕ) → Type 0
Writes piece (Ok done) old new = Appends old new piece
Writes piece (Err fault) old new = (n : ℕ) × Appends old new (take n piece)

-- it tells what its writer tells
abbrev pub sink_view : {W : Type 0} → (W → Option (List ℕ)) → OutSink W → SinkView
sink_view contents sink = record { told = contents (sink_writer sink); faults = sink_faults sink }
