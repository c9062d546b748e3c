-- What a `MemSink` holds, and which of its puts fail.
use Rattle.std.specs.Prelude.{◌≡◌, ℕ, ◌+◌, Bool, ◌||◌, nat_lt, List, [], length, Some}
use Rattle.shelf_io.specs.Counts.{is_listed, next_count}
use Rattle.shelf_io.specs.Sink.{SinkView}
use Rattle.shelf_io.specs.declared.memory_sink.MemSink.{MemSink}

-- the bytes so far, and how many the sink keeps at most
abbrev pub sink_bytes : MemSink → List ℕ
sink_bytes sink = sink.bytes.items

abbrev pub sink_limit : MemSink → ℕ
sink_limit sink = sink.limit

-- the numbers of the puts that fail, and how many puts were made
abbrev pub failing_puts : MemSink → List ℕ
failing_puts sink = sink.failing.items

abbrev pub puts_made : MemSink → ℕ
puts_made sink = sink.puts

-- how many puts failed
abbrev pub sink_faults : MemSink → ℕ
sink_faults sink = sink.faults

abbrev pub sink_view : MemSink → SinkView
sink_view sink = record { told = Some (sink_bytes sink); faults = sink_faults sink }

-- whether the next put fails with this piece: it is listed, or the piece doesn't fit
abbrev pub refuses : MemSink → List ℕ → Bool
refuses sink piece =
    is_listed (failing_puts sink) (puts_made sink) || nat_lt (sink_limit sink) (length (sink_bytes sink) + length piece)

-- a sink that was just made
pub record IsMade (sink : MemSink) (capacity : ℕ) (listed : List ℕ) : Type 0 where
  pub bytes : sink_bytes sink ≡ []
  pub limit : sink_limit sink ≡ capacity
  pub failing : failing_puts sink ≡ listed
  pub puts : puts_made sink ≡ 0
  pub faults : sink_faults sink ≡ 0

-- what every put does: it counts, whatever it answers, and what was set beforehand stays
pub record CountsPut (old new : MemSink) : Type 0 where
  pub puts : puts_made new ≡ next_count (puts_made old)
  pub listed : failing_puts new ≡ failing_puts old
  pub limit : sink_limit new ≡ sink_limit old
