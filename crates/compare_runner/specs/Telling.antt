-- What is told of a trace.
use Rattle.std.specs.Prelude.{◌≡◌, ℕ, Bool, List, length}
use Rattle.elf_reader.specs.File.{PlainView}
use Rattle.flat_machine.specs.State.{State}
use Rattle.object_graph.specs.declared.parts.Object.{Object}
use Rattle.object_machine.specs.State.{SourceState}
use Rattle.compare_runner.specs.declared.marks.TracedStep.{TracedStep}
use Rattle.compare_runner.specs.declared.tracing.TraceText.{TraceText}
use Rattle.compare_runner.specs.Marks.{trace_text}
use Rattle.compare_runner.specs.Tracing.{TracedProgram, Traces, IsTrace}

-- these steps are traced, and so many they are
abbrev pub TracesAs : TracedProgram → ℕ → ℕ → SourceState → State → List TracedStep → ℕ → Bool → Type 0
TracesAs w n region s t steps count lost = (count ≡ length steps) × Traces w n region s t steps lost

-- the text and the number of steps of the trace of both machines from their starts
pub record TellsTrace (v : PlainView) (objects : List Object) (w : TracedProgram) (n : ℕ) (s : SourceState) (t : State) (text : TraceText) : Type 0 where
  pub start : ℕ
  pub steps : List TracedStep
  pub trace : IsTrace w n s t start steps text.lost
  pub bytes : text.bytes.items ≡ trace_text v objects start steps
  pub count : text.steps ≡ length steps
