-- The text that tells the steps of a trace.
use Rattle.std.specs.Prelude.{ℕ, Bool, true, false, List, [], ◌∷◌, ◌++◌, codes, Option, Some, None}
use Rattle.std.specs.Fmt.{decimal}
use Rattle.std.specs.List.{flat_map}
use Rattle.elf_reader.specs.File.{PlainView}
use Rattle.loaded_file.specs.Records.{symbol_at}
use Rattle.object_graph.specs.Graphs.{object_at}
use Rattle.object_graph.specs.declared.parts.Object.{Object}
use Rattle.printed_lines.specs.ProfileLines.{address_text}
use Rattle.compare_runner.specs.declared.marks.TracedAccess.{TracedAccess}
use Rattle.compare_runner.specs.declared.marks.TracedStep.{TracedStep}

-- ---- text

abbrev pub kind_text : Bool → List ℕ
kind_text true = codes " w "
kind_text false = codes " r "

-- ` OFFSET 0xADDR`
abbrev pub offset_text : TracedAccess → List ℕ
offset_text a = codes " " ++ (decimal a.offset ++ (codes " " ++ address_text a.at))

-- ` r NAME OFFSET 0xADDR` or ` w NAME OFFSET 0xADDR`, with the name of the object's first symbol
abbrev pub named_text : PlainView → List Object → TracedAccess → List ℕ
named_text v objects a = kind_text a.write ++ ((symbol_at v (object_at objects a.object).name).name ++ offset_text a)

abbrev pub access_text : PlainView → List Object → Option TracedAccess → List ℕ
access_text v objects None = []
access_text v objects (Some a) = named_text v objects a

-- `0xHOME 0xPC K`
unfoldable pub place_text : TracedStep → List ℕ
place_text x = address_text x.home ++ (codes " " ++ (address_text x.at ++ (codes " " ++ decimal x.steps)))

abbrev pub step_text : PlainView → List Object → TracedStep → List ℕ
step_text v objects x = place_text x ++ (access_text v objects x.access ++ 10 ∷ [])

-- `start M`, and a line for each step
abbrev pub start_text : ℕ → List ℕ
start_text start = codes "start " ++ (decimal start ++ 10 ∷ [])

abbrev pub trace_text : PlainView → List Object → ℕ → List TracedStep → List ℕ
trace_text v objects start steps = start_text start ++ flat_map (step_text v objects) steps
