-- What `mix` makes of a file, a board and several inputs with weights, and what `checkmix` tells of a certificate for them.
use Rattle.std.specs.Prelude.{◌≡◌, ◌⊎◌, ℕ, Bool, List, [], ◌∷◌, ◌++◌, Option, Some, None}
use Rattle.std.specs.List.{All}
use Rattle.elf_reader.specs.File.{view_in}
use Rattle.board_config.specs.declared.board.Board.{Board}
use Rattle.object_machine.specs.declared.events.Outcome.{Outcome}
use Rattle.object_machine.specs.declared.events.Outcome.TheVariants.{AddressFault}
use Rattle.placement_programme.specs.Plain.{PlainProgramme, PlainChoice}
use Rattle.printed_lines.specs.Endings.{IsAddressFault}
use Rattle.relink_core.specs.Findings.{Findings}
use Rattle.relinking.specs.Runs.{RunsProgram}
use Rattle.relinking.specs.Relink.{IsResult}
use Rattle.relinking.specs.Report.{IsRelinkReport}
use Rattle.command_language.specs.FaultLine.{Parts, address_parts, mix_parts, parts_of}
use Rattle.command_language.specs.declared.faults.CommandFault.{CommandFault}
use Rattle.command_language.specs.declared.faults.CommandFault.TheVariants as command_fault
use Rattle.command_line.specs.Analysed.{Accepts, ReportsAnalysed}
use Rattle.command_line.specs.CheckFile.{ReportsText, ReportsCertificate}
use Rattle.command_language.specs.Lines.{MixLine, broken_at, mix_lines}
use Rattle.relinking.specs.MixOfRuns.{WeightedInput, StatesTogether}

-- the inputs of the lines, in their order
abbrev pub inputs_of : List MixLine → List (List ℕ) → List WeightedInput
inputs_of [] texts = []
inputs_of (l ∷ ls) [] = []
inputs_of (l ∷ ls) (text ∷ texts) = record { weight = l.weight; bytes = text } ∷ inputs_of ls texts

-- ---- what is made

-- the runs of a file's program on several inputs state this programme
pub record StatesOfAll (file : List ℕ) (board : Board) (inputs : List WeightedInput) (p : PlainProgramme) : Type 0 where
  pub found : Findings file board
  pub states : StatesTogether (view_in file) board found.graph found.code found.regions found.pieces inputs p

-- The choice is one of the programme that the runs state, and the certificate says whether it is a best one. The result
-- realises it and keeps the file's meaning, on any input.
pub record MixesTo (file board_text : List ℕ) (inputs : List WeightedInput) (certificate out report : List ℕ) : Type 0 where
  pub board : Board
  pub accepts : Accepts board_text file board
  pub programme : PlainProgramme
  pub states : StatesOfAll file board inputs programme
  pub choice : PlainChoice
  pub says_optimal : Bool
  pub result : IsResult file board states.found.graph states.found.code states.found.regions programme choice says_optimal certificate out
  pub is_report : IsRelinkReport (view_in file) board states.found.graph states.found.code programme choice says_optimal report

-- the text's certificate is one for the programme that the runs state, and the report is on its choice
pub record ChecksMixTo (file board_text : List ℕ) (inputs : List WeightedInput) (text report : List ℕ) : Type 0 where
  pub board : Board
  pub accepts : Accepts board_text file board
  pub programme : PlainProgramme
  pub states : StatesOfAll file board inputs programme
  pub reports : ReportsText programme board.nodes text report

-- ---- what is told of the first fault

-- the program meets no address fault on an input
pub record RunsWell (file : List ℕ) (board : Board) (input : WeightedInput) : Type 0 where
  pub outcome : Outcome
  pub runs : RunsProgram file board input.bytes outcome
  pub no_address_fault : IsAddressFault outcome → ⊥

-- those of the board and the file come before the runs, and of these the first that meets an address fault decides
pub data ReportsRuns (board_text file : List ℕ) (inputs : List WeightedInput) (told : Option Parts) : Type 0 where
  of_files : (parts : Parts) → ReportsAnalysed board_text file parts → told ≡ Some parts
      → ReportsRuns board_text file inputs told
  of_run : (board : Board) (before after : List WeightedInput) (one : WeightedInput) (pc why : ℕ) → Accepts board_text file board
      → inputs ≡ before ++ one ∷ after → All (RunsWell file board) before
      → RunsProgram file board one.bytes (AddressFault pc why) → told ≡ Some (address_parts pc why)
      → ReportsRuns board_text file inputs told
  of_none : (board : Board) → Accepts board_text file board → All (RunsWell file board) inputs → told ≡ None
      → ReportsRuns board_text file inputs told

-- the fault of the list comes first, before any input is read
pub data ReportsMixed (written : List (List ℕ)) (board_text file mix : List ℕ) (texts : List (List ℕ)) (told : Option Parts) : Type 0 where
  of_list : (at : ℕ) → broken_at written mix ≡ Some at → told ≡ Some (mix_parts at)
      → ReportsMixed written board_text file mix texts told
  of_runs : broken_at written mix ≡ None → ReportsRuns board_text file (inputs_of (mix_lines mix) texts) told
      → ReportsMixed written board_text file mix texts told

-- those of a certificate come behind those of the runs
pub data ReportsCheckedRuns (board_text file : List ℕ) (inputs : List WeightedInput) (text : List ℕ) (told : Option Parts) : Type 0 where
  of_inputs : (parts : Parts) → ReportsRuns board_text file inputs (Some parts) → told ≡ Some parts
      → ReportsCheckedRuns board_text file inputs text told
  of_certificate : (board : Board) (programme : PlainProgramme) → Accepts board_text file board
      → StatesOfAll file board inputs programme → ReportsCertificate programme text told
      → ReportsCheckedRuns board_text file inputs text told

pub data ReportsMixChecked (board_text file mix text : List ℕ) (texts : List (List ℕ)) (told : Option Parts) : Type 0 where
  of_checked_list : (at : ℕ) → broken_at [] mix ≡ Some at → told ≡ Some (mix_parts at)
      → ReportsMixChecked board_text file mix text texts told
  of_checked_runs : broken_at [] mix ≡ None → ReportsCheckedRuns board_text file (inputs_of (mix_lines mix) texts) text told
      → ReportsMixChecked board_text file mix text texts told

-- computations on the inputs of a mix were rejected: for want of memory, or by the first fault
abbrev pub RejectsRuns : List ℕ → List ℕ → List WeightedInput → CommandFault → Type 0
RejectsRuns board_text file inputs fault =
    (fault ≡ command_fault.Memory) ⊎ ReportsRuns board_text file inputs (Some (parts_of fault))

abbrev pub RejectsCheckedRuns : List ℕ → List ℕ → List WeightedInput → List ℕ → CommandFault → Type 0
RejectsCheckedRuns board_text file inputs text fault =
    (fault ≡ command_fault.Memory) ⊎ ReportsCheckedRuns board_text file inputs text (Some (parts_of fault))
