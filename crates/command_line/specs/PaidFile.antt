-- What `paid` tells of a file, a board, an input and a certificate: what the run costs with the certificate's choice by the
-- model, and what the file that realises it pays on the flat machine.
use Rattle.std.specs.Prelude.{◌≡◌, ◌⊎◌, ℕ, pos, Bool, List, [], ◌∷◌, ◌++◌, codes, length, Option, Some, None, option_map}
use Rattle.std.specs.Fmt.{decimal}
use Rattle.elf_reader.specs.Faults.{first_fault}
use Rattle.board_config.specs.declared.board.Board.{Board}
use Rattle.flat_machine.specs.State.{State}
use Rattle.flat_machine.specs.declared.events.FlatOutcome.{FlatOutcome}
use Rattle.flat_machine.specs.declared.events.FlatOutcome.TheVariants as flat
use Rattle.object_machine.specs.declared.events.Outcome.{Outcome}
use Rattle.object_machine.specs.declared.events.Outcome.TheVariants.{Exited}
use Rattle.placement_programme.specs.Plain.{PlainProgramme, PlainChoice}
use Rattle.placement_programme.specs.Programme.{energy}
use Rattle.placement_programme.specs.Views.{plain_programme}
use Rattle.energy_model.specs.Energy.{Taken, is_nothing}
use Rattle.energy_model.specs.Scenes.{scene_of}
use Rattle.placement_candidates.specs.Whole.{taken_of as names_taken}
use Rattle.result_laws.specs.HomeLaws.{file_start}
use Rattle.relink_core.specs.Placed.{taken_of, Realises}
use Rattle.relink_core.specs.ResultFaults.{IsOfSize}
use Rattle.relinking.specs.ProgrammeOfRun.{CountsProgramme}
use Rattle.relinking.specs.declared.stating.MeasuredProgramme.{MeasuredProgramme}
use Rattle.paid_energy.specs.FlatRuns.{PaysRun}
use Rattle.paid_energy.specs.Inward.{inward_calls, counted_inward}
use Rattle.paid_energy.specs.Laws.{enough_steps, IsPairedWhereNothing}
use Rattle.printed_lines.specs.Endings.{ending_text}
use Rattle.command_language.specs.FaultLine.{Parts, elf_parts, parts_of}
use Rattle.command_language.specs.declared.faults.CommandFault.{CommandFault}
use Rattle.command_language.specs.declared.faults.CommandFault.TheVariants as command_fault
use Rattle.command_line.specs.Analysed.{Accepts}
use Rattle.command_line.specs.declared.opened.Opened.{Opened}
use Rattle.command_line.specs.ProgramRun.{StatesOf}
use Rattle.command_line.specs.RunFile.{outcome_text}
use Rattle.command_line.specs.CheckFile.{AcceptsChoice, ReportsChecked}

-- ---- lines

-- how the program ended, and `modelled E`
abbrev pub modelled_text : Outcome → ℕ → List ℕ
modelled_text outcome modelled = ending_text outcome ++ (codes "\nmodelled " ++ (decimal modelled ++ 10 ∷ []))

-- how the result ended, `paid E` and `inward N`
abbrev pub paid_text : FlatOutcome → ℕ → ℕ → List ℕ
paid_text outcome paid inward =
    outcome_text outcome ++ (codes "\npaid " ++ (decimal paid ++ (codes "\ninward " ++ (decimal inward ++ 10 ∷ []))))

-- ---- the result

-- the choice of a certificate for the programme that the run states, and the file that realises it
pub record MakesOf (file : List ℕ) (board : Board) (input cert out : List ℕ) : Type 0 where
  pub programme : PlainProgramme
  pub states : StatesOf file board input programme
  pub choice : PlainChoice
  pub says_optimal : Bool
  pub accepted : AcceptsChoice programme cert says_optimal choice
  pub realises : Realises file board states.found.graph states.found.code states.found.regions (taken_of programme choice) out

-- whether nothing is moved, and the inward calls of the measured run
abbrev pub moves_nothing : (file : List ℕ) (board : Board) (input cert out : List ℕ) → MakesOf file board input cert out → Bool
moves_nothing file board input cert out m = is_nothing (names_taken m.programme m.choice)

abbrev pub inward_in : (file : List ℕ) (board : Board) (input cert out : List ℕ) → MakesOf file board input cert out → ℕ
inward_in file board input cert out m =
    inward_calls (scene_of m.states.found.graph m.states.found.code m.states.found.regions board) m.states.found.code
    (names_taken m.programme m.choice) m.states.states.transitions

-- the measured run is paired, where nothing is moved
abbrev pub IsPairedFor : (file : List ℕ) (board : Board) (input cert out : List ℕ) → MakesOf file board input cert out → Type 0
IsPairedFor file board input cert out m =
    IsPairedWhereNothing (moves_nothing file board input cert out m) file board m.states.found.graph input board.steps m.states.states.last

-- ---- the run of the result

-- The result, run until it ends or so many steps were taken, pays so much. It exits with the code of the program, and where no
-- call of the run is inward it pays what is modelled
pub record Pays (file : List ℕ) (board : Board) (input cert out : List ℕ) (m : MakesOf file board input cert out) (modelled code : ℕ) (text : List ℕ) : Type 0 where
  pub outcome : FlatOutcome
  pub steps : ℕ
  pub paid : ℕ
  pub run : PaysRun board (enough_steps board (moves_nothing file board input cert out m) (length m.states.states.transitions)) (file_start out board input) outcome steps paid
  pub exits : IsPairedFor file board input cert out m → outcome ≡ flat.Exited code
  pub equal : IsPairedFor file board input cert out m → inward_in file board input cert out m ≡ 0 → paid ≡ modelled
  pub text_is : text ≡ paid_text outcome paid (inward_in file board input cert out m)

-- it is run where the program exited
abbrev pub WhereExited : Outcome → (ℕ → List ℕ → Type 0) → List ℕ → Type 0
WhereExited (Exited code) told text = told code text
WhereExited other told text = text ≡ []

-- ---- the command

-- the file is read again, and the lines tell how the program ended, what its run costs by the model, and what the file pays
pub record PaysTo (file board_text input cert text : List ℕ) : Type 0 where
  pub board : Board
  pub accepts : Accepts board_text file board
  pub out : List ℕ
  pub makes : MakesOf file board input cert out
  pub sound : first_fault out ≡ None
  pub modelled : ℕ
  pub modelled_is : pos modelled ≡ energy makes.programme makes.choice
  pub behind : List ℕ
  pub lines : WhereExited makes.states.states.last.outcome (Pays file board input cert out makes modelled) behind
  pub text_is : text ≡ modelled_text makes.states.states.last.outcome modelled ++ behind

-- what is told of the first fault, if there is one: those that `check` tells come before that of the file that is made,
-- which is of its size
pub data ReportsPaid (board_text file input cert : List ℕ) (told : Option Parts) : Type 0 where
  of_check : (parts : Parts) → ReportsChecked board_text file input cert (Some parts) → told ≡ Some parts
      → ReportsPaid board_text file input cert told
  of_result : (board : Board) (out : List ℕ) → Accepts board_text file board → MakesOf file board input cert out → IsOfSize (first_fault out)
      → told ≡ option_map elf_parts (first_fault out) → ReportsPaid board_text file input cert told

-- a computation on the inputs was rejected: for want of memory, or by the first fault
abbrev pub RejectsPaid : List ℕ → List ℕ → List ℕ → List ℕ → CommandFault → Type 0
RejectsPaid board_text file input cert fault =
    (fault ≡ command_fault.Memory) ⊎ ReportsPaid board_text file input cert (Some (parts_of fault))

-- ---- parts of the command

-- what a run of an opened file states is counted
abbrev pub CountsFor : Opened → List ℕ → MeasuredProgramme → Type 0
CountsFor o input m =
    CountsProgramme o.analysis.view o.board o.analysis.graph o.analysis.code o.analysis.regions o.analysis.pieces.items input (plain_programme m.programme) m.profile

abbrev pub taken_in : MeasuredProgramme → PlainChoice → Taken
taken_in m choice = names_taken (plain_programme m.programme) choice

-- the flat machine, started so, pays so much, and the lines tell of it
pub record RunsMade (o : Opened) (m : MeasuredProgramme) (choice : PlainChoice) (start : State) (text : List ℕ) : Type 0 where
  pub outcome : FlatOutcome
  pub steps : ℕ
  pub paid : ℕ
  pub run : PaysRun o.board (enough_steps o.board (is_nothing (taken_in m choice)) m.profile.steps) start outcome steps paid
  pub text_is : text ≡ paid_text outcome paid (counted_inward (scene_of o.analysis.graph o.analysis.code o.analysis.regions o.board) o.analysis.code (taken_in m choice) m.profile)

-- the lines tell what is modelled, and of that run where the program exited
pub record TellsRun (o : Opened) (m : MeasuredProgramme) (choice : PlainChoice) (start : State) (text : List ℕ) : Type 0 where
  pub modelled : ℕ
  pub modelled_is : pos modelled ≡ energy (plain_programme m.programme) choice
  pub behind : List ℕ
  pub lines : WhereExited m.profile.outcome (λ code. RunsMade o m choice start) behind
  pub text_is : text ≡ modelled_text m.profile.outcome modelled ++ behind

-- a file realises the choice and is read, and the lines tell of it
pub record MakesLines (file : List ℕ) (o : Opened) (m : MeasuredProgramme) (choice : PlainChoice) (input text : List ℕ) : Type 0 where
  pub out : List ℕ
  pub realises : Realises file o.board o.analysis.graph o.analysis.code o.analysis.regions (taken_of (plain_programme m.programme) choice) out
  pub sound : first_fault out ≡ None
  pub tells : TellsRun o m choice (file_start out o.board input) text

-- it has a fault
pub record HasFault (file : List ℕ) (o : Opened) (p : PlainProgramme) (choice : PlainChoice) (told : Option Parts) : Type 0 where
  pub out : List ℕ
  pub realises : Realises file o.board o.analysis.graph o.analysis.code o.analysis.regions (taken_of p choice) out
  pub told_is : told ≡ option_map elf_parts (first_fault out)

abbrev pub RejectsMade : List ℕ → Opened → PlainProgramme → PlainChoice → CommandFault → Type 0
RejectsMade file o p choice fault = (fault ≡ command_fault.Memory) ⊎ HasFault file o p choice (Some (parts_of fault))
