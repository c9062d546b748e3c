-- What each answer of the top call says of the outside.
use Rattle.std.specs.Prelude.{◌≡◌, ◌⊎◌, ℕ, List, [], ◌∷◌, Option, Some, None}
use Rattle.shelf_io.specs.Counts.{Rose}
use Rattle.command_language.specs.Command.{PlainCommand, IsCommand, Named, writes}
use Rattle.command_language.specs.FaultLine.{Parts, fault_line, status_of, parts_of}
use Rattle.shelf_io.specs.Shelf.{ShelfView, LogsFailed}
use Rattle.relinking.specs.declared.measuring.MeasuredEnd.{MeasuredEnd}
use Rattle.shelf_io.specs.Sink.{SinkView, PutAll, PutSome}
use Rattle.shelf_io.specs.declared.shelves.CallKind.TheVariants.{Read}
use Rattle.command_files.specs.Writing.{SetsAll, LosesOne, WantsInOne}
use Rattle.command_line.specs.Meaning.{IsFirst}
use Rattle.command_line.specs.Performing.{YieldsOf, TellsEndOf}
use Rattle.command_line.specs.Listing.{all_reads, HoldsInputs, ReadsName}
use Rattle.command_files.specs.Diagnostic.{IsDiagnosticOf, PutsLine}
use Rattle.command_files.specs.declared.diagnostic.Diagnostic.{Diagnostic}
use Rattle.command_language.specs.declared.faults.CommandFault.{CommandFault}
use Rattle.command_language.specs.declared.faults.CommandFault.TheVariants as command_fault

-- a command of these words yields outputs and a text of what the shelf holds
pub record Produces (words : List (List ℕ)) (outputs : List (List ℕ)) (text : List ℕ) (shelf : ShelfView) : Type 0 where
  pub command : PlainCommand
  pub is_command : IsCommand words command
  pub of_shelf : YieldsOf command outputs text shelf

-- the outputs stand under their names and nothing else changed; the text is to be printed
pub record Delivers (words : List (List ℕ)) (text : List ℕ) (old new : ShelfView) : Type 0 where
  pub outputs : List (List ℕ)
  pub produces : Produces words outputs text old
  pub set : SetsAll (writes produces.command) outputs old new

-- status 0: the command did what it is for, and its text was printed
pub record IsDone (words : List (List ℕ)) (old new : ShelfView) (sink sink' : SinkView)
    : Type 0 where
  pub text : List ℕ
  pub delivers : Delivers words text old new
  pub printed : PutAll text sink sink'

-- a command of these words tells so of the run that it measures
pub record TellsRun (words : List (List ℕ)) (told : Option MeasuredEnd) (shelf : ShelfView) : Type 0 where
  pub command : PlainCommand
  pub is_command : IsCommand words command
  pub of_shelf : TellsEndOf command told shelf

-- a read of a name of the command failed in this call
pub record ReadFails (words : List (List ℕ)) (place : ℕ) (old new : ShelfView) : Type 0 where
  pub command : PlainCommand
  pub is_command : IsCommand words command
  pub read : Named
  pub is_read : ReadsName old command read
  pub place_is : place ≡ read.place
  pub logged : LogsFailed Read read.name old new

-- a write of a name of the command failed in this call: only that name's content is unknown, and the
-- writes before it stand
pub record WriteFails (words : List (List ℕ)) (place : ℕ) (old new : ShelfView) : Type 0 where
  pub outputs : List (List ℕ)
  pub text : List ℕ
  pub produces : Produces words outputs text old
  pub lost : LosesOne (writes produces.command) outputs place old new

-- the result was written, but its text could not be printed
pub record PrintFails (words : List (List ℕ)) (place : ℕ) (old new : ShelfView) (sink mid : SinkView)
    : Type 0 where
  pub place_is : place ≡ 0
  pub text : List ℕ
  pub delivers : Delivers words text old new
  pub printed : PutSome text sink mid

-- what the command read has this first fault
pub record InputFails (words : List (List ℕ)) (fault : CommandFault) (old new : ShelfView) : Type 0 where
  pub command : PlainCommand
  pub is_command : IsCommand words command
  pub inputs : List (List ℕ)
  pub holds : HoldsInputs old command inputs
  pub first : IsFirst command inputs (Some (parts_of fault))
  pub same : new ≡ old

-- memory was wanting before the first write: nothing changed, but that a read that failed is logged, whose fault line
-- could not be made
abbrev pub WantsBeforeWriting : List (List ℕ) → ShelfView → ShelfView → Type 0
WantsBeforeWriting words old new = (new ≡ old) ⊎ ((place : ℕ) × ReadFails words place old new)

-- a write of the command wanted memory: nothing but its count of wants rose, and the writes before it stand
pub record WriteWantsMemory (words : List (List ℕ)) (old new : ShelfView) : Type 0 where
  pub outputs : List (List ℕ)
  pub text : List ℕ
  pub produces : Produces words outputs text old
  pub wants : WantsInOne (writes produces.command) outputs old new

-- no word is spelled so that the words are a command
abbrev pub IsNoCommand : List (List ℕ) → Type 0
IsNoCommand words = (command : PlainCommand) → IsCommand words command → ⊥

-- why a command is rejected, and what that leaves of the shelf and, before the fault line, of the sink
abbrev pub Cause : CommandFault → List (List ℕ) → ShelfView → ShelfView → SinkView → SinkView → Type 0
Cause command_fault.Usage words old new sink mid = IsNoCommand words × (new ≡ old) × (mid ≡ sink)
Cause (command_fault.Read place) words old new sink mid = ReadFails words place old new × (mid ≡ sink)
Cause (command_fault.Write place) words old new sink mid =
    (WriteFails words place old new × (mid ≡ sink)) ⊎ PrintFails words place old new sink mid
Cause command_fault.Memory words old new sink mid =
    (WantsBeforeWriting words old new ⊎ WriteWantsMemory words old new) × (mid ≡ sink)
Cause fault words old new sink mid = InputFails words fault old new × (mid ≡ sink)

-- a fault whose line is still to be put, and why it came
pub record HasCause (words : List (List ℕ)) (old new : ShelfView) (sink mid : SinkView) (r : Diagnostic)
    : Type 0 where
  pub fault : CommandFault
  pub prepared : IsDiagnosticOf fault r
  pub cause : Cause fault words old new sink mid

-- The command was rejected, and its fault line went to the sink, or a prefix of it where the put
-- failed too.
pub record IsRejected (fault : CommandFault) (words : List (List ℕ)) (old new : ShelfView) (sink sink' : SinkView)
    : Type 0 where
  pub mid : SinkView
  pub cause : Cause fault words old new sink mid
  pub line : PutsLine (fault_line fault) mid sink'

-- the call ended with the status of a fault, and that fault is the reason
pub record EndsRejected (status : ℕ) (words : List (List ℕ)) (old new : ShelfView) (sink sink' : SinkView)
    : Type 0 where
  pub fault : CommandFault
  pub status_is : status ≡ status_of fault
  pub rejected : IsRejected fault words old new sink sink'

-- the status that inputs with this first fault call for where nothing outside fails
abbrev pub expected_status : Option Parts → ℕ
expected_status None = 0
expected_status (Some told) = told.status

-- the status is the one that the inputs call for
pub record AnswersInputs (status : ℕ) (command : PlainCommand) (inputs : List (List ℕ)) : Type 0 where
  pub told : Option Parts
  pub first : IsFirst command inputs told
  pub status_is : status ≡ expected_status told

-- nothing outside failed in the call
pub record NothingFailed (old new : ShelfView) (sink sink' : SinkView)
    : Type 0 where
  pub no_call : new.failed ≡ old.failed
  pub no_put : Rose sink.faults sink'.faults → ⊥

-- words that are no command have status 1, or 9
abbrev pub AnswersUsage : ℕ → List (List ℕ) → Type 0
AnswersUsage status words = IsNoCommand words → (status ≡ 1) ⊎ (status ≡ 9)

-- the shelf tells these texts under these names
abbrev pub ReportsAll : ShelfView → List Named → List (List ℕ) → Type 0
ReportsAll shelf [] [] = Unit
ReportsAll shelf [] (text ∷ texts) = ⊥
ReportsAll shelf (n ∷ names) [] = ⊥
ReportsAll shelf (n ∷ names) (text ∷ texts) = (shelf.content n.name ≡ Some (Some text)) × ReportsAll shelf names texts

-- so it does under those that a command reads
abbrev pub ReportsInputs : ShelfView → PlainCommand → List (List ℕ) → Type 0
ReportsInputs shelf command inputs = ReportsAll shelf (all_reads command inputs) inputs

-- a command whose names the shelf tells, in a call in which nothing outside fails, has the status that
-- they call for, or 9
abbrev pub AnswersCommand : ℕ → List (List ℕ) → ShelfView → ShelfView → SinkView → SinkView → Type 0
AnswersCommand status words old new sink sink' =
    (command : PlainCommand) (inputs : List (List ℕ))
    → IsCommand words command
    → ReportsInputs old command inputs
    → NothingFailed old new sink sink'
    → AnswersInputs status command inputs ⊎ (status ≡ 9)

-- each status comes exactly where it is called for, but that memory may be wanting
abbrev pub Answers : ℕ → List (List ℕ) → ShelfView → ShelfView → SinkView → SinkView → Type 0
Answers status words old new sink sink' = AnswersUsage status words × AnswersCommand status words old new sink sink'
