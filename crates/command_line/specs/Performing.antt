-- How a command goes, from its names to its result.
use Rattle.std.specs.Prelude.{◌≡◌, ◌⊎◌, ℕ, List, [], ◌++◌, length, Option}
use Rattle.shelf_io.specs.Shelf.{ShelfView}
use Rattle.relinking.specs.declared.measuring.MeasuredEnd.{MeasuredEnd}
use Rattle.shelf_io.specs.Sink.{SinkView, PutAll, PutSome}
use Rattle.printed_lines.specs.Texts.{text_of}
use Rattle.command_language.specs.Command.{PlainCommand, reads, writes}
use Rattle.command_files.specs.Reading.{RejectsReads}
use Rattle.command_line.specs.Listing.{further_reads, HoldsInputs, RejectsNames}
use Rattle.command_line.specs.Meaning.{Yields, RejectsInputs}
use Rattle.command_line.specs.Measured.{TellsEnd}
use Rattle.command_files.specs.Writing.{ArePrepared, SetsAll, LosesOne, WantsInOne}
use Rattle.command_files.specs.Diagnostic.{IsDiagnosticOf}
use Rattle.command_line.specs.declared.delivery.PreparedResult.{PreparedResult}
use Rattle.command_files.specs.declared.diagnostic.Diagnostic.{Diagnostic}
use Rattle.command_language.specs.declared.faults.CommandFault.{CommandFault}
use Rattle.command_language.specs.declared.faults.CommandFault.TheVariants as command_fault

-- the result of a command on these inputs, with the faults of the steps to come
pub record IsPreparedFor (command : PlainCommand) (inputs : List (List ℕ)) (prepared : PreparedResult) : Type 0 where
  pub outputs : List (List ℕ)
  pub yields : Yields command inputs outputs (text_of prepared.text)
  pub prepared_outputs : ArePrepared (writes command) outputs prepared.outputs.items
  pub print_fault : IsDiagnosticOf (command_fault.Write 0) prepared.print_fault
  pub measured : TellsEnd command inputs prepared.measured

-- the result stands ready, and the shelf is as before
pub record IsPrepared (command : PlainCommand) (prepared : PreparedResult) (old new : ShelfView) : Type 0 where
  pub inputs : List (List ℕ)
  pub holds : HoldsInputs old command inputs
  pub same : new ≡ old
  pub prepared_for : IsPreparedFor command inputs prepared

-- what was read is rejected
pub record InputsFail (command : PlainCommand) (old new : ShelfView) (fault : CommandFault) : Type 0 where
  pub inputs : List (List ℕ)
  pub holds : HoldsInputs old command inputs
  pub same : new ≡ old
  pub rejects : RejectsInputs command inputs fault

-- the list of further names was rejected: for want of memory, or by a line that breaks a rule, where no name is listed
pub data RejectsList (command : PlainCommand) (texts : List (List ℕ)) (fault : CommandFault) : Type 0 where
  list_wants_memory : fault ≡ command_fault.Memory → RejectsList command texts fault
  list_is_broken : further_reads command texts ≡ [] → RejectsInputs command texts fault → RejectsList command texts fault

-- so was reading what is listed: by the list, or by the read of a name
pub data RejectsListedOf (command : PlainCommand) (texts : List (List ℕ)) (old new : ShelfView) (fault : CommandFault) : Type 0 where
  list_fails : RejectsList command texts fault → new ≡ old → RejectsListedOf command texts old new fault
  read_fails : RejectsReads (further_reads command texts) old new fault → RejectsListedOf command texts old new fault

-- all that the command reads was read, as the shelf holds it
pub record ReadsInputs (command : PlainCommand) (texts listed : List (List ℕ)) (old new : ShelfView) : Type 0 where
  pub texts_size : length texts ≡ length (reads command)
  pub listed_size : length listed ≡ length (further_reads command texts)
  pub holds : HoldsInputs old command (texts ++ listed)
  pub same : new ≡ old

-- the result can't be made
abbrev pub RejectsPreparing : PlainCommand → ShelfView → ShelfView → CommandFault → Type 0
RejectsPreparing command old new fault =
    RejectsNames command old new fault ⊎ InputsFail command old new fault

-- the command yields these outputs and this text of what the shelf holds
pub record YieldsOf (command : PlainCommand) (outputs : List (List ℕ)) (text : List ℕ) (shelf : ShelfView) : Type 0 where
  pub inputs : List (List ℕ)
  pub holds : HoldsInputs shelf command inputs
  pub yields : Yields command inputs outputs text

-- the command's outputs were written and its text printed
pub record Performs (command : PlainCommand) (old new : ShelfView) (sink sink' : SinkView) : Type 0 where
  pub outputs : List (List ℕ)
  pub text : List ℕ
  pub of_shelf : YieldsOf command outputs text old
  pub set : SetsAll (writes command) outputs old new
  pub printed : PutAll text sink sink'

-- what the command tells of the run that it measures, of what the shelf holds
pub record TellsEndOf (command : PlainCommand) (told : Option MeasuredEnd) (shelf : ShelfView) : Type 0 where
  pub inputs : List (List ℕ)
  pub holds : HoldsInputs shelf command inputs
  pub tells : TellsEnd command inputs told

-- why a command is rejected, and what that leaves
pub data RejectsPerforming (command : PlainCommand) (old new : ShelfView) (sink mid : SinkView) (fault : CommandFault) : Type 0 where
  preparing_fails : RejectsPreparing command old new fault → mid ≡ sink
      → RejectsPerforming command old new sink mid fault
  write_fails : (outputs : List (List ℕ)) (text : List ℕ) (place : ℕ) → YieldsOf command outputs text old
      → fault ≡ command_fault.Write place → LosesOne (writes command) outputs place old new → mid ≡ sink
      → RejectsPerforming command old new sink mid fault
  print_fails : (outputs : List (List ℕ)) (text : List ℕ) → YieldsOf command outputs text old
      → fault ≡ command_fault.Write 0 → SetsAll (writes command) outputs old new → PutSome text sink mid
      → RejectsPerforming command old new sink mid fault
  line_wants_memory : (untold : CommandFault) → RejectsPreparing command old new untold → fault ≡ command_fault.Memory → mid ≡ sink
      → RejectsPerforming command old new sink mid fault
  write_wants_memory : (outputs : List (List ℕ)) (text : List ℕ) → YieldsOf command outputs text old
      → fault ≡ command_fault.Memory → WantsInOne (writes command) outputs old new → mid ≡ sink
      → RejectsPerforming command old new sink mid fault

-- a fault with its line, and why it came
pub record IsRejectedBy (command : PlainCommand) (old new : ShelfView) (sink mid : SinkView) (r : Diagnostic) : Type 0 where
  pub fault : CommandFault
  pub prepared : IsDiagnosticOf fault r
  pub cause : RejectsPerforming command old new sink mid fault
