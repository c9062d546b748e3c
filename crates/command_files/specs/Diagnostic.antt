-- A fault with its line.
use Rattle.std.specs.Prelude.{◌≡◌, ◌⊎◌, ℕ, List, codes, string_bytes}
use Rattle.shelf_io.specs.Sink.{SinkView, PutAll, PutSome}
use Rattle.command_language.specs.FaultLine.{fault_line, status_of}
use Rattle.command_language.specs.declared.faults.CommandFault.{CommandFault}
use Rattle.command_language.specs.declared.faults.CommandFault.TheVariants as command_fault
use Rattle.command_files.specs.declared.diagnostic.Diagnostic.{Diagnostic}
use Rattle.command_files.specs.declared.diagnostic.Diagnostic.TheVariants as diagnostic

abbrev pub rejected_status : Diagnostic → ℕ
rejected_status (diagnostic.Ready status line) = status
rejected_status diagnostic.Memory = 9

abbrev pub rejected_line : Diagnostic → List ℕ
rejected_line (diagnostic.Ready status line) = string_bytes line
rejected_line diagnostic.Memory = codes "error 9 memory 0 0\n"

-- the status and the line are those of the fault
pub record IsDiagnosticOf (fault : CommandFault) (r : Diagnostic) : Type 0 where
  pub status : rejected_status r ≡ status_of fault
  pub line : rejected_line r ≡ fault_line fault

abbrev pub IsDiagnosticOrMemory : CommandFault → Diagnostic → Type 0
IsDiagnosticOrMemory fault r = IsDiagnosticOf fault r ⊎ IsDiagnosticOf command_fault.Memory r

-- the piece went to the sink, or a prefix of it where the put failed
abbrev pub PutsLine : List ℕ → SinkView → SinkView → Type 0
PutsLine piece old new = PutAll piece old new ⊎ PutSome piece old new
