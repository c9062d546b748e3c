-- The fault line that needs no memory.
use Rattle.std.proofs.Common.{refl, arith}
use Rattle.std.proofs.lemmas.Fmt.{decimal_digit}
use Rattle.command_files.specs.Diagnostic.{IsDiagnosticOf}
use Rattle.command_files.specs.declared.diagnostic.Diagnostic.TheVariants as diagnostic
use Rattle.command_language.specs.declared.faults.CommandFault.TheVariants as command_fault

-- the line that is kept ready is that of want of memory
pub memory_prepared : IsDiagnosticOf command_fault.Memory diagnostic.Memory
memory_prepared =
    record { status = refl; line = rw (decimal_digit 9 (omega arith), decimal_digit 0 (omega arith)) refl }
