use Rattle.std.proofs.Common.{◌≡◌, None}
use Rattle.list_checks.specs.First.{first_below}
use Rattle.elf_reader.specs.SymbolChecks.{symbol_fault}
use Rattle.elf_reader.proofs.symbol_checks.check_entries.Given as goal

abbrev pub invariant-loop-i : goal.invariant-loop-i
invariant-loop-i l = first_below (symbol_fault l.bytes l.table) l.i ≡ None
