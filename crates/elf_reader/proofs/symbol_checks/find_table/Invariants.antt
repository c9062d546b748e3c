use Rattle.std.proofs.Common.{◌≡◌, None}
use Rattle.list_checks.specs.First.{first_below}
use Rattle.elf_reader.specs.Sections.{symbol_table_below}
use Rattle.elf_reader.specs.SymbolChecks.{second_table_fault}
use Rattle.elf_reader.proofs.symbol_checks.find_table.Given as goal

abbrev pub invariant-loop-k : goal.invariant-loop-k
invariant-loop-k l = record { none : first_below (second_table_fault l.bytes) l.k ≡ None; table : l.table ≡ symbol_table_below l.bytes l.k }
