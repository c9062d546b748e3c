use Rattle.std.proofs.Common.{◌≡◌, false}
use Rattle.list_checks.specs.Tests.{any_below}
use Rattle.elf_reader.specs.SymbolChecks.{shares_bytes}
use Rattle.elf_reader.proofs.symbol_checks.shares_some.Given as goal

abbrev pub invariant-loop-k : goal.invariant-loop-k
invariant-loop-k l = any_below (shares_bytes l.bytes l.table) l.k ≡ false
