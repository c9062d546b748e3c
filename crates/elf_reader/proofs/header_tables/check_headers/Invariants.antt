use Rattle.std.proofs.Common.{◌≡◌, None}
use Rattle.list_checks.specs.First.{first_below}
use Rattle.elf_reader.specs.HeaderTables.{outside_fault}
use Rattle.elf_reader.proofs.header_tables.check_headers.Given as goal

abbrev pub invariant-loop-k : goal.invariant-loop-k
invariant-loop-k l = first_below (outside_fault l.kind l.bytes) l.k ≡ None
