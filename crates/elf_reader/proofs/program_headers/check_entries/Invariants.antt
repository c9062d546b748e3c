use Rattle.std.proofs.Common.{◌≡◌, None}
use Rattle.list_checks.specs.First.{first_below}
use Rattle.elf_reader.specs.ProgramHeaderChecks.{entry_fault}
use Rattle.elf_reader.proofs.program_headers.check_entries.Given as goal

abbrev pub invariant-loop-k : goal.invariant-loop-k
invariant-loop-k l = first_below (entry_fault l.bytes) l.k ≡ None
