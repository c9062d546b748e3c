use Rattle.std.proofs.Common.{◌≡◌, None}
use Rattle.list_checks.specs.First.{first_below}
use Rattle.elf_reader.specs.ProgramHeaderChecks.{pair_fault}
use Rattle.elf_reader.proofs.program_headers.check_pairs.Given as goal

abbrev pub invariant-loop-second : goal.invariant-loop-second
invariant-loop-second l = first_below (pair_fault l.bytes l.first) l.second ≡ None
