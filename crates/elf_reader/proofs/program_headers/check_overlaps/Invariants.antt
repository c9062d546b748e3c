use Rattle.std.proofs.Common.{◌≡◌, None}
use Rattle.list_checks.specs.First.{first_below}
use Rattle.elf_reader.specs.ProgramHeaderChecks.{pairs_fault}
use Rattle.elf_reader.proofs.program_headers.check_overlaps.Given as goal

abbrev pub invariant-loop-first : goal.invariant-loop-first
invariant-loop-first l = first_below (pairs_fault l.bytes) l.first ≡ None
