use Rattle.std.proofs.Common.{◌≡◌, ◌≤◌, ◌*◌}
use Rattle.elf_reader.specs.ProgramHeaderChecks.{memory_below}
use Rattle.elf_reader.proofs.program_headers.check_memory.Given as goal

abbrev pub invariant-loop-k : goal.invariant-loop-k
invariant-loop-k l = record { value : l.total ≡ memory_below l.bytes l.k; small : l.total ≤ l.k * 4294967296 }
