use Rattle.std.proofs.Common.{◌≡◌, ◌≤◌, ◌*◌}
use Rattle.elf_reader.specs.Sections.{relocation_count_below}
use Rattle.elf_reader.proofs.relocation_checks.check_limit.Given as goal

abbrev pub invariant-loop-k : goal.invariant-loop-k
invariant-loop-k l = record { value : l.total ≡ relocation_count_below l.bytes l.k; small : l.total ≤ l.k * 4294967296 }
