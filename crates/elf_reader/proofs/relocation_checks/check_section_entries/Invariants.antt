use Rattle.std.proofs.Common.{◌≡◌, None}
use Rattle.list_checks.specs.First.{first_below}
use Rattle.elf_reader.specs.RelocationChecks.{relocation_fault}
use Rattle.elf_reader.proofs.relocation_checks.check_section_entries.Given as goal

abbrev pub invariant-loop-i : goal.invariant-loop-i
invariant-loop-i l = first_below (relocation_fault l.bytes l.k) l.i ≡ None
