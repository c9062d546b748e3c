use Rattle.std.proofs.Common.{◌≡◌, None}
use Rattle.list_checks.specs.First.{first_below}
use Rattle.elf_reader.specs.RelocationChecks.{section_relocations_fault}
use Rattle.elf_reader.specs.Sections.{relocation_count_below}
use Rattle.elf_reader.proofs.relocation_checks.check_entries.Given as goal

abbrev pub invariant-loop-k : goal.invariant-loop-k
invariant-loop-k l = record { none : first_below (section_relocations_fault l.bytes) l.k ≡ None; first : l.first ≡ relocation_count_below l.bytes l.k }
