use Rattle.std.proofs.Common.{◌≡◌, None}
use Rattle.list_checks.specs.First.{first_below}
use Rattle.elf_reader.specs.SectionPasses.{section_fault}
use Rattle.elf_reader.proofs.section_checks.check_each.Given as goal

abbrev pub invariant-loop-k : goal.invariant-loop-k
invariant-loop-k l = first_below (section_fault l.check l.bytes) l.k ≡ None
