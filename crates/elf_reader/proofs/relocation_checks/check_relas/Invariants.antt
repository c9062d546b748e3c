use Rattle.std.proofs.Common.{◌≡◌, None}
use Rattle.list_checks.specs.First.{first_below}
use Rattle.elf_reader.specs.RelocationChecks.{rela_fault}
use Rattle.elf_reader.proofs.relocation_checks.check_relas.Given as goal

abbrev pub invariant-loop-k : goal.invariant-loop-k
invariant-loop-k l = first_below (rela_fault l.bytes) l.k ≡ None
