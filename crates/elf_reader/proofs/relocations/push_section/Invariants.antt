use Rattle.std.proofs.Common.{◌≡◌, ◌++◌}
use Rattle.elf_reader.specs.File.{relocations_within}
use Rattle.elf_reader.proofs.relocations.push_section.Given as goal

abbrev pub invariant-loop-i : goal.invariant-loop-i
invariant-loop-i l = l.relocs.items ≡ l.initial.relocs.items ++ relocations_within l.bytes l.k l.i
