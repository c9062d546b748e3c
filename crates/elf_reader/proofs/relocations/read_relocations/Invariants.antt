use Rattle.std.proofs.Common.{◌≡◌}
use Rattle.elf_reader.specs.File.{relocations_below}
use Rattle.elf_reader.proofs.relocations.read_relocations.Given as goal

abbrev pub invariant-loop-k : goal.invariant-loop-k
invariant-loop-k l = l.relocs.items ≡ relocations_below l.bytes l.k
