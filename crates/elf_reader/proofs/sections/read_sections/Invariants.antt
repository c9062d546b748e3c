use Rattle.std.proofs.Common.{◌≡◌, map}
use Rattle.elf_reader.specs.File.{plain_section, sections_below}
use Rattle.elf_reader.proofs.sections.read_sections.Given as goal

abbrev pub invariant-loop-k : goal.invariant-loop-k
invariant-loop-k l = map plain_section l.sections.items ≡ sections_below l.bytes l.k
