use Rattle.std.proofs.Common.{◌≡◌}
use Rattle.elf_reader.specs.File.{plain_view}
use Rattle.loaded_file.specs.Marks.{loaded_below}
use Rattle.loaded_file.proofs.loaded.loaded_sections.Given as goal

abbrev pub invariant-loop-k : goal.invariant-loop-k
invariant-loop-k l = l.marks.items ≡ loaded_below (plain_view l.view) l.k
