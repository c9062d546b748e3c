use Rattle.elf_reader.specs.File.{plain_view}
use Rattle.compare_runner.proofs.RelativeLemmas.{NoneIsRelative}
use Rattle.compare_runner.proofs.absolute.is_absolute.Given as goal

abbrev pub invariant-loop-i : goal.invariant-loop-i
invariant-loop-i l = NoneIsRelative (plain_view l.file.view.now) l.i
