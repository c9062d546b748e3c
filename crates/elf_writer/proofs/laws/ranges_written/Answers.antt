use Rattle.elf_writer.proofs.WrittenLemmas.{ranges_written}
use Rattle.elf_writer.proofs.laws.ranges_written.Goals as goal

pub returns : goal.returns
returns c = ranges_written
