use Rattle.elf_writer.proofs.WrittenLemmas.{bytes_written}
use Rattle.elf_writer.proofs.laws.bytes_written.Goals as goal

pub returns : goal.returns
returns c = bytes_written
