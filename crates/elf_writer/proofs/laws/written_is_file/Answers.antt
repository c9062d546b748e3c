use Rattle.elf_writer.proofs.ViewRead.{written_is_file}
use Rattle.elf_writer.proofs.laws.written_is_file.Goals as goal

pub returns : goal.returns
returns c = written_is_file
