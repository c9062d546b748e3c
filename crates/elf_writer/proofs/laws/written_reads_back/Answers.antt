use Rattle.elf_writer.proofs.ViewRead.{written_reads_back}
use Rattle.elf_writer.proofs.laws.written_reads_back.Goals as goal

pub returns : goal.returns
returns c = written_reads_back
