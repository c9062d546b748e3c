use Rattle.elf_writer.proofs.WrittenFaults.{written_faults}
use Rattle.elf_writer.proofs.laws.written_faults.Goals as goal

pub returns : goal.returns
returns c = written_faults
