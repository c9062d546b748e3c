use Rattle.elf_writer.proofs.WrittenLemmas.{others_stay}
use Rattle.elf_writer.proofs.laws.others_stay.Goals as goal

pub returns : goal.returns
returns c = others_stay
