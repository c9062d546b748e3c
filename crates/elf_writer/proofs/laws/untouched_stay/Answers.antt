use Rattle.elf_writer.proofs.ImageLemmas.{untouched_stay}
use Rattle.elf_writer.proofs.laws.untouched_stay.Goals as goal

pub returns : goal.returns
returns c = untouched_stay
