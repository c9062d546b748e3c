use Rattle.elf_writer.proofs.ImageLemmas.{zeros_loaded}
use Rattle.elf_writer.proofs.laws.zeros_loaded.Goals as goal

pub returns : goal.returns
returns c = zeros_loaded
