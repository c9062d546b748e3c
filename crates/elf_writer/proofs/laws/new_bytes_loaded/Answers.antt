use Rattle.elf_writer.proofs.ImageLemmas.{new_bytes_loaded}
use Rattle.elf_writer.proofs.laws.new_bytes_loaded.Goals as goal

pub returns : goal.returns
returns c = new_bytes_loaded
