use Rattle.elf_writer.proofs.ImageLemmas.{changed_bytes_loaded}
use Rattle.elf_writer.proofs.laws.changed_bytes_loaded.Goals as goal

pub returns : goal.returns
returns c = changed_bytes_loaded
