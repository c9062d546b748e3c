use Rattle.elf_writer.proofs.PatchLemmas.{others_loaded}
use Rattle.elf_writer.proofs.laws.others_loaded.Goals as goal

pub returns : goal.returns
returns c = others_loaded
