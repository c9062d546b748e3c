use Rattle.elf_writer.proofs.PatchLemmas.{words_loaded}
use Rattle.elf_writer.proofs.laws.words_loaded.Goals as goal

pub returns : goal.returns
returns c = words_loaded
