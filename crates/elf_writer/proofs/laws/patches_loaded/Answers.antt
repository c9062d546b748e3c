use Rattle.elf_writer.proofs.PatchLemmas.{patches_loaded}
use Rattle.elf_writer.proofs.laws.patches_loaded.Goals as goal

pub returns : goal.returns
returns c = patches_loaded
