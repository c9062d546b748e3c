use Rattle.elf_writer.proofs.PatchLemmas.{others_untouched}
use Rattle.elf_writer.proofs.laws.others_untouched.Goals as goal

pub returns : goal.returns
returns c = others_untouched
