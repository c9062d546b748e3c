use Rattle.std.proofs.Common.{refl}
use Rattle.elf_reader.specs.File.{plain_view}
use Rattle.code_blocks.proofs.StepLemmas.{no_walk}
use Rattle.code_blocks.proofs.walking.walk_from.Goals as goal

pub returns-in-None : goal.returns-in-None
returns-in-None c =
    no_walk (plain_view c.args.file.now.view.now) c.args.start _ c.in-None.ensures.first c.new.ensures.items refl
