use Rattle.std.proofs.Common.{◌+◌}
use Rattle.elf_reader.specs.File.{plain_view}
use Rattle.code_blocks.proofs.StepLemmas.{falls}
use Rattle.code_blocks.proofs.steps.end_behind.Goals as goal

pub returns-in-None : goal.returns-in-None
returns-in-None c =
    falls (plain_view c.args.file.now.view.now) c.args.address c.args.word c.fall_end.result _ _ c.requires.word c.if-not-has_meaning.false c.has_meaning.ensures
    c.in-None.ensures (c.requires.leaders.all (c.args.address + 4)) c.fall_end.ensures
