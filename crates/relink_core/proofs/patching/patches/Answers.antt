use Rattle.elf_reader.specs.File.{plain_view}
use Rattle.relink_core.specs.Making.{patch_of}
use Rattle.list_checks.proofs.StepLemmas.{collect_more}
use Rattle.relink_core.proofs.patching.patches.Goals as goal

pub loop-word-preserved : goal.loop-word-preserved
loop-word-preserved c =
    collect_more (patch_of (plain_view c.args.view.now)) c.args.words.now _ _ c.patch_of.result c.loop-word.word-index (0, 0) c.loop-word-test.true c.in_ok-push.ensures.items c.loop-word.invariant c.patch_of.ensures
