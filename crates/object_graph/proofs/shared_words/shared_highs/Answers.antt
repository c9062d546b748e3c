use Rattle.elf_reader.specs.File.{plain_view}
use Rattle.list_checks.proofs.StepLemmas.{any_more}
use Rattle.object_graph.specs.Shares.{is_shared_low}
use Rattle.object_graph.proofs.shared_words.shared_highs.Goals as goal

pub loop-j-preserved : goal.loop-j-preserved
loop-j-preserved c test =
    any_more (is_shared_low (plain_view c.args.file.now.view.now) test) c.loop-j.j _ _ (c.loop-j.invariant test) (c.in_ok-push_shared_high.ensures test)
