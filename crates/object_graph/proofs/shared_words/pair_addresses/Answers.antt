use Rattle.elf_reader.specs.File.{plain_view}
use Rattle.list_checks.proofs.StepLemmas.{any_more}
use Rattle.object_graph.specs.Shares.{is_high_by}
use Rattle.object_graph.proofs.shared_words.pair_addresses.Goals as goal

pub loop-i-preserved : goal.loop-i-preserved
loop-i-preserved c test =
    any_more (is_high_by (plain_view c.args.file.now.view.now) test) c.loop-i.i _ _ (c.loop-i.invariant test) (c.in_ok-push_pair.ensures test)
