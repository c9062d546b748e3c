use Rattle.elf_reader.specs.File.{plain_view}
use Rattle.object_graph.specs.Shares.{gives_by}
use Rattle.object_graph.proofs.MeaningLeads.{count_more}
use Rattle.object_graph.proofs.shared_words.site_addresses.Goals as goal

pub loop-j-preserved : goal.loop-j-preserved
loop-j-preserved c test =
    count_more (gives_by (plain_view c.args.file.now.view.now) test) c.loop-j.j _ _ (c.loop-j.invariant test) (c.in_ok-push_site.ensures test)
