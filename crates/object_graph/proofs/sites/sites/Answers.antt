use Rattle.std.proofs.Common.{arith}
use Rattle.elf_reader.specs.File.{plain_view}
use Rattle.object_graph.specs.Graphs.{same_site}
use Rattle.object_graph.specs.Gathered.{is_site_in, site_place}
use Rattle.object_graph.proofs.AlikeLemmas.{site_itself}
use Rattle.object_graph.proofs.GatherLemmas.{gather_more}
use Rattle.object_graph.proofs.SeparateLemmas.{sites_separate}
use Rattle.object_graph.proofs.sites.sites.Goals as goal

pub loop-i-preserved : goal.loop-i-preserved
loop-i-preserved c =
    let v = plain_view c.args.file.now.view.now in
    let disjoint = sites_separate v c.args.ranges.now c.requires.movable c.loop-i.i (omega arith) in
    gather_more site_place same_site (is_site_in v c.args.ranges.now) site_itself _ _ c.site_of-site.result c.loop-i.i c.in_ok-push_some.ensures c.loop-i.invariant c.site_of-site.ensures disjoint
