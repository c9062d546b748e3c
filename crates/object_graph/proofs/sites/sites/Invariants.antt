use Rattle.elf_reader.specs.File.{plain_view}
use Rattle.object_graph.specs.Graphs.{same_site}
use Rattle.object_graph.specs.Gathered.{is_site_in, site_place}
use Rattle.object_graph.proofs.GatherLemmas.{HasGathered}
use Rattle.object_graph.proofs.sites.sites.Given as goal

abbrev pub invariant-loop-i : goal.invariant-loop-i
invariant-loop-i l = HasGathered site_place same_site (is_site_in (plain_view l.file.view.now) l.ranges) l.sites.items l.i
