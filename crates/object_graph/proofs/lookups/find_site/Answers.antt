use Rattle.std.proofs.Common.{◌∙◌}
use Rattle.object_graph.specs.Graphs.{same_site}
use Rattle.object_graph.specs.Gathered.{site_place}
use Rattle.object_graph.proofs.AlikeLemmas.{site_alike}
use Rattle.object_graph.proofs.SearchLemmas.{any_alike}
use Rattle.object_graph.proofs.lookups.find_site.Goals as goal

pub returns : goal.returns
returns c x =
    c.find_placed.ensures (same_site x) ∙ any_alike site_place same_site site_alike c.args.sites.now x c.args.address
