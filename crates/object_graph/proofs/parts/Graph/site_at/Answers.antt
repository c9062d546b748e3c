use Rattle.std.proofs.Common.{◌≡◌, ◌∙◌, ◌==◌, Bool, ◌&&◌, List, ap}
use Rattle.std.specs.List.{list_any}
use Rattle.object_graph.specs.declared.parts.Site.{Site}
use Rattle.object_graph.specs.Graphs.{same_site}
use Rattle.object_graph.specs.Gathered.{site_place}
use Rattle.object_graph.proofs.AlikeLemmas.{site_itself}
use Rattle.object_graph.proofs.LookupLemmas.{found_one}
use Rattle.object_graph.proofs.parts.Graph.site_at.Goals as goal

pub returns : goal.returns
returns c =
    found_one site_place same_site site_itself c.args.self.now.sites.items c.args.address c.find_site.result
    (λ s. c.find_site.ensures s ∙ ap (λ (ss : List Site). list_any (same_site s) ss && (s.at == c.args.address)) c.deref.ensures.value)
