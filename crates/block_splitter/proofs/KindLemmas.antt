-- Sites of a graph.
use Rattle.std.proofs.Common.{◌≡◌, ◌∙◌, ℕ, true, List, ap, sym}
use Rattle.std.specs.List.{list_any}
use Rattle.std.proofs.lemmas.Bool.{eq-eqb}
use Rattle.std.proofs.lemmas.List.Folds.{Any-from_list_any, list_any_at}
use Rattle.object_graph.specs.declared.parts.Site.{Site}
use Rattle.object_graph.specs.Graphs.{same_site}
use Rattle.object_graph.specs.Lookups.{stands_at}
use Rattle.object_graph.proofs.AlikeLemmas.{site_alike}

-- where a list has a site that stands at an address, one stands there
pub stands_there : (sites : List Site) (s : Site) (a : ℕ) → list_any (same_site s) sites ≡ true → s.at ≡ a → list_any (stands_at a) sites ≡ true
stands_there sites s a found at =
    let (k, t, below, here, same) = Any-from_list_any (same_site s) sites found in
    let alike : s.at ≡ t.at = site_alike s t same in
    list_any_at (stands_at a) sites k t below (ap (stands_at a) here ∙ eq-eqb t.at a (sym alike ∙ at))
