-- A word for each site of a graph.
use Rattle.std.proofs.Common.{◌≡◌, ◌∙◌, ℕ, ◌+◌, ◌<◌, ◌≤◌, ◌==◌, List, length, map, sym, ap, subst, arith}
use Rattle.std.specs.List.{AllPairs, list_any}
use Rattle.std.specs.List.Sorted.{IsStrictlyIncreasing}
use Rattle.std.proofs.lemmas.List.{length-map, get_or-map}
use Rattle.object_graph.specs.Gathered.{site_place}
use Rattle.object_graph.specs.Lookups.{IsSomeGraph}
use Rattle.object_graph.specs.declared.parts.Site.{Site}
use Rattle.object_graph.specs.declared.parts.SiteKind.TheVariants.{Hi}
use Rattle.object_graph.specs.declared.parts.Graph.{Graph}
use Rattle.code_blocks.specs.declared.parts.Code.{Code}
use Rattle.code_blocks.proofs.ListLemmas.{any_map}
use Rattle.block_splitter.specs.Forms.{body_at, unit_in}
use Rattle.block_splitter.specs.Copies.{Patch, address_in, HasSites}

abbrev some_site : Site
some_site = record { at = 0; kind = Hi; object = 0; offset = 0 }

sites_rise : (sites : List Site) → AllPairs (λ (a b : Site). a.at + 4 ≤ b.at) sites → IsStrictlyIncreasing (map site_place sites)
sites_rise sites order k below =
    let count = length-map sites site_place in
    let next : k + 1 < length sites = omega (arith, below, count) in
    let first = get_or-map site_place sites k some_site 0 (omega (arith, next)) in
    let second = get_or-map site_place sites (k + 1) some_site 0 next in
    let order_here = order k (k + 1) some_site (omega arith) next in
    omega (arith, first, second, order_here)

pub has_sites : (c : Code) (g : Graph) (words : List Patch) → IsSomeGraph g → map address_in words ≡ map site_place g.sites.items → HasSites c g words
has_sites c g words some same =
    let (v, board, is) = some in
    record {
      ascending = subst IsStrictlyIncreasing (sym same) (sites_rise g.sites.items is.sites.disjoint);
      others = λ b k block unit.
          let a = (unit_in (body_at c.blocks.items b) k).at in
          sym (any_map address_in (λ (x : ℕ). x == a) words)
          ∙ (ap (λ (xs : List ℕ). list_any (λ (x : ℕ). x == a) xs) same ∙ any_map site_place (λ (x : ℕ). x == a) g.sites.items);
    }
