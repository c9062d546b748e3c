use Rattle.std.proofs.Common.{◌≡◌, ◌∙◌, List, map, take, ap, arith}
use Rattle.std.proofs.lemmas.List.{take_all}
use Rattle.object_graph.specs.Gathered.{site_place}
use Rattle.object_graph.specs.declared.parts.Site.{Site}
use Rattle.block_splitter.specs.Copies.{address_in}
use Rattle.listings.proofs.SiteLemmas.{has_sites}
use Rattle.listings.proofs.piece_table.own_words.Goals as goal

pub returns : goal.returns
returns c =
    let sites = c.args.graph.now.sites.items in
    let all : take c.loop-site.site-index sites ≡ sites = take_all c.loop-site.site-index sites (omega arith) in
    has_sites c.args.code.now c.args.graph.now c.loop-site.sites.items c.requires
    (c.loop-site.invariant ∙ ap (λ (xs : List Site). map site_place xs) all)
