use Rattle.std.proofs.Common.{◌≡◌, map, take}
use Rattle.object_graph.specs.Gathered.{site_place}
use Rattle.block_splitter.specs.Copies.{address_in}
use Rattle.listings.proofs.piece_table.own_words.Given as goal

-- a word for each of the first sites
abbrev pub invariant-loop-site : goal.invariant-loop-site
invariant-loop-site l = map address_in l.sites.items ≡ map site_place (take l.site-index l.graph.sites.items)
