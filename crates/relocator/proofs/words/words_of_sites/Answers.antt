use Rattle.std.proofs.Common.{◌∙◌, ◌<◌, length, ap, arith}
use Rattle.std.proofs.lemmas.List.{get_or_default}
use Rattle.elf_reader.specs.File.{plain_view}
use Rattle.object_graph.specs.declared.parts.Site.{Site}
use Rattle.relocator.specs.SiteWords.{no_site}
use Rattle.relocator.proofs.ListLemmas.{site_more}
use Rattle.relocator.proofs.words.words_of_sites.Goals as goal

pub loop-k-preserved : goal.loop-k-preserved
loop-k-preserved c =
    let g = c.args.graph.now in
    let site = c.index.result.now in
    let below : c.loop-k.k < length g.sites.items = omega arith in
    let same = c.index.ensures ∙ get_or_default g.sites.items c.loop-k.k site no_site below in
    site_more (plain_view c.in_ok-file.file.view.now) g c.args.places.now c.args.region_at.now c.loop-k.k c.loop-k.words.items c.push.new.self.items (site.at, c.word_of_site-word.result)
    c.in_ok-push.ensures.items (ap (λ (s : Site). s.at) same) c.word_of_site-word.ensures c.loop-k.invariant

pub word_of_site-word-requires-clause-graph : goal.word_of_site-word-requires-clause-graph
word_of_site-word-requires-clause-graph c = rw c.in_ok-file.ensures c.requires.graph
