use Rattle.std.proofs.Common.{◌≡◌, ◌∙◌, true, sym, ap}
use Rattle.elf_reader.specs.File.{plain_view}
use Rattle.elf_reader.specs.declared.view.Reloc.{Reloc}
use Rattle.loaded_file.specs.Records.{symbol_at, symbol_of, reloc_at, counts}
use Rattle.object_graph.specs.declared.parts.SiteKind.{SiteKind}
use Rattle.object_graph.specs.Graphs.{makes_part, same_part}
use Rattle.object_graph.proofs.AlikeLemmas.{site_itself}
use Rattle.object_graph.proofs.GivenLemmas.{low_found, low_nowhere}
use Rattle.object_graph.proofs.RangeLemmas.{reloc_is}
use Rattle.object_graph.proofs.sites.low_site.Goals as goal

pub returns-in-Some-find_site : goal.returns-in-Some-find_site
returns-in-Some-find_site c =
    let v = plain_view c.args.file.now.view.now in
    let here = reloc_is c.args.file.now.view.now c.args.i c.index-reloc.result.now c.requires.below c.index-reloc.ensures in
    let makes : (p : SiteKind) → same_part p c.in-Some.kind ≡ makes_part p (reloc_at v c.args.i).kind = λ p. c.in-Some.ensures p ∙ ap (λ (r : Reloc). makes_part p r.kind) (sym here) in
    let value = ap (λ (r : Reloc). (symbol_at v r.symbol).value) here ∙ sym c.symbol_value.ensures in
    let counted : counts v (reloc_at v c.args.i) ≡ true = ap (counts v) here ∙ sym c.counts.ensures ∙ c.if-not-counts.false in
    low_found v c.args.ranges.now c.args.highs.now c.requires.highs c.symbol_value.result c.index-reloc.result.now.at c.args.i c.in-Some.kind c.in-Some-find_site.high c.requires.low value (ap (λ (r : Reloc). r.at) (sym here)) counted makes c.in-Some-find_site.ensures (site_itself c.in-Some-find_site.high)

pub returns-in-None : goal.returns-in-None
returns-in-None c =
    let v = plain_view c.args.file.now.view.now in
    let here = reloc_is c.args.file.now.view.now c.args.i c.index-reloc.result.now c.requires.below c.index-reloc.ensures in
    let value = ap (λ (r : Reloc). (symbol_at v r.symbol).value) here ∙ sym c.symbol_value.ensures in
    low_nowhere v c.args.ranges.now c.args.highs.now c.requires.highs c.symbol_value.result c.args.i c.requires.low value c.in-None.ensures
