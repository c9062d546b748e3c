use Rattle.std.proofs.Common.{◌≡◌, ◌∙◌, Bool, true, false, sym, ap}
use Rattle.elf_reader.specs.File.{plain_view}
use Rattle.elf_reader.specs.declared.view.Reloc.{Reloc}
use Rattle.object_graph.specs.Rewritable.{is_pair_low}
use Rattle.object_graph.proofs.GivenLemmas.{low_is_site, alone_is_site}
use Rattle.object_graph.proofs.RangeLemmas.{reloc_is}
use Rattle.object_graph.proofs.sites.site_of.Goals as goal

-- whether it is a low part, as the tested one is
kind_told : (r s : Reloc) (b told : Bool) → r ≡ s → b ≡ is_pair_low s.kind → b ≡ told → is_pair_low r.kind ≡ told
kind_told r s b told here is tested = ap (λ (x : Reloc). is_pair_low x.kind) here ∙ sym is ∙ tested

pub low_site-requires-clause-low : goal.low_site-requires-clause-low
low_site-requires-clause-low c =
    let here = reloc_is c.args.file.now.view.now c.args.i c.index.result.now c.requires.below c.index.ensures in
    kind_told _ _ _ true here c.is_pair_low.ensures c.if-is_pair_low.true

pub returns-then-is_pair_low : goal.returns-then-is_pair_low
returns-then-is_pair_low c s =
    let here = reloc_is c.args.file.now.view.now c.args.i c.index.result.now c.requires.below c.index.ensures in
    c.low_site.ensures s ∙ low_is_site (plain_view c.args.file.now.view.now) c.args.ranges.now s c.args.i (kind_told _ _ _ true here c.is_pair_low.ensures c.if-is_pair_low.true)

pub returns-else-is_pair_low : goal.returns-else-is_pair_low
returns-else-is_pair_low c s =
    let here = reloc_is c.args.file.now.view.now c.args.i c.index.result.now c.requires.below c.index.ensures in
    c.direct_site.ensures s ∙ alone_is_site (plain_view c.args.file.now.view.now) c.args.ranges.now s c.args.i (kind_told _ _ _ false here c.is_pair_low.ensures c.if-is_pair_low.false)
