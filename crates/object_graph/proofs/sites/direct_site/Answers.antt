use Rattle.std.proofs.Common.{◌≡◌, ◌∙◌, sym, ap}
use Rattle.elf_reader.specs.File.{plain_view}
use Rattle.elf_reader.specs.declared.view.Reloc.{Reloc}
use Rattle.loaded_file.specs.Records.{reloc_at}
use Rattle.object_graph.specs.declared.parts.SiteKind.{SiteKind}
use Rattle.object_graph.specs.Graphs.{makes_part, same_part}
use Rattle.object_graph.proofs.GivenLemmas.{direct_found, direct_unrewritable, direct_nowhere}
use Rattle.object_graph.proofs.RangeLemmas.{reloc_is}
use Rattle.object_graph.proofs.sites.direct_site.Goals as goal

pub returns-then-not-is_rewritable : goal.returns-then-not-is_rewritable
returns-then-not-is_rewritable c =
    let v = plain_view c.args.file.now.view.now in
    let here = reloc_is c.args.file.now.view.now c.args.i c.index-reloc.result.now c.requires.below c.index-reloc.ensures in
    let makes : (p : SiteKind) → same_part p c.in-Some.kind ≡ makes_part p (reloc_at v c.args.i).kind = λ p. c.in-Some.ensures p ∙ ap (λ (r : Reloc). makes_part p r.kind) (sym here) in
    direct_unrewritable v c.args.ranges.now c.in-Some.kind c.args.i makes (sym c.is_rewritable.ensures ∙ c.if-not-is_rewritable.true)

pub returns-in-Some-lead_of : goal.returns-in-Some-lead_of
returns-in-Some-lead_of c =
    let v = plain_view c.args.file.now.view.now in
    let here = reloc_is c.args.file.now.view.now c.args.i c.index-reloc.result.now c.requires.below c.index-reloc.ensures in
    let makes : (p : SiteKind) → same_part p c.in-Some.kind ≡ makes_part p (reloc_at v c.args.i).kind = λ p. c.in-Some.ensures p ∙ ap (λ (r : Reloc). makes_part p r.kind) (sym here) in
    direct_found v c.args.ranges.now c.index-reloc.result.now.at c.in-Some.kind c.in-Some-lead_of.lead c.args.i (ap (λ (r : Reloc). r.at) (sym here)) makes (sym c.is_rewritable.ensures ∙ c.if-not-is_rewritable.false) c.in-Some-lead_of.ensures

pub returns-in-None : goal.returns-in-None
returns-in-None c = direct_nowhere (plain_view c.args.file.now.view.now) c.args.ranges.now c.args.i c.in-None.ensures
