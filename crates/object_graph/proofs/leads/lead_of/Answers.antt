use Rattle.std.proofs.Common.{◌≡◌, ◌∙◌, ◌<◌, ◌≤◌, true, sym, ap, subst, arith}
use Rattle.elf_reader.specs.File.{plain_view}
use Rattle.loaded_file.specs.Records.{reloc_at, counts}
use Rattle.loaded_file.specs.ByteRanges.{byte_range_at}
use Rattle.object_graph.proofs.GivenLemmas.{lead_far, lead_found}
use Rattle.object_graph.proofs.RangeLemmas.{reloc_is, offset_is}
use Rattle.object_graph.proofs.leads.lead_of.Goals as goal

pub returns-then-offset-ranges : goal.returns-then-offset-ranges
returns-then-offset-ranges c =
    let view = c.args.file.now.view.now in
    let v = plain_view view in
    let place = c.in-Some.place in
    let within = c.in-Some.ensures.0 in
    let far = offset_is view c.args.ranges.now c.requires.movable place c.args.i c.target.result c.index-reloc.result.now within c.requires.below c.index-reloc.ensures c.target.ensures in
    let behind = c.if-offset-ranges.true in
    lead_far v c.args.ranges.now c.requires.movable place c.args.i within c.in-Some.ensures.1 (omega (arith, far, behind))

pub returns : goal.returns
returns c =
    let view = c.args.file.now.view.now in
    let v = plain_view view in
    let place = c.in-Some.place in
    let within = c.in-Some.ensures.0 in
    let far = offset_is view c.args.ranges.now c.requires.movable place c.args.i c.target.result c.index-reloc.result.now within c.requires.below c.index-reloc.ensures c.target.ensures in
    let counted : counts v (reloc_at v c.args.i) ≡ true = ap (counts v) (reloc_is view c.args.i c.index-reloc.result.now c.requires.below c.index-reloc.ensures) ∙ sym c.counts.ensures ∙ c.if-not-counts.false in
    lead_found v c.args.ranges.now c.requires.movable place _ c.args.i within counted c.in-Some.ensures.1 far (omega arith)
