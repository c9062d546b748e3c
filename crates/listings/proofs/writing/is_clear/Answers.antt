use Rattle.std.proofs.Common.{◌≡◌, false, arith}
use Rattle.std.proofs.lemmas.List.Elements.{All-more}
use Rattle.list_checks.specs.Tests.{ranges_overlap}
use Rattle.elf_reader.specs.declared.view.Segment.{Segment}
use Rattle.elf_writer.proofs.ChangeLemmas.{all_taken}
use Rattle.listings.proofs.writing.is_clear.Goals as goal

pub loop-segment-preserved : goal.loop-segment-preserved
loop-segment-preserved c =
    All-more (λ (s : Segment). ranges_overlap s.vaddr s.memsz c.args.base c.args.size ≡ false) c.args.segments.now c.loop-segment.segment-index _ c.loop-segment-test.true c.loop-segment.invariant
    (c.are_disjoint.ensures (grind (arith, c.if-not-are_disjoint.false)))

pub returns : goal.returns
returns c _ =
    all_taken (λ (s : Segment). ranges_overlap s.vaddr s.memsz c.args.base c.args.size ≡ false) c.args.segments.now c.loop-segment.segment-index c.loop-segment-test.false c.loop-segment.invariant
