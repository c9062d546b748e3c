use Rattle.std.proofs.Common.{◌∙◌, ap, add-one, arith}
use Rattle.list_checks.proofs.StepLemmas.{collect_more}
use Rattle.loaded_file.specs.ByteRanges.{no_byte_range, byte_range_at, further_end, overlaps_another}
use Rattle.loaded_file.proofs.overlaps.overlapped.Goals as goal

pub loop-k-preserved : goal.loop-k-preserved
loop-k-preserved c =
    let xs = c.args.ranges.now in
    let k = c.loop-k.k in (
      collect_more (overlaps_another xs) xs c.loop-k.marks.items c.push.new.self.items c.overlaps_another.result k no_byte_range (omega arith) c.in_ok-push.ensures.items c.loop-k.invariant.0 c.overlaps_another.ensures,
      rw (add-one k) (c.further_end-furthest_end.ensures ∙ ap (λ furthest_end. further_end furthest_end (byte_range_at xs k)) c.loop-k.invariant.1),
    )
