use Rattle.std.proofs.Common.{◌∙◌, length, ap}
use Rattle.elf_reader.specs.File.{plain_view}
use Rattle.elf_writer.specs.Parts.{new_segment, content_changes}
use Rattle.elf_writer.proofs.ChangeLemmas.{length-changed}
use Rattle.elf_writer.proofs.PieceLemmas.{segment_added}
use Rattle.elf_writer.proofs.writing.write_fitting.Goals as goal

pub with_segment-requires-clause-length : goal.with_segment-requires-clause-length
with_segment-requires-clause-length c =
    ap length c.in_ok-out.ensures.new
    ∙ length-changed (content_changes (plain_view c.args.base.now) c.args.patches.now c.args.moves.now) 0 c.args.base.now.bytes.now

pub returns-in-Some-clause-bytes : goal.returns-in-Some-clause-bytes
returns-in-Some-clause-bytes c =
    let v = plain_view c.args.base.now in
    let s = new_segment c.in-Some.segment.now in
    let done = segment_added v c.args.patches.now s c.args.moves.now c.in_ok-out.out.items c.with_segment.result c.in_ok-out.ensures.new c.with_segment.ensures.new in
    rw c.in-Some.is done
