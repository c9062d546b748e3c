use Rattle.std.proofs.Common.{◌≡◌, length, arith}
use Rattle.elf_reader.specs.File.{plain_view}
use Rattle.object_graph.proofs.MarkLemmas.{marks_written}
use Rattle.object_graph.specs.Shares.{is_immovable}
use Rattle.object_graph.proofs.top.immovable_marks.Goals as goal

pub returns : goal.returns
returns c =
    let len : length c.mark_immovable.new.marks ≡ c.in_ok-marks.marks.len = omega arith in
    marks_written (is_immovable (plain_view c.args.file.now.view.now) c.args.board.now) c.args.ranges.now c.in_ok-marks.marks.len c.deref_mut.result.now c.mark_immovable.new.marks c.in_ok-marks.marks.items len c.deref_mut.ensures.value c.in_ok-marks.ensures.none c.mark_immovable.ensures.adds
