use Rattle.std.proofs.Common.{◌∙◌}
use Rattle.elf_reader.specs.File.{plain_view}
use Rattle.loaded_file.specs.Records.{reloc_at}
use Rattle.object_graph.specs.Rewritable.{is_rewritable_absolute, is_rewritable_pair}
use Rattle.object_graph.proofs.KindTests.{or_taken, or_passed}
use Rattle.object_graph.proofs.rewritable_marks.is_rewritable_kind.Goals as goal

pub returns-then-is_rewritable_absolute : goal.returns-then-is_rewritable_absolute
returns-then-is_rewritable_absolute c =
    let v = plain_view c.args.file.now.view.now in
    c.if-is_rewritable_absolute.true ∙ or_taken (is_rewritable_absolute v c.args.i) (is_rewritable_pair v (reloc_at v c.args.i)) c.is_rewritable_absolute.result c.is_rewritable_absolute.ensures c.if-is_rewritable_absolute.true

pub returns-else-is_rewritable_absolute : goal.returns-else-is_rewritable_absolute
returns-else-is_rewritable_absolute c =
    let v = plain_view c.args.file.now.view.now in
    or_passed (is_rewritable_absolute v c.args.i) (is_rewritable_pair v (reloc_at v c.args.i)) c.is_rewritable_absolute.result _ c.is_rewritable_absolute.ensures c.if-is_rewritable_absolute.false c.is_rewritable_pair.ensures
