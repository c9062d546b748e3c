use Rattle.std.proofs.Common.{arith, ◌+◌}
use Rattle.std.proofs.lemmas.List.Sums.{count_by-le-length}
use Rattle.elf_reader.specs.File.{plain_view}
use Rattle.list_checks.specs.Sorted.{is_under}
use Rattle.object_graph.proofs.ShareLemmas.{shared_by, own_le}
use Rattle.object_graph.proofs.rewritable_words.is_shared.Goals as goal

pub returns : goal.returns
returns c =
    shared_by (plain_view c.args.file.now.view.now) c.args.lists.now c.args.i c.change_start-at.result c.own_changes-itself.result c.count_under.result c.count_under-2.result c.deref-2.result.now c.deref.result.now c.requires.lists c.requires.below c.change_start-at.ensures.value c.own_changes-itself.ensures c.deref.ensures.value c.count_under.ensures c.deref-2.ensures.value c.count_under-2.ensures

pub overflow_add-result : goal.overflow_add-result
overflow_add-result c =
    let own = own_le (plain_view c.args.file.now.view.now) c.args.i c.own_changes-itself.result c.own_changes-itself.ensures in
    let counted = c.count_under.ensures in
    let within = count_by-le-length (is_under (c.change_start-at.result + 1)) c.deref.result.now in
    omega (arith, own, counted, within, c.deref.ensures.len, c.args.lists.now.ends.ok.0)
