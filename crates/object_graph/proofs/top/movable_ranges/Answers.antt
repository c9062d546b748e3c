use Rattle.elf_reader.specs.File.{plain_view}
use Rattle.loaded_file.proofs.ByteRangeLemmas.{ok_then}
use Rattle.object_graph.proofs.UnmarkedLemmas.{kept_still_disjoint, kept_filled, movable_kept}
use Rattle.object_graph.proofs.top.movable_ranges.Goals as goal

pub returns-clause-disjoint : goal.returns-clause-disjoint
returns-clause-disjoint c =
    ok_then c.unmarked.result _ _ (λ kept made. kept_still_disjoint c.in_ok-disjoint.disjoint.items c.deref-2.result.now kept.items c.deref-3.result.now c.deref-2.ensures.value made c.in_ok-disjoint.ensures.disjoint) c.unmarked.ensures

pub returns-clause-exact : goal.returns-clause-exact
returns-clause-exact c =
    let ranges = c.in_ok-disjoint.disjoint.items in
    let marks = c.in_ok-immovable.immovable.items in
    ok_then c.unmarked.result _ _ (λ kept made home n. movable_kept (plain_view c.args.file.now.view.now) c.args.board.now ranges c.deref.result.now c.deref-2.result.now kept.items marks c.deref-3.result.now home n c.deref.ensures.value c.deref-2.ensures.value c.deref-3.ensures.value made c.in_ok-disjoint.ensures.exact c.in_ok-immovable.ensures) c.unmarked.ensures

pub returns-clause-filled : goal.returns-clause-filled
returns-clause-filled c =
    ok_then c.unmarked.result _ _ (λ kept made. kept_filled c.in_ok-disjoint.disjoint.items c.deref-2.result.now kept.items c.deref-3.result.now c.deref-2.ensures.value made c.in_ok-disjoint.ensures.filled) c.unmarked.ensures
