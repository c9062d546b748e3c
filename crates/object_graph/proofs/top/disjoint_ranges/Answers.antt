use Rattle.elf_reader.specs.File.{plain_view}
use Rattle.loaded_file.proofs.ByteRangeLemmas.{ok_then}
use Rattle.object_graph.proofs.UnmarkedLemmas.{kept_first_disjoint, kept_filled, disjoint_left, marks_of}
use Rattle.object_graph.proofs.top.disjoint_ranges.Goals as goal

pub returns-clause-disjoint : goal.returns-clause-disjoint
returns-clause-disjoint c =
    let ranges = c.in_ok-ranges.ranges.items in
    let marks = c.in_ok-overlaps.overlaps.items in
    ok_then c.unmarked.result _ _ (λ kept made. kept_first_disjoint ranges c.deref-2.result.now kept.items marks c.deref-3.result.now c.deref-2.ensures.value c.deref-3.ensures.value made c.in_ok-ranges.ensures.ascending c.in_ok-ranges.ensures.filled (marks_of ranges c.deref.result.now marks c.deref.ensures.value c.in_ok-overlaps.ensures)) c.unmarked.ensures

pub returns-clause-exact : goal.returns-clause-exact
returns-clause-exact c =
    let ranges = c.in_ok-ranges.ranges.items in
    let marks = c.in_ok-overlaps.overlaps.items in
    ok_then c.unmarked.result _ _ (λ kept made home n. disjoint_left (plain_view c.args.file.now.view.now) ranges c.deref.result.now c.deref-2.result.now kept.items marks c.deref-3.result.now home n c.deref.ensures.value c.deref-2.ensures.value c.deref-3.ensures.value made c.in_ok-ranges.ensures.exact c.in_ok-overlaps.ensures) c.unmarked.ensures

pub returns-clause-filled : goal.returns-clause-filled
returns-clause-filled c =
    ok_then c.unmarked.result _ _ (λ kept made. kept_filled c.in_ok-ranges.ranges.items c.deref-2.result.now kept.items c.deref-3.result.now c.deref-2.ensures.value made c.in_ok-ranges.ensures.filled) c.unmarked.ensures
