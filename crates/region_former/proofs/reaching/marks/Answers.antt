use Rattle.std.proofs.Common.{◌≡◌, ◌∙◌, ℕ, List, Vec, Global, true, length, sym, ap, subst, arith}
use Rattle.code_blocks.specs.Early.{has}
use Rattle.region_former.specs.Reaching.{is_root, enters}
use Rattle.region_former.specs.Propagation.{mark_at, row_of, IsMark, PropagatesOut}
use Rattle.region_former.specs.declared.propagation.Reached.{Reached}
use Rattle.region_former.proofs.MarkLemmas.{rows_below, are_marks, written}
use Rattle.region_former.proofs.reaching.marks.Goals as goal

pub propagate_out-requires-clause-below : goal.propagate_out-requires-clause-below
propagate_out-requires-clause-below c = λ f g found.
    let rows = c.in_ok-rows.rows.items in
    let is = rows_below c.args.code.now c.args.driver rows c.requires.orderly c.in_ok-rows.ensures.one_each c.in_ok-rows.ensures.rows f g
    (subst (λ (rs : List (Vec ℕ Global)). has (row_of rs f) g ≡ true) c.deref.ensures.value found) in
    let long = ap (λ (ms : List Reached). length ms) c.deref_mut.ensures.value in
    omega (arith, is, long, c.in_ok-marks.ensures.one_each, c.requires.one_each)

pub returns-clause-marks : goal.returns-clause-marks
returns-clause-marks c = λ f below.
    let code = c.args.code.now in
    let driver = c.args.driver in
    let marks = c.in_ok-marks.marks in
    let new = c.propagate_out.new.marks in
    let first = subst (λ (rs : List (Vec ℕ Global)). PropagatesOut c.deref_mut.result.now rs new) c.deref.ensures.value c.in_ok-propagate_out.ensures in
    let propagate = subst (λ (ms : List Reached). PropagatesOut ms c.in_ok-rows.rows.items new) c.deref_mut.ensures.value first in
    let is_written = written new marks.items marks.len (marks.ok.0 ∙ sym propagate.same_length) in
    subst (λ (ms : List Reached). IsMark (is_root code driver) (enters code driver) f (mark_at ms f)) (sym is_written)
    (are_marks code driver c.args.roots.now c.in_ok-rows.rows.items marks.items new c.requires.orderly c.in_ok-rows.ensures.one_each c.in_ok-rows.ensures.rows
    (c.in_ok-marks.ensures.one_each ∙ c.requires.one_each) c.requires.roots
    (λ h inside. c.in_ok-marks.ensures.marks h (rw c.requires.one_each inside)) propagate f)
