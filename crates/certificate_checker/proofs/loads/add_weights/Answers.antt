use Rattle.std.proofs.Common.{◌+◌, length, get_or, refl, arith}
use Rattle.placement_programme.specs.Bounds.{row_of, value_of}
use Rattle.certificate_checker.proofs.EntryLemmas.{weight_before}
use Rattle.certificate_checker.proofs.RowLoads.{row_inside, added_more}
use Rattle.certificate_checker.proofs.loads.add_weights.Goals as goal

pub overflow_add-loads : goal.overflow_add-loads
overflow_add-loads c =
    let ws = c.args.weights.now in
    let i = c.loop-entry.entry-index in
    let row = row_of (get_or ws i (0, 0)) in
    let none = weight_before 0 (length c.args.loads.now) ws i row (0, 0) c.requires.weights.ascending c.loop-entry-test.true refl in
    let now = c.loop-entry.invariant row in
    let old = c.requires.small row in
    let value = c.requires.weights.small i (0, 0) c.loop-entry-test.true in
    omega (arith, none, now, old, value)

pub loop-entry-preserved : goal.loop-entry-preserved
loop-entry-preserved c =
    let ws = c.args.weights.now in
    let i = c.loop-entry.entry-index in
    let inside = row_inside ws c.args.loads.now c.loop-entry.loads i c.requires.weights c.loop-entry-test.true c.loop-entry.auto.loads in
    λ row.
    added_more (length c.args.loads.now) ws c.args.loads.now c.loop-entry.loads i (i + 1) (row_of (get_or ws i (0, 0))) (value_of (get_or ws i (0, 0))) (0, 0) c.requires.weights.ascending (omega arith) c.loop-entry-test.true inside refl refl c.loop-entry.invariant row
