use Rattle.std.proofs.Common.{◌∙◌, ◌+◌, length, length-set, get_or, refl, arith}
use Rattle.placement_programme.specs.Bounds.{row_of, value_of}
use Rattle.certificate_checker.proofs.RowLoads.{row_inside, taken_less, entry_held}
use Rattle.certificate_checker.proofs.loads.subtract_weights.Goals as goal

pub overflow_sub-loads : goal.overflow_sub-loads
overflow_sub-loads c =
    let ws = c.args.weights.now in
    let i = c.loop-entry.entry-index in
    entry_held (length c.args.loads.now) ws c.args.loads.now c.loop-entry.loads i (row_of (get_or ws i (0, 0))) (value_of (get_or ws i (0, 0))) (0, 0) c.requires.weights.ascending c.loop-entry-test.true refl refl (c.requires.enough (row_of (get_or ws i (0, 0)))) c.loop-entry.invariant.values

pub loop-entry-preserved : goal.loop-entry-preserved
loop-entry-preserved c =
    let ws = c.args.weights.now in
    let i = c.loop-entry.entry-index in
    let at = row_of (get_or ws i (0, 0)) in
    let inside = row_inside ws c.args.loads.now c.loop-entry.loads i c.requires.weights c.loop-entry-test.true c.loop-entry.invariant.room in
    let enough = entry_held (length c.args.loads.now) ws c.args.loads.now c.loop-entry.loads i at (value_of (get_or ws i (0, 0))) (0, 0) c.requires.weights.ascending c.loop-entry-test.true refl refl (c.requires.enough at) c.loop-entry.invariant.values in
    record {
      values = taken_less (length c.args.loads.now) ws c.args.loads.now c.loop-entry.loads i (i + 1) at (value_of (get_or ws i (0, 0))) (0, 0) c.requires.weights.ascending (omega arith) c.loop-entry-test.true inside refl refl enough c.loop-entry.invariant.values;
      room = length-set c.loop-entry.loads at _ ∙ c.loop-entry.invariant.room;
    }
