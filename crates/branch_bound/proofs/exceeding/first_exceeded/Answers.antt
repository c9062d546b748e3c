use Rattle.std.proofs.Common.{length, arith}
use Rattle.placement_programme.proofs.AscendLemmas.{row_below}
use Rattle.branch_bound.proofs.exceeding.first_exceeded.Goals as goal

pub bounds-loads-row : goal.bounds-loads-row
bounds-loads-row c =
    let below = row_below 0 (length c.args.rows.now) c.args.weights.now c.loop-entry.entry-index (0, 0) c.requires.weights.ascending c.loop-entry-test.true in
    let room = c.requires.room in
    omega (arith, below, room)

pub bounds-rows-row : goal.bounds-rows-row
bounds-rows-row c =
    row_below 0 (length c.args.rows.now) c.args.weights.now c.loop-entry.entry-index (0, 0) c.requires.weights.ascending c.loop-entry-test.true
