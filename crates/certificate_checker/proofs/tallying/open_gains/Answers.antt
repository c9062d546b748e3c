use Rattle.std.proofs.Common.{arith}
use Rattle.placement_programme.specs.Views.{plain_side}
use Rattle.certificate_checker.proofs.TallyLemmas.{open_small}
use Rattle.certificate_checker.proofs.tallying.open_gains.Goals as goal

pub overflow_add-total : goal.overflow_add-total
overflow_add-total c =
    let side = c.args.side.now in
    let small = open_small (plain_side side) c.args.marks.now c.loop-number.number (omega (arith, c.loop-number-test.true, c.var_count-number-end.ensures.value)) in
    let so_far = c.loop-number.invariant in
    let here = c.gain_of_var-total.ensures in
    let total = side.bounds.gains in
    omega (arith, small, so_far, here, total)

pub overflow_add-total-in-Free : goal.overflow_add-total-in-Free
overflow_add-total-in-Free c =
    let side = c.args.side.now in
    let small = open_small (plain_side side) c.args.marks.now c.loop-number.number (omega (arith, c.loop-number-test.true, c.var_count-number-end.ensures.value)) in
    let so_far = c.loop-number.invariant in
    let here = c.gain_of_var-total-in-Free.ensures in
    let total = side.bounds.gains in
    omega (arith, small, so_far, here, total)
