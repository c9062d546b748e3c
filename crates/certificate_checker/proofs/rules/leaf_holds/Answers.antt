use Rattle.std.proofs.Common.{map, arith}
use Rattle.placement_programme.specs.Plain.{plain_var}
use Rattle.certificate_checker.proofs.Limits.{ones_small}
use Rattle.certificate_checker.proofs.rules.leaf_holds.Goals as goal

pub overflow_add-total : goal.overflow_add-total
overflow_add-total c =
    let side = c.args.side.now in
    let small = ones_small (map plain_var side.vars.items) c.args.marks.now c.loop-number.number (omega (arith, c.loop-number-test.true, c.var_count-number-end.ensures.value)) in
    let so_far = c.loop-number.invariant.value in
    let here = c.gain_of_var-total.ensures in
    let total = side.bounds.gains in
    omega (arith, small, so_far, here, total)
