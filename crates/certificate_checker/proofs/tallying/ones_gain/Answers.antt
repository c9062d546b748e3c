use Rattle.std.proofs.Common.{◌+◌, map, arith}
use Rattle.placement_programme.specs.Plain.{plain_var}
use Rattle.placement_programme.specs.Programme.{gain_at}
use Rattle.placement_programme.specs.Views.{plain_side}
use Rattle.certificate_checker.proofs.Limits.{ones_small}
use Rattle.certificate_checker.proofs.TallyLemmas.{sum_one, sum_other}
use Rattle.certificate_checker.proofs.tallying.ones_gain.Goals as goal
use Rattle.certificate_checker.proofs.tallying.ones_gain.Goals.{then-is_one, else-is_one}

pub overflow_add-total : goal.overflow_add-total
overflow_add-total c =
    let side = c.args.side.now in
    let small = ones_small (map plain_var side.vars.items) c.args.marks.now c.loop-number.number (omega (arith, c.loop-number-test.true, c.var_count-number-end.ensures.value)) in
    let so_far = c.loop-number.invariant in
    let here = c.gain_of_var-total.ensures in
    let total = side.bounds.gains in
    omega (arith, small, so_far, here, total)

pub loop-number-preserved : goal.loop-number-preserved
loop-number-preserved c =
    let s = plain_side c.args.side.now in
    let n = c.loop-number.number in
    elim c.if-is_one.branch [
      | then-is_one w ↦ sum_one (gain_at s.vars) c.args.marks.now n (n + 1) c.loop-number.total c.if-is_one.total (omega arith) (c.is_one.ensures.0 w.if-is_one.true) c.loop-number.invariant (let is = w.total-is in let here = w.gain_of_var-total.ensures in omega (arith, is, here))
      | else-is_one w ↦ sum_other (gain_at s.vars) c.args.marks.now n (n + 1) c.loop-number.total c.if-is_one.total (omega arith) (λ one. let found = c.is_one.ensures.1 one in let missed = w.if-is_one.false in cc) c.loop-number.invariant w.total-is
    ]
