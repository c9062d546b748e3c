use Rattle.std.proofs.Common.{map, arith}
use Rattle.std.proofs.lemmas.List.Sums.{sum_by_more, sum_by_more_le, sum_by-take-le}
use Rattle.placement_programme.specs.Plain.{plain_var}
use Rattle.placement_programme.specs.Programme.{gain_at}
use Rattle.placement_programme.proofs.AscendLemmas.{number_below}
use Rattle.placement_programme.proofs.SumLemmas.{code_gains_below}
use Rattle.placement_programme.proofs.WeightLemmas.{taken_gain}
use Rattle.placement_programme.proofs.gains.sum_of_gains.Goals as goal

pub bounds-vars-number : goal.bounds-vars-number
bounds-vars-number c = number_below 0 _ _ _ 0 c.requires.numbers c.loop-number-test.true

pub bounds-vars-number-in-loop-number : goal.bounds-vars-number-in-loop-number
bounds-vars-number-in-loop-number c = number_below 0 _ _ _ 0 c.requires.numbers c.loop-number-test.true

pub overflow_add-total : goal.overflow_add-total
overflow_add-total c =
    let vars = c.args.vars.now in
    let take = c.args.take.now in
    let here = taken_gain vars take c.loop-number.number-index c.index-vars-number.result c.requires.numbers c.loop-number-test.true in
    let more = sum_by_more_le (gain_at (map plain_var vars)) take c.loop-number.number-index 0 c.loop-number-test.true in
    let bound = code_gains_below vars take c.requires.numbers in
    let so_far = c.loop-number.invariant in
    let small = c.requires.below in
    omega (arith, here, more, bound, so_far, small)

pub loop-number-preserved : goal.loop-number-preserved
loop-number-preserved c =
    let here = taken_gain c.args.vars.now c.args.take.now c.loop-number.number-index c.index-vars-number.result c.requires.numbers c.loop-number-test.true in
    let more = sum_by_more (gain_at (map plain_var c.args.vars.now)) c.args.take.now c.loop-number.number-index 0 c.loop-number-test.true in
    let so_far = c.loop-number.invariant in
    omega (arith, here, more, so_far)

pub returns-clause-small : goal.returns-clause-small
returns-clause-small c =
    let part = sum_by-take-le (gain_at (map plain_var c.args.vars.now)) c.args.take.now c.loop-number.number-index in
    let bound = code_gains_below c.args.vars.now c.args.take.now c.requires.numbers in
    let so_far = c.loop-number.invariant in
    let small = c.requires.below in
    omega (arith, part, bound, so_far, small)
