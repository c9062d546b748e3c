use Rattle.std.proofs.Common.{◌≡◌, ◌∙◌, map, get_or, sym, ap, arith}
use Rattle.std.proofs.lemmas.List.Sums.{sum_by_more}
use Rattle.placement_programme.specs.Plain.{plain_var}
use Rattle.placement_programme.specs.Programme.{weight_at, weight_in}
use Rattle.placement_programme.proofs.AscendLemmas.{number_below}
use Rattle.placement_programme.proofs.WeightLemmas.{at_place, var_weights}
use Rattle.placement_programme.proofs.fitting.weigh_nothing.Goals as goal

pub bounds-vars-number : goal.bounds-vars-number
bounds-vars-number c = number_below 0 _ _ _ 0 c.requires.numbers c.loop-number-test.true

pub names_none-requires : goal.names_none-requires
names_none-requires c =
    let below = number_below 0 _ _ _ 0 c.requires.numbers c.loop-number-test.true in
    let number = get_or c.args.take.now c.loop-number.number-index 0 in
    let same = at_place c.args.vars.now number c.index-vars-number.result below c.index-vars-number.is in
    let whole = c.deref.ensures.value ∙ sym same in
    (c.requires.weights.0, rw whole (var_weights c.requires.weights.0 c.args.vars.now number c.requires.weights.1 below))

pub loop-number-preserved : goal.loop-number-preserved
loop-number-preserved c row from to =
    let i = c.loop-number.number-index in
    let vars = c.args.vars.now in
    let number = get_or c.args.take.now i 0 in
    let below = number_below 0 _ _ _ 0 c.requires.numbers c.loop-number-test.true in
    let same = at_place vars number c.index-vars-number.result below c.index-vars-number.is in
    let here : weight_in c.deref.result.now row ≡ weight_at (map plain_var vars) row number = ap (λ ws. weight_in ws row) (c.deref.ensures.value ∙ sym same) in
    let nothing = c.names_none.ensures c.if-not-names_none.false row from to in
    let more = sum_by_more (weight_at (map plain_var vars) row) c.args.take.now i 0 c.loop-number-test.true in
    omega (arith, here, nothing, more, c.loop-number.invariant row from to)
