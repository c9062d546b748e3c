use Rattle.std.proofs.Common.{◌≡◌, ◌∙◌, ℕ, List, ◌+◌, ◌^◌, ◌<◌, map, length, get_or, slice_index, sym, ap, arith}
use Rattle.std.proofs.lemmas.List.{get_or-replicate, length-replicate}
use Rattle.std.proofs.lemmas.List.Sums.{sum_by_more}
use Rattle.placement_programme.specs.Plain.{plain_var}
use Rattle.placement_programme.specs.Programme.{weight_at, weight_in}
use Rattle.placement_programme.proofs.AscendLemmas.{number_below, count_within}
use Rattle.placement_programme.proofs.WeightLemmas.{at_place, var_weights, weight_small}
use Rattle.placement_programme.proofs.fitting.loads_from.Goals as goal

pub loop-number-init : goal.loop-number-init
loop-number-init c =
    let is = c.no_loads-loads.ensures in
    let len : length c.no_loads-loads.result ≡ 4096 = ap length is ∙ length-replicate {A = ℕ} 4096 0 in
    record {
      len = len;
      sums = λ k below. ap (λ (xs : List ℕ). slice_index xs k) is ∙ get_or-replicate 4096 k 0 0 (omega (arith, below, len));
      small = λ k below. let none : slice_index c.no_loads-loads.result k ≡ 0 = ap (λ (xs : List ℕ). slice_index xs k) is ∙ get_or-replicate 4096 k 0 0 (omega (arith, below, len)) in omega (arith, none);
    }

pub bounds-vars-number : goal.bounds-vars-number
bounds-vars-number c = number_below 0 _ _ _ 0 c.requires.numbers c.loop-number-test.true

pub add_weights-requires-clause-weights : goal.add_weights-requires-clause-weights
add_weights-requires-clause-weights c =
    let below = number_below 0 _ _ _ 0 c.requires.numbers c.loop-number-test.true in
    let number = get_or c.args.take.now c.loop-number.number-index 0 in
    let same = at_place c.args.vars.now number c.index-vars-number.result below c.index-vars-number.is in
    let whole = c.deref.ensures.value ∙ sym same in
    (c.requires.weights.0, rw whole (var_weights c.requires.weights.0 c.args.vars.now number c.requires.weights.1 below))

pub add_weights-requires-clause-room : goal.add_weights-requires-clause-room
add_weights-requires-clause-room c k below =
    let few = count_within 0 (length c.args.vars.now) c.args.take.now (omega arith) c.requires.numbers in
    let so_far = c.loop-number.invariant.small k below in
    omega (arith, few, c.requires.few, so_far, c.loop-number-test.true)

pub loop-number-preserved : goal.loop-number-preserved
loop-number-preserved c =
    let i = c.loop-number.number-index in
    let vars = c.args.vars.now in
    let number = get_or c.args.take.now i 0 in
    let below = number_below 0 _ _ _ 0 c.requires.numbers c.loop-number-test.true in
    let same = at_place vars number c.index-vars-number.result below c.index-vars-number.is in
    let whole = c.deref.ensures.value ∙ sym same in
    let weights = var_weights c.requires.weights.0 vars number c.requires.weights.1 below in
    record {
      len = omega (arith, c.add_weights.ensures.len, c.loop-number.invariant.len);
      sums = λ k inside.
          let row = c.args.low + k in
          let within : k < length c.loop-number.loads = omega (arith, inside, c.add_weights.ensures.len) in
          let here : weight_in c.deref.result.now row ≡ weight_at (map plain_var vars) row number = ap (λ ws. weight_in ws row) whole in
          let added = c.add_weights.ensures.sums k within in
          let more = sum_by_more (weight_at (map plain_var vars) row) c.args.take.now i 0 c.loop-number-test.true in
          omega (arith, here, added, more, c.loop-number.invariant.sums k within);
      small = λ k inside.
          let row = c.args.low + k in
          let within : k < length c.loop-number.loads = omega (arith, inside, c.add_weights.ensures.len) in
          let here : weight_in c.deref.result.now row ≡ weight_at (map plain_var vars) row number = ap (λ ws. weight_in ws row) whole in
          let added = c.add_weights.ensures.sums k within in
          let small = weight_small (2 ^ 32) _ row (omega arith) weights.small in
          omega (arith, here, added, small, c.loop-number.invariant.small k within);
    }
