use Rattle.std.proofs.Common.{◌≡◌, ◌+◌, ◌-◌, ◌<◌, length, get_or, slice_index, refl, sym, arith}
use Rattle.std.proofs.lemmas.List.{length-set}
use Rattle.placement_programme.specs.Bounds.{row_of}
use Rattle.placement_programme.proofs.FitLemmas.{none_before, none_behind, first_of_row, load_more}
use Rattle.placement_programme.proofs.fitting.add_weights.Goals as goal

pub loop-i-init : goal.loop-i-init
loop-i-init c = record {
  len = refl;
  sums = λ k below.
      let none = none_before c.args.weights.now c.count_before-i.result (c.args.low + k) (λ j before inside same. let less = c.count_before-i.ensures.before j before in omega (arith, less, same)) in
      omega (arith, none);
}

-- where row of entry `i` stands among the rows
pub overflow_add-loads : goal.overflow_add-loads
overflow_add-loads c =
    let i = c.loop-i.i in
    let inside : i < length c.args.weights.now = omega (arith, c.loop-i-test.true, c.count_before-i-end.ensures.bound) in
    let from = c.count_before-i.ensures.behind i (omega (arith, c.loop-i.auto.i)) inside in
    let to = c.count_before-i-end.ensures.before i (omega (arith, c.loop-i-test.true)) in
    let ws = c.args.weights.now in
    let row = row_of (get_or ws i (0, 0)) in
    let below : row - c.args.low < length c.loop-i.loads = omega (arith, from, to, c.loop-i.invariant.len) in
    let so_far = c.loop-i.invariant.sums (row - c.args.low) below in
    let here : c.args.low + (row - c.args.low) ≡ row = omega (arith, from) in
    let none = first_of_row c.requires.weights.0 ws i (c.args.low + (row - c.args.low)) c.requires.weights.1.ascending inside (sym here) in
    let room = c.requires.room (row - c.args.low) (omega (arith, below, c.loop-i.invariant.len)) in
    let small = c.requires.weights.1.small i (0, 0) inside in
    omega (arith, so_far, none, room, small)

pub loop-i-preserved : goal.loop-i-preserved
loop-i-preserved c =
    let ws = c.args.weights.now in
    let i = c.loop-i.i in
    let row = row_of (get_or ws i (0, 0)) in
    let inside : i < length ws = omega (arith, c.loop-i-test.true, c.count_before-i-end.ensures.bound) in
    let from = c.count_before-i.ensures.behind i (omega (arith, c.loop-i.auto.i)) inside in
    let to = c.count_before-i-end.ensures.before i (omega (arith, c.loop-i-test.true)) in
    let within : row - c.args.low < length c.loop-i.loads = omega (arith, from, to, c.loop-i.invariant.len) in
    let here : c.args.low + (row - c.args.low) ≡ row = omega (arith, from) in
    let len = length-set c.loop-i.loads (row - c.args.low) (slice_index c.loop-i.loads (row - c.args.low) + (get_or ws i (0, 0)).1) in
    record {
      len = omega (arith, len, c.loop-i.invariant.len);
      sums = λ k below.
          load_more c.loop-i.loads ws c.args.low c.requires.weights.0 i (row - c.args.low) k (slice_index c.args.loads.now k) c.requires.weights.1.ascending inside here within
          (c.loop-i.invariant.sums k (omega (arith, below, len)));
    }

pub returns-clause-sums : goal.returns-clause-sums
returns-clause-sums c k below =
    let ws = c.args.weights.now in
    let so_far = c.loop-i.invariant.sums k (omega (arith, below, c.loop-i.invariant.len)) in
    let rest = none_behind ws c.loop-i.i (c.args.low + k) (λ j behind inside same. let more = c.count_before-i-end.ensures.behind j (omega (arith, behind, c.loop-i-test.false, c.loop-i.auto.i-end)) inside in omega (arith, more, same, below)) in
    omega (arith, so_far, rest)
