use Rattle.std.proofs.Common.{ℕ, false, if◌then◌else◌, length, slice_index_or, arith}
use Rattle.energy_model.specs.Copied.{arrivals_in}
use Rattle.energy_model.proofs.SumLemmas.{term_small}
use Rattle.energy_model.proofs.checks.count_checks.Goals as goal

pub overflow_add-total : goal.overflow_add-total
overflow_add-total c =
    let f = λ (b : ℕ). if slice_index_or c.args.borders.now b false then arrivals_in c.args.profile.now b else 0 in
    let few = c.requires.few in
    let small = term_small f c.loop-b.b (length c.args.borders.now) 1000000000001 c.loop-b-test.true (omega (arith, few)) in
    let so_far = c.loop-b.invariant in
    let here = c.checks_at-total.ensures in
    omega (arith, small, so_far, here)
