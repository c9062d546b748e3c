use Rattle.std.proofs.Common.{◌≡◌, ◌∙◌, ◌<◌, length, ap, arith}
use Rattle.list_checks.specs.Sorted.{sum_below}
use Rattle.energy_model.specs.Entering.{displaced_of, if_border}
use Rattle.energy_model.proofs.SumLemmas.{term_small}
use Rattle.energy_model.proofs.EnteringLemmas.{few_displaced}
use Rattle.energy_model.proofs.first_units.displaced_run.Goals as goal

pub overflow_add-total : goal.overflow_add-total
overflow_add-total c =
    let few = few_displaced c.args.code.now c.args.regions.now c.args.graph.now c.args.profile.now c.requires.overlay in
    let inside : c.loop-b.b < length c.args.code.now.blocks.items = grind arith in
    let small = term_small (if_border c.args.regions.now.border.items (displaced_of c.args.code.now c.args.graph.now c.args.profile.now)) c.loop-b.b (length c.args.code.now.blocks.items) 3000000001 inside (omega (arith, few)) in
    let so_far = c.loop-b.invariant in
    let here = c.displaced_of-total.ensures in
    omega (arith, small, so_far, here)

pub returns-clause-small : goal.returns-clause-small
returns-clause-small c =
    let few = few_displaced c.args.code.now c.args.regions.now c.args.graph.now c.args.profile.now c.requires.overlay in
    let done : c.loop-b.b ≡ length c.args.code.now.blocks.items = grind arith in
    let all = c.loop-b.invariant ∙ ap (sum_below (if_border c.args.regions.now.border.items (displaced_of c.args.code.now c.args.graph.now c.args.profile.now))) done in
    omega (arith, few, all)
