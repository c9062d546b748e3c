use Rattle.std.proofs.Common.{◌<◌, length, arith}
use Rattle.energy_model.specs.Entering.{first_of, if_border}
use Rattle.energy_model.proofs.SumLemmas.{term_small}
use Rattle.energy_model.proofs.EnteringLemmas.{few_first}
use Rattle.energy_model.proofs.first_units.first_words.Goals as goal

pub overflow_add-total : goal.overflow_add-total
overflow_add-total c =
    let (g, (code, overlay)) = c.requires.counts in
    let few = few_first c.args.code.now c.args.regions.now g c.args.profile.now overlay in
    let inside : c.loop-b.b < length c.args.code.now.blocks.items = grind arith in
    let small = term_small (if_border c.args.regions.now.border.items (first_of c.args.code.now c.args.profile.now)) c.loop-b.b (length c.args.code.now.blocks.items) 2000000001 inside (omega (arith, few)) in
    let so_far = c.loop-b.invariant in
    let here = c.first_of-total.ensures in
    omega (arith, small, so_far, here)
