use Rattle.std.proofs.Common.{◌∙◌, arith}
use Rattle.energy_model.proofs.DisplacedLemmas.{home_paid}
use Rattle.energy_model.proofs.EnteringLemmas.{checks_same, few_at_borders}
use Rattle.energy_model.proofs.overlaying.overlay_cost.Goals as goal

pub count_checks-requires-clause-few : goal.count_checks-requires-clause-few
count_checks-requires-clause-few c =
    few_at_borders c.args.code.now c.args.regions.now c.args.graph.now c.args.profile.now c.deref.result.now c.requires.overlay c.deref.ensures.value

pub checks_price-checks-requires : goal.checks_price-checks-requires
checks_price-checks-requires c =
    let few = few_at_borders c.args.code.now c.args.regions.now c.args.graph.now c.args.profile.now c.deref.result.now c.requires.overlay c.deref.ensures.value in
    let checks = c.count_checks.ensures in
    omega (arith, few, checks)

pub first_words-requires : goal.first_words-requires
first_words-requires c = record { counts = (c.args.graph.now, (c.requires.counts, c.requires.overlay)) }

pub overflow_sub-result : goal.overflow_sub-result
overflow_sub-result c =
    let checks = c.count_checks.ensures ∙ checks_same c.args.code.now c.args.regions.now c.args.graph.now c.args.profile.now c.deref.result.now c.requires.overlay c.deref.ensures.value in
    let first = c.first_words.ensures.sum in
    let enough = c.requires.overlay.enough in
    let paid = home_paid c.first_words.result c.count_checks.result c.args.board.now.prices.main_fetch c.args.board.now.prices.main_read c.from-fetch.result c.checks_price-checks.result
    (omega (arith, checks, first, enough)) c.from-fetch.ensures c.checks_price-checks.ensures.sum in
    omega (arith, paid)
