use Rattle.std.proofs.Common.{◌+◌, ◌*◌, length, sym, ap, subst, arith}
use Rattle.placement_programme.specs.Views.{plain_side}
use Rattle.certificate_checker.specs.Prices.{priced_at}
use Rattle.certificate_checker.specs.RowWise.{IsRowOf}
use Rattle.certificate_checker.proofs.LoadLemmas.{loaded_past, loaded_here}
use Rattle.certificate_checker.proofs.CreditLemmas.{credits_few}
use Rattle.certificate_checker.proofs.loading.load_entry.Goals as goal

pub overflow_add-result-2 : goal.overflow_add-result-2
overflow_add-result-2 c =
    let s = plain_side c.args.pricing.now.side.now in
    let few = credits_few s c.args.pricing.now.marks.now c.args.pricing.now.scale (priced_at c.args.pricing.now.stamp c.args.prices.now) c.args.loaded.credit c.args.pricing.now.side.now.bounds c.requires.low c.requires.credit in
    let least = c.add_priced-credit.ensures.least in
    omega (arith, few, least)

pub returns-then-place-row_count-clause-loaded : goal.returns-then-place-row_count-clause-loaded
returns-then-place-row_count-clause-loaded c ms loaded low =
    let row_end = c.from-row_end.ensures in
    let past = c.if-place-row_count.true in
    let count = c.row_count.ensures in
    loaded_past (plain_side c.args.pricing.now.side.now) (priced_at c.args.pricing.now.stamp c.args.prices.now) c.args.loaded.row_end c.args.loaded.bound c.args.row c.args.multiplier (c.from-row_end.result + 1) ms loaded low (omega (arith, past, count)) (omega (arith, row_end))

pub returns-clause-loaded : goal.returns-clause-loaded
returns-clause-loaded c ms loaded low =
    let s = plain_side c.args.pricing.now.side.now in
    let row = c.args.row in
    let row_end = c.from-row_end.ensures in
    let inside = c.if-place-row_count.false in
    let count = c.row_count.ensures in
    let rows = c.requires.by_row.count in
    let value = c.product-more.ensures.value in
    let small = c.product-more.ensures.small in
    let capacity = ap (λ n. c.args.multiplier * n) c.capacity_of_row.ensures.value in
    let few = c.ranges.multiplier.fits in
    let here = subst (λ es. IsRowOf s.vars (length s.vars) row es) (sym c.row.ensures) (c.requires.by_row.rows row (omega (arith, inside, count, rows))) in
    loaded_here s (priced_at c.args.pricing.now.stamp c.args.prices.now) (priced_at c.args.pricing.now.stamp c.add_priced-credit.new.prices) c.row.result.now c.args.loaded.row_end c.args.loaded.bound row c.args.multiplier (c.from-row_end.result + 1) (c.args.loaded.bound + c.product-more.result) ms loaded here c.add_priced-credit.ensures.values (omega (arith, few)) low (omega (arith, inside, count)) (omega (arith, row_end)) (omega (arith, value, capacity)) (omega (arith, value, capacity, small))
