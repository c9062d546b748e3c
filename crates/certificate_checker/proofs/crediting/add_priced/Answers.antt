use Rattle.std.proofs.Common.{◌≡◌, ◌<◌, ◌+◌, ◌*◌, length, take, get_or, refl, ap, sym, subst, arith}
use Rattle.placement_programme.specs.Bounds.{row_of}
use Rattle.placement_programme.specs.Programme.{weight_in}
use Rattle.placement_programme.specs.Views.{plain_side}
use Rattle.placement_programme.proofs.AscendLemmas.{row_below}
use Rattle.certificate_checker.specs.Prices.{priced_at, credits, AreFrom}
use Rattle.certificate_checker.proofs.Limits.{rows_few}
use Rattle.certificate_checker.proofs.EntryLemmas.{weight_before}
use Rattle.certificate_checker.proofs.CreditLemmas.{stamped_more, credits_more, from_set}
use Rattle.certificate_checker.proofs.crediting.add_priced.Goals as goal

pub add_price-total-requires-clause-number : goal.add_price-total-requires-clause-number
add_price-total-requires-clause-number c =
    row_below 0 _ c.args.entries.now c.loop-entry.entry-index (0, 0) c.requires.weights.ascending c.loop-entry-test.true

pub add_price-total-requires-clause-small : goal.add_price-total-requires-clause-small
add_price-total-requires-clause-small c =
    let ws = c.args.entries.now in
    let i = c.loop-entry.entry-index in
    let j = row_of (get_or ws i (0, 0)) in
    let none = ap (λ n. c.args.multiplier * n) (weight_before 0 _ ws i j (0, 0) c.requires.weights.ascending c.loop-entry-test.true refl) in
    let now = c.loop-entry.invariant.values j in
    let old = c.requires.small j in
    let more = c.product.ensures.small in
    omega (arith, none, now, old, more)

pub overflow_add-total : goal.overflow_add-total
overflow_add-total c =
    let few = rows_few _ c.args.entries.now c.requires.weights.ascending in
    let vars = c.args.pricing.now.side.now.bounds.few_vars in
    let inside = c.loop-entry-test.true in
    let least = c.loop-entry.invariant.least in
    let growth = c.add_price-total.ensures.least in
    let weight = c.product.ensures.small in
    omega (arith, few, vars, inside, least, growth, weight)

pub returns-clause-least : goal.returns-clause-least
returns-clause-least c =
    let few = rows_few _ c.args.entries.now c.requires.weights.ascending in
    let vars = c.args.pricing.now.side.now.bounds.few_vars in
    let least = c.loop-entry.invariant.least in
    let within = c.loop-entry.auto.entry-index-end in
    omega (arith, few, vars, least, within)

pub loop-entry-preserved : goal.loop-entry-preserved
loop-entry-preserved c =
    let s = plain_side c.args.pricing.now.side.now in
    let stamp = c.args.pricing.now.stamp in
    let ws = c.args.entries.now in
    let i = c.loop-entry.entry-index in
    let at = row_of (get_or ws i (0, 0)) in
    let now = c.loop-entry.prices in
    let is = c.add_price-total.ensures.prices in
    let below = row_below 0 _ ws i (0, 0) c.requires.weights.ascending c.loop-entry-test.true in
    let few = c.requires.room in
    let same = c.loop-entry.auto.prices in
    let room : at < length now = omega (arith, below, few, same) in
    let least = c.loop-entry.invariant.least in
    let growth = c.add_price-total.ensures.least in
    let weight = c.product.ensures.small in
    record {
      values = λ j. subst (λ ps. priced_at stamp ps j ≡ priced_at stamp c.args.prices.now j + c.args.multiplier * weight_in (take (i + 1) ws) j) (sym is)
          (stamped_more _ c.args.multiplier stamp ws (priced_at stamp c.args.prices.now) now i (i + 1) at c.product.result (0, 0) c.requires.weights.ascending (omega arith) c.loop-entry-test.true room refl c.product.ensures.value c.loop-entry.invariant.values j);
      credits =
          let so_far = c.loop-entry.invariant.credits in
          let more = credits_more s c.args.pricing.now.marks.now c.args.pricing.now.scale stamp now at (priced_at stamp now at + c.product.result) c.add_price-total.result below room c.add_price-total.ensures.credit in
          let there = ap (λ ps. credits s c.args.pricing.now.marks.now c.args.pricing.now.scale (priced_at stamp ps)) is in
          omega (arith, so_far, more, there);
      least = omega (arith, least, growth, weight);
      stamps = λ limit order all. subst (λ ps. AreFrom limit ps) (sym is) (from_set limit stamp now at _ order (c.loop-entry.invariant.stamps limit order all));
    }
