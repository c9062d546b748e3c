use Rattle.std.proofs.Common.{◌∙◌, ap, arith}
use Rattle.placement_programme.specs.Views.{plain_side}
use Rattle.certificate_checker.specs.Prices.{priced_at}
use Rattle.certificate_checker.proofs.CreditLemmas.{credit_small, credits_few}
use Rattle.certificate_checker.proofs.LastLemmas.{credit_moved}
use Rattle.certificate_checker.proofs.dual_prices.DualPrices.follow.Goals as goal

pub overflow_add-self : goal.overflow_add-self
overflow_add-self c =
    let s = plain_side c.args.side.now in
    let p = c.args.self.now in
    let last = c.requires.last.1.0 in
    let few = credits_few s c.args.marks.now p.scale (priced_at p.stamp p.list.items) p.loaded.credit c.args.side.now.bounds last.loaded.lowest last.credit in
    let rows = c.args.side.now.bounds.few_rows in
    let low = last.loaded.lowest c.args.number in
    let priced = c.price_now-price.ensures ∙ ap (λ l. priced_at p.stamp l c.args.number) c.deref.ensures.value in
    let more = c.credit_of-more.ensures in
    let small = credit_small c.args.fixing c.scaled_gain-gain.result c.price_now-price.result in
    omega (arith, few, rows, low, priced, more, small)

pub overflow_sub-self : goal.overflow_sub-self
overflow_sub-self c =
    let p = c.args.self.now in
    let priced = c.price_now-price.ensures ∙ ap (λ l. priced_at p.stamp l c.args.number) c.deref.ensures.value in
    let moved = credit_moved (plain_side c.args.side.now) c.args.marks.now p.scale (priced_at p.stamp p.list.items) c.args.number _ c.args.fixing _ _ _ _ _ c.requires.number c.requires.marked priced c.scaled_gain-gain.ensures c.fixing_of.ensures c.credit_of-more.ensures c.credit_of-less.ensures c.requires.last.1.0.credit in
    omega (arith, moved)

pub returns-clause-last : goal.returns-clause-last
returns-clause-last c =
    let p = c.args.self.now in
    let last = c.requires.last.1.0 in
    let priced = c.price_now-price.ensures ∙ ap (λ l. priced_at p.stamp l c.args.number) c.deref.ensures.value in
    let moved = credit_moved (plain_side c.args.side.now) c.args.marks.now p.scale (priced_at p.stamp p.list.items) c.args.number _ c.args.fixing _ _ _ _ _ c.requires.number c.requires.marked priced c.scaled_gain-gain.ensures c.fixing_of.ensures c.credit_of-more.ensures c.credit_of-less.ensures last.credit in (
      c.requires.last.0,
      (record { least = last.least; most = last.most; loaded = last.loaded; credit = omega (arith, moved) }, c.requires.last.1.1),
    )
