use Rattle.std.proofs.Common.{◌≤◌, length, sym, subst}
use Rattle.placement_programme.specs.Views.{plain_side}
use Rattle.certificate_checker.specs.Prices.{priced_at}
use Rattle.certificate_checker.specs.Nodes.{dual}
use Rattle.certificate_checker.specs.LastDuals.{IsLast, IsPricedBy}
use Rattle.certificate_checker.proofs.CreditLemmas.{credits_few}
use Rattle.certificate_checker.proofs.TallyLemmas.{bound_small}
use Rattle.certificate_checker.proofs.text_walk.walk_dual.Goals as goal

pub load_dual-requires-clause-marked : goal.load_dual-requires-clause-marked
load_dual-requires-clause-marked c =
    subst (λ ms. length (plain_side c.args.task.now.side.now).vars ≤ length ms) (sym c.deref.ensures.value) c.requires.tallies.marked

pub load_dual-requires-clause-last : goal.load_dual-requires-clause-last
load_dual-requires-clause-last c =
    subst (λ ms. IsLast (plain_side c.args.task.now.side.now) ms c.args.prices.now) (sym c.deref.ensures.value) c.requires.last

pub loaded_holds-holds-requires-clause-open_gain : goal.loaded_holds-holds-requires-clause-open_gain
loaded_holds-holds-requires-clause-open_gain c =
    bound_small (plain_side c.args.task.now.side.now) c.args.assignment.now c.args.task.now.side.now.bounds c.requires.tallies

pub loaded_holds-holds-requires-clause-credit : goal.loaded_holds-holds-requires-clause-credit
loaded_holds-holds-requires-clause-credit c =
    let s = plain_side c.args.task.now.side.now in
    let p = c.load_dual.new.prices in
    let priced = c.in_ok-rest.ensures.loads.1.1 in
    credits_few s _ p.scale (priced_at p.stamp p.list.items) p.loaded.credit c.args.task.now.side.now.bounds priced.loaded.lowest priced.credit

pub returns-clause-last : goal.returns-clause-last
returns-clause-last c =
    let loads = c.in_ok-rest.ensures.loads in
    subst (λ ms. IsLast (plain_side c.args.task.now.side.now) ms c.load_dual.new.prices) c.deref.ensures.value (loads.0, (loads.1.1, loads.1.2))

pub returns-clause-read : goal.returns-clause-read
returns-clause-read c =
    let task = c.args.task.now in
    let s = plain_side task.side.now in
    let p = c.load_dual.new.prices in
    let price = priced_at p.stamp p.list.items in
    let loads = c.in_ok-rest.ensures.loads in
    let tree = dual p.scale loads.0 in
    let priced = subst (λ ms. IsPricedBy s ms p loads.0) c.deref.ensures.value loads.1.1 in (
      tree,
      (
        loads.1.0,
        c.single.ensures s task.best c.args.assignment.now.marks.items tree tt (c.loaded_holds-holds.ensures c.args.assignment.now.marks.items price loads.0 priced.loaded c.requires.tallies.bound priced.credit),
      ),
    )
