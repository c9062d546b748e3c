use Rattle.std.proofs.Common.{◌≡◌, ap, length, refl, rules, sym, subst, arith}
use Rattle.placement_programme.specs.Programme.{taken_gains, Fits}
use Rattle.placement_programme.specs.Views.{plain_side}
use Rattle.branch_bound.specs.Assignments.{taken}
use Rattle.branch_bound.proofs.IncumbentLemmas.{keeps_new}
use Rattle.certificate_checker.proofs.TallyLemmas.{gains_bounded}
use Rattle.branch_bound.proofs.ExceedLemmas.{tally_gains}
use Rattle.branch_bound.proofs.improving.improve.Goals as goal

pub returns-in_ok-best-clause-gain : goal.returns-in_ok-best-clause-gain
returns-in_ok-best-clause-gain c =
    let is = tally_gains (plain_side c.args.side.now) c.args.node.now c.requires.tallies in
    let more = c.if-node-best.true in
    omega (arith, is, more)

pub returns-in_ok-best-clause-small : goal.returns-in_ok-best-clause-small
returns-in_ok-best-clause-small c =
    let small = gains_bounded (plain_side c.args.side.now) c.args.node.now c.args.side.now.bounds c.requires.tallies in
    omega (arith, small)

pub returns-in_ok-best-clause-keeps : goal.returns-in_ok-best-clause-keeps
returns-in_ok-best-clause-keeps c =
    let s = plain_side c.args.side.now in
    let same : c.in_ok-best.field-0.items ≡ c.args.node.now.marks.items = search rules in
    let is = tally_gains s c.args.node.now c.requires.tallies in
    let there = ap (λ ms. taken_gains s (taken s ms)) same in
    let long = ap length same in
    let marked = c.requires.tallies.marked in
    let more = c.if-node-best.true in
    keeps_new c.args.on s c.args.best.now _ refl (subst (λ ms. Fits s (taken s ms)) (sym same) c.requires.fits) (omega (arith, is, there, more)) (omega (arith, more)) (omega (arith, long, marked))

pub returns-else-node-best-clause-gain : goal.returns-else-node-best-clause-gain
returns-else-node-best-clause-gain c =
    let is = tally_gains (plain_side c.args.side.now) c.args.node.now c.requires.tallies in
    let less = c.if-node-best.false in
    omega (arith, is, less)
