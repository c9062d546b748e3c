use Rattle.std.proofs.Common.{◌≡◌, ◌∙◌, ℕ, ◌+◌, ◌≤◌, List, length, ap, refl, subst, arith}
use Rattle.placement_programme.specs.Plain.{PlainSide}
use Rattle.placement_programme.specs.Programme.{taken_gains}
use Rattle.placement_programme.specs.Views.{plain_side}
use Rattle.certificate_checker.specs.declared.fixings.Fixing.{Fixing}
use Rattle.branch_bound.specs.Assignments.{taken}
use Rattle.branch_bound.specs.Greedy.{Grows}
use Rattle.certificate_checker.specs.Tallies.{AreTallies}
use Rattle.branch_bound.specs.declared.incumbents.Incumbent.{Incumbent}
use Rattle.certificate_checker.specs.declared.assignments.Assignment.{Assignment}
use Rattle.branch_bound.proofs.SolveLemmas.{grown_gains, grown_incumbent, grown_closed}
use Rattle.certificate_checker.proofs.TallyLemmas.{gains_bounded}
use Rattle.branch_bound.proofs.ExceedLemmas.{tally_gains}
use Rattle.branch_bound.proofs.finishing.grown.Goals as goal

gains_more : (s : PlainSide) (start marks : List Fixing) (node : Assignment) (gain : ℕ) → start ≡ marks → Grows s start (length s.vars) node.marks.items → AreTallies s node → taken_gains s (taken s marks) ≡ gain + s.fixed → gain + s.fixed ≤ node.gains
gains_more s start marks node gain same grows tallies sum =
    grown_gains s start node.marks.items gain node.gains grows (ap (λ ms. taken_gains s (taken s ms)) same ∙ sum) (tally_gains s node tallies)

pub overflow_sub-gain : goal.overflow_sub-gain
overflow_sub-gain c =
    let enough = gains_more (plain_side c.args.side.now) c.in_ok-node.node.marks.items c.args.best.marks.items c.grow.new.node c.args.best.gain c.in_ok-node.ensures.marks c.grow.ensures.grows c.grow.ensures.tallies c.requires.sum in
    omega (arith, enough)

pub returns-clause-grows : goal.returns-clause-grows
returns-clause-grows c =
    let enough = gains_more (plain_side c.args.side.now) c.in_ok-node.node.marks.items c.args.best.marks.items c.grow.new.node c.args.best.gain c.in_ok-node.ensures.marks c.grow.ensures.grows c.grow.ensures.tallies c.requires.sum in
    omega (arith, enough)

pub returns-clause-small : goal.returns-clause-small
returns-clause-small c =
    let small = gains_bounded (plain_side c.args.side.now) c.grow.new.node c.args.side.now.bounds c.grow.ensures.tallies in
    omega (arith, small)

pub returns-clause-incumbent : goal.returns-clause-incumbent
returns-clause-incumbent c =
    let s = plain_side c.args.side.now in
    let grows = subst (λ ms. Grows s ms (length s.vars) c.grow.new.node.marks.items) c.in_ok-node.ensures.marks c.grow.ensures.grows in
    λ p is. grown_incumbent p s c.args.best _ c.grow.new.node.gains is refl grows c.requires.fits c.requires.sum c.requires.some c.requires.marked (tally_gains s c.grow.new.node c.grow.ensures.tallies) refl

pub returns-clause-cannot : goal.returns-clause-cannot
returns-clause-cannot c =
    let s = plain_side c.args.side.now in
    let grows = subst (λ ms. Grows s ms (length s.vars) c.grow.new.node.marks.items) c.in_ok-node.ensures.marks c.grow.ensures.grows in
    let more : Incumbent = record { on = c.args.best.on; gain = 0; marks = c.grow.new.node.marks } in
    λ p is. grown_closed p s c.args.best more is refl grows c.requires.marked
