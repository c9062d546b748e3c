use Rattle.std.proofs.Common.{◌+◌, ◌∷◌, None, refl, ap}
use Rattle.placement_programme.specs.Views.{plain_side}
use Rattle.branch_bound.specs.Ranking.{number_at}
use Rattle.branch_bound.specs.Trails.{steps_on, nodes_on}
use Rattle.branch_bound.specs.declared.open_branches.OpenBranch.{OpenBranch}
use Rattle.branch_bound.specs.declared.open_branches.OpenBranch.TheVariants.{ToOne, ToZero}
use Rattle.branch_bound.proofs.FindLemmas.{OpenedIn, FoundIn, lowered_visit, joins, opened_free}
use Rattle.branch_bound.proofs.TrailLemmas.{behind_same, turned, joined}
use Rattle.branch_bound.proofs.searching.leave.Goals as goal

pub returns-in_ok-step_to-in-ToOne-clause-stands : goal.returns-in_ok-step_to-in-ToOne-clause-stands
returns-in_ok-step_to-in-ToOne-clause-stands c root start run behind =
    let task = c.args.task.now in
    let number = number_at task.ranking.now in
    let steps = steps_on c.args.trail.now in
    let nodes = nodes_on c.args.trail.now in
    let marks = c.args.node.now.marks.items in
    let place = c.in-ToOne.place in
    let now = c.fix_zero.new.self.marks.items in
    let there = behind_same number (OpenedIn task) (FoundIn task) root start (c.args.last ∷ steps) (ToOne place ∷ steps) nodes nodes marks run (ap (λ (last : OpenBranch). last ∷ steps) c.in-ToOne.is) refl behind in
    record {
      way = turned number (OpenedIn task) (FoundIn task) root start place steps (steps_on c.step_to.new.trail) nodes (nodes_on c.step_to.new.trail) marks now run c.in_ok-step_to-in-ToOne.ensures.steps c.in_ok-step_to-in-ToOne.ensures.closed c.fix_zero.ensures.marks there;
      visit = lowered_visit task.on (plain_side task.side.now) task.ranking.now root start place steps nodes marks now run record { place = place + 1; raised = None } c.fix_zero.ensures.marks refl there;
    }

pub returns-in_ok-join-in-ToZero-clause-stands : goal.returns-in_ok-join-in-ToZero-clause-stands
returns-in_ok-join-in-ToZero-clause-stands c root start run behind =
    let s = plain_side c.args.task.now.side.now in
    let on = c.args.task.now.on in
    let ranking = c.args.task.now.ranking.now in
    joined (number_at ranking) (OpenedIn c.args.task.now) (FoundIn c.args.task.now) root start (joins on s ranking c.args.task.now.side.now.bounds.few_vars) (opened_free on s ranking) c.in-ToZero.place (steps_on c.args.trail.now) (steps_on c.join.new.trail) (nodes_on c.args.trail.now) (nodes_on c.join.new.trail) c.args.node.now.marks.items c.free.new.self.marks.items run c.in_ok-join-in-ToZero.ensures.steps c.free.ensures.marks c.in_ok-join-in-ToZero.ensures.closed
    (behind_same (number_at ranking) (OpenedIn c.args.task.now) (FoundIn c.args.task.now) root start (c.args.last ∷ steps_on c.args.trail.now) (ToZero c.in-ToZero.place ∷ steps_on c.args.trail.now) (nodes_on c.args.trail.now) (nodes_on c.args.trail.now) c.args.node.now.marks.items run (ap (λ (last : OpenBranch). last ∷ steps_on c.args.trail.now) c.in-ToZero.is) refl behind)
