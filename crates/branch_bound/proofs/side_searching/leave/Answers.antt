use Rattle.std.proofs.Common.{◌∷◌, slice_set, refl, ap}
use Rattle.placement_programme.specs.Views.{plain_side, plain_programme}
use Rattle.certificate_checker.specs.declared.fixings.Fixing.TheVariants.{Zero, Free}
use Rattle.branch_bound.specs.SideStands.{number_itself}
use Rattle.branch_bound.specs.Trails.{steps_on, nodes_on}
use Rattle.branch_bound.specs.declared.open_branches.OpenBranch.{OpenBranch}
use Rattle.branch_bound.specs.declared.open_branches.OpenBranch.TheVariants.{ToOne, ToZero}
use Rattle.branch_bound.proofs.SideFindLemmas.{OpenedIn, FoundIn, joined_by, opened_by_free}
use Rattle.branch_bound.proofs.TrailLemmas.{behind_same, turned, joined}
use Rattle.branch_bound.proofs.side_searching.leave.Goals as goal

pub returns-in_ok-step_to-in-ToOne-clause-stands : goal.returns-in_ok-step_to-in-ToOne-clause-stands
returns-in_ok-step_to-in-ToOne-clause-stands g c root start now behind =
    let task = c.args.task.now in
    let place = c.in-ToOne.place in
    let steps = steps_on c.args.trail.now in
    turned number_itself (OpenedIn g.G.Guide.answers task) (FoundIn g.G.Guide.answers task) root start place steps (steps_on c.step_to.new.trail) (nodes_on c.args.trail.now) (nodes_on c.step_to.new.trail) c.args.marks.now (slice_set c.args.marks.now place Zero) now c.in_ok-step_to-in-ToOne.ensures.steps c.in_ok-step_to-in-ToOne.ensures.closed refl
    (behind_same number_itself (OpenedIn g.G.Guide.answers task) (FoundIn g.G.Guide.answers task) root start (c.args.last ∷ steps) (ToOne place ∷ steps) (nodes_on c.args.trail.now) (nodes_on c.args.trail.now) c.args.marks.now now (ap (λ (last : OpenBranch). last ∷ steps) c.in-ToOne.is) refl behind)

pub returns-in_ok-join-in-ToZero-clause-stands : goal.returns-in_ok-join-in-ToZero-clause-stands
returns-in_ok-join-in-ToZero-clause-stands g c root start now behind =
    let answers = g.G.Guide.answers in
    let p = plain_programme c.args.task.now.programme.now in
    let s = plain_side c.args.task.now.side.now in
    let on = c.args.task.now.on in
    let place = c.in-ToZero.place in
    joined number_itself (OpenedIn answers c.args.task.now) (FoundIn answers c.args.task.now) root start (joined_by answers p on s c.args.task.now.side.now.bounds.few_vars) (opened_by_free answers p on s) place (steps_on c.args.trail.now) (steps_on c.join.new.trail) (nodes_on c.args.trail.now) (nodes_on c.join.new.trail) c.args.marks.now (slice_set c.args.marks.now place Free) now c.in_ok-join-in-ToZero.ensures.steps refl c.in_ok-join-in-ToZero.ensures.closed
    (behind_same number_itself (OpenedIn answers c.args.task.now) (FoundIn answers c.args.task.now) root start (c.args.last ∷ steps_on c.args.trail.now) (ToZero place ∷ steps_on c.args.trail.now) (nodes_on c.args.trail.now) (nodes_on c.args.trail.now) c.args.marks.now now (ap (λ (last : OpenBranch). last ∷ steps_on c.args.trail.now) c.in-ToZero.is) refl behind)
