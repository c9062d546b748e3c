use Rattle.std.proofs.Common.{◌≡◌, ◌+◌, ◌<◌, [], ◌∷◌, false}
use Rattle.branch_bound.specs.SideStands.{number_itself, side_ahead, is_side_ended}
use Rattle.branch_bound.specs.Trails.{steps_on, nodes_on}
use Rattle.branch_bound.specs.declared.side_incumbents.Incumbent.{Incumbent}
use Rattle.branch_bound.specs.declared.side_stands.Stand.{Stand}
use Rattle.branch_bound.specs.declared.side_stands.Stand.TheVariants.{Behind}
use Rattle.branch_bound.proofs.SideFindLemmas.{OpenedIn, FoundIn, stands_behind, beside, ended_side_ahead, less_side_ahead}
use Rattle.branch_bound.proofs.TrailLemmas.{behind_same, whole_found, if_ok_more}
use Rattle.branch_bound.proofs.side_searching.advance.Goals as goal

pub returns-in-None-clause-stands : goal.returns-in-None-clause-stands
returns-in-None-clause-stands g c root start stands =
    let answers = g.G.Guide.answers in
    let task = c.args.task.now in
    let nodes = nodes_on c.args.trail.now in
    let now = beside c.args.guide.now c.args.best.now in
    let behind = behind_same number_itself (OpenedIn answers task) (FoundIn answers task) root start (steps_on c.args.trail.now) [] nodes (nodes_on c.step_back.new.trail) c.args.marks.now now c.in-None.ensures.steps.0 c.in-None.ensures.closed (stands_behind answers task root start c.args.trail.now c.args.marks.now now c.args.stand c.in-Behind.is stands) in
    whole_found number_itself (OpenedIn answers task) (FoundIn answers task) root start (nodes_on c.step_back.new.trail) c.args.marks.now now behind

pub returns-in-None-clause-ahead : goal.returns-in-None-clause-ahead
returns-in-None-clause-ahead g c =
    λ going. ended_side_ahead c.args.best.now c.args.trail.now c.step_back.new.trail c.args.stand c.in-Behind.is c.in-None.ensures.steps.1

pub returns-in-Some-clause-stands : goal.returns-in-Some-clause-stands
returns-in-Some-clause-stands g c =
    let answers = g.G.Guide.answers in
    let task = c.args.task.now in
    let now = beside c.args.guide.now c.args.best.now in
    let middle = c.step_back.new.trail in
    if_ok_more _ _ c.leave.result
    (λ next leaves root start stands. leaves root start now (behind_same number_itself (OpenedIn answers task) (FoundIn answers task) root start (steps_on c.args.trail.now) (c.in-Some.last ∷ steps_on middle) (nodes_on c.args.trail.now) (nodes_on middle) c.args.marks.now now c.in-Some.ensures.steps c.in-Some.ensures.closed (stands_behind answers task root start c.args.trail.now c.args.marks.now now c.args.stand c.in-Behind.is stands)))
    c.leave.ensures.stands

pub returns-in-Some-clause-ahead : goal.returns-in-Some-clause-ahead
returns-in-Some-clause-ahead g c =
    if_ok_more (λ (next : Stand). (best : Incumbent) → side_ahead best c.leave.new.trail next < side_ahead best c.step_back.new.trail Behind + 3)
    (λ (next : Stand). is_side_ended c.args.stand ≡ false → side_ahead c.args.best.now c.leave.new.trail next < side_ahead c.args.best.now c.args.trail.now c.args.stand)
    c.leave.result
    (λ next less going. less_side_ahead c.args.best.now c.args.trail.now c.step_back.new.trail c.leave.new.trail c.in-Some.last c.args.stand next c.in-Behind.is c.in-Some.ensures.steps (less c.args.best.now))
    c.leave.ensures.ahead
