use Rattle.std.proofs.Common.{◌+◌, suc, ◌≡◌, Some, refl, subst, arith}
use Rattle.placement_programme.specs.Views.{plain_side}
use Rattle.certificate_checker.specs.NodeLists.{node_tree}
use Rattle.certificate_checker.specs.NodeViews.{plain_node}
use Rattle.branch_bound.specs.Ranking.{number_at}
use Rattle.branch_bound.specs.Searching.{IsOpened, Finds, Visits}
use Rattle.branch_bound.specs.Trails.{steps_on, nodes_on}
use Rattle.branch_bound.specs.declared.visiting.Visit.{Visit}
use Rattle.branch_bound.proofs.FindLemmas.{finds_none, finds_closed, breaks_first, breaks_second, raised_visit}
use Rattle.branch_bound.proofs.TrailLemmas.{closed_nodes, broken_off, closed_now, opened_now}
use Rattle.branch_bound.proofs.searching.visit_next.Goals as goal

pub returns-then-run-eq0-clause-stands : goal.returns-then-run-eq0-clause-stands
returns-then-run-eq0-clause-stands g c root start before =
    let s = plain_side c.args.task.now.side.now in
    let on = c.args.task.now.on in
    let ranking = c.args.task.now.ranking.now in
    let trail = c.args.trail.now in
    let marks = c.args.node.now.marks.items in
    let run = c.args.run.now in
    let none = c.if-run-eq0.true in
    broken_off (number_at ranking) (IsOpened on s ranking) (Finds on s) root start (breaks_first on s ranking) (breaks_second on s ranking) (steps_on trail) (nodes_on trail) marks run run before.way (finds_none on s marks run (omega (arith, none)))

pub returns-in_ok-close-in-Closed-clause-stands : goal.returns-in_ok-close-in-Closed-clause-stands
returns-in_ok-close-in-Closed-clause-stands g c root start before =
    let s = plain_side c.args.task.now.side.now in
    let on = c.args.task.now.on in
    let ranking = c.args.task.now.ranking.now in
    let trail = c.args.trail.now in
    let marks = c.args.node.now.marks.items in
    let run = c.args.run.now in
    let new = c.visit.new.run in
    let later = c.close.new.trail in
    let node = plain_node c.in-Closed.closed in
    let tree = node_tree node in
    let tried = c.in_ok-closed.ensures.tried in
    let used = tried.left in
    let some = c.if-run-eq0.false in
    let spends : run.left ≡ suc new.left = omega (arith, used, some) in
    let closes = subst (λ (v : Visit). Visits s ranking new.best.gain marks v) c.in-Closed.is c.in_ok-closed.ensures.visits in
    closed_now (number_at ranking) (IsOpened on s ranking) (Finds on s) root start (steps_on trail) (steps_on later) (nodes_on trail) (nodes_on later) marks run new tree c.in_ok-close-in-Closed.ensures.steps (closed_nodes node (nodes_on trail) (nodes_on later) closes.1 c.in_ok-close-in-Closed.ensures.closed) before.way
    (finds_closed on s marks run new tree closes.0 closes.1 spends tried.grows tried.keeps)

pub returns-in_ok-step_to-in-Open-clause-stands : goal.returns-in_ok-step_to-in-Open-clause-stands
returns-in_ok-step_to-in-Open-clause-stands g c root start before =
    let s = plain_side c.args.task.now.side.now in
    let on = c.args.task.now.on in
    let ranking = c.args.task.now.ranking.now in
    let trail = c.args.trail.now in
    let marks = c.args.node.now.marks.items in
    let run = c.args.run.now in
    let new = c.visit.new.run in
    let later = c.step_to.new.trail in
    let place = c.in-Open.place in
    let now = c.fix_one.new.self.marks.items in
    let tried = c.in_ok-closed.ensures.tried in
    let used = tried.left in
    let some = c.if-run-eq0.false in
    let spends : run.left ≡ suc new.left = omega (arith, used, some) in
    let opens = subst (λ (v : Visit). Visits s ranking new.best.gain marks v) c.in-Open.is c.in_ok-closed.ensures.visits in
    let opened : IsOpened on s ranking place marks run new = record { opens = opens; here = tried.here; grows = tried.grows; spends = spends; keeps = tried.keeps } in
    record {
      way = opened_now (number_at ranking) (IsOpened on s ranking) (Finds on s) root start place (steps_on trail) (steps_on later) (nodes_on trail) (nodes_on later) marks now run new c.in_ok-step_to-in-Open.ensures.steps c.in_ok-step_to-in-Open.ensures.closed c.fix_one.ensures.marks before.way opened;
      visit = raised_visit on s ranking new.best.gain marks now place record { place = place + 1; raised = Some (number_at ranking place) } c.requires.tallies.marked opens c.fix_one.ensures.marks refl;
    }
