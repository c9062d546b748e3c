use Rattle.std.proofs.Common.{slice_set, refl, arith}
use Rattle.placement_programme.specs.Views.{plain_side, plain_programme}
use Rattle.certificate_checker.specs.NodeLists.{node_tree}
use Rattle.certificate_checker.specs.NodeViews.{plain_node}
use Rattle.branch_bound.specs.SideStands.{number_itself, IsOpenedBy, FindsBy}
use Rattle.branch_bound.specs.Trails.{steps_on, nodes_on}
use Rattle.branch_bound.specs.Guided.{stand}
use Rattle.branch_bound.specs.declared.side_visiting.Visit.TheVariants.{Closed, Open, Stuck}
use Rattle.certificate_checker.specs.declared.fixings.Fixing.TheVariants.{One}
use Rattle.branch_bound.proofs.GuidedLemmas.{spent_on}
use Rattle.branch_bound.proofs.SideFindLemmas.{beside, finds_spent, finds_stuck, finds_shown, broken_first, broken_second}
use Rattle.branch_bound.proofs.TrailLemmas.{closed_nodes, broken_off, closed_now, opened_now}
use Rattle.branch_bound.proofs.side_searching.visit_next.Goals as goal

pub returns-then-best-eq0-clause-stands : goal.returns-then-best-eq0-clause-stands
returns-then-best-eq0-clause-stands g c root start way =
    let answers = g.G.Guide.answers in
    let p = plain_programme c.args.task.now.programme.now in
    let s = plain_side c.args.task.now.side.now in
    let on = c.args.task.now.on in
    let trail = c.args.trail.now in
    let marks = c.args.marks.now in
    let now = beside c.args.guide.now c.args.best.now in
    let none = c.if-best-eq0.true in
    broken_off number_itself (IsOpenedBy answers p on s) (FindsBy answers p on s) root start (broken_first answers p on s) (broken_second answers p on s) (steps_on trail) (nodes_on trail) marks now now way (finds_spent answers p on s marks now c.requires.ready.sound (omega (arith, none)))

pub returns-in_ok-close-in-Closed-clause-stands : goal.returns-in_ok-close-in-Closed-clause-stands
returns-in_ok-close-in-Closed-clause-stands g c root start way =
    let answers = g.G.Guide.answers in
    let p = plain_programme c.args.task.now.programme.now in
    let s = plain_side c.args.task.now.side.now in
    let on = c.args.task.now.on in
    let trail = c.args.trail.now in
    let marks = c.args.marks.now in
    let old = beside c.args.guide.now c.args.best.now in
    let new = beside c.visit.new.guide c.visit.new.best in
    let later = c.close.new.trail in
    let left = c.in_ok-closed.ensures.left in
    let some = c.if-best-eq0.false in
    let spends = spent_on answers p on s marks (stand c.args.guide.now c.args.best.now) (stand c.visit.new.guide c.visit.new.best) _ (Closed c.in-Closed.closed) c.in-Closed.is c.in_ok-closed.ensures.asks (omega (arith, left, some)) in
    closed_now number_itself (IsOpenedBy answers p on s) (FindsBy answers p on s) root start (steps_on trail) (steps_on later) (nodes_on trail) (nodes_on later) marks old new (node_tree (plain_node c.in-Closed.closed)) c.in_ok-close-in-Closed.ensures.steps (closed_nodes (plain_node c.in-Closed.closed) (nodes_on trail) (nodes_on later) spends.asks.visited.1 c.in_ok-close-in-Closed.ensures.closed) way
    (finds_shown answers p on s marks old new c.in-Closed.closed c.in_ok-closed.ensures.sound spends)

pub returns-in-Stuck-clause-stands : goal.returns-in-Stuck-clause-stands
returns-in-Stuck-clause-stands g c root start way =
    let answers = g.G.Guide.answers in
    let p = plain_programme c.args.task.now.programme.now in
    let s = plain_side c.args.task.now.side.now in
    let on = c.args.task.now.on in
    let trail = c.args.trail.now in
    let marks = c.args.marks.now in
    let old = beside c.args.guide.now c.args.best.now in
    let new = beside c.visit.new.guide c.visit.new.best in
    let left = c.in_ok-closed.ensures.left in
    let some = c.if-best-eq0.false in
    let spends = spent_on answers p on s marks (stand c.args.guide.now c.args.best.now) (stand c.visit.new.guide c.visit.new.best) _ Stuck c.in-Stuck.is c.in_ok-closed.ensures.asks (omega (arith, left, some)) in
    broken_off number_itself (IsOpenedBy answers p on s) (FindsBy answers p on s) root start (broken_first answers p on s) (broken_second answers p on s) (steps_on trail) (nodes_on trail) marks old new way (finds_stuck answers p on s marks old new c.in_ok-closed.ensures.sound spends)

pub returns-in_ok-step_to-in-Open-clause-stands : goal.returns-in_ok-step_to-in-Open-clause-stands
returns-in_ok-step_to-in-Open-clause-stands g c root start way =
    let answers = g.G.Guide.answers in
    let p = plain_programme c.args.task.now.programme.now in
    let s = plain_side c.args.task.now.side.now in
    let on = c.args.task.now.on in
    let trail = c.args.trail.now in
    let marks = c.args.marks.now in
    let old = beside c.args.guide.now c.args.best.now in
    let new = beside c.visit.new.guide c.visit.new.best in
    let later = c.step_to.new.trail in
    let var = c.in-Open.var in
    let left = c.in_ok-closed.ensures.left in
    let some = c.if-best-eq0.false in
    let spends = spent_on answers p on s marks (stand c.args.guide.now c.args.best.now) (stand c.visit.new.guide c.visit.new.best) _ (Open var) c.in-Open.is c.in_ok-closed.ensures.asks (omega (arith, left, some)) in
    opened_now number_itself (IsOpenedBy answers p on s) (FindsBy answers p on s) root start var (steps_on trail) (steps_on later) (nodes_on trail) (nodes_on later) marks (slice_set marks var One) old new c.in_ok-step_to-in-Open.ensures.steps c.in_ok-step_to-in-Open.ensures.closed refl way record { spends = spends }
