use Rattle.std.proofs.Common.{◌≡◌, ◌+◌, ◌<◌, [], false}
use Rattle.branch_bound.specs.Ranking.{number_at}
use Rattle.branch_bound.specs.Trails.{steps_on, nodes_on}
use Rattle.branch_bound.specs.Stands.{ahead, is_ended}
use Rattle.branch_bound.specs.declared.running.Running.{Running}
use Rattle.branch_bound.specs.declared.stands.Stand.{Stand}
use Rattle.branch_bound.specs.declared.stands.Stand.TheVariants.{Behind}
use Rattle.branch_bound.proofs.FindLemmas.{OpenedIn, FoundIn, stands_behind, ended_ahead, less_ahead}
use Rattle.branch_bound.proofs.TrailLemmas.{behind_same, whole_found, if_ok_more}
use Rattle.branch_bound.proofs.searching.advance.Goals as goal

pub returns-in-None-clause-stands : goal.returns-in-None-clause-stands
returns-in-None-clause-stands g c root start stands =
    let task = c.args.task.now in
    let number = number_at task.ranking.now in
    let later = nodes_on c.step_back.new.trail in
    let marks = c.args.node.now.marks.items in
    let behind = behind_same number (OpenedIn task) (FoundIn task) root start (steps_on c.args.trail.now) [] (nodes_on c.args.trail.now) later marks c.args.run.now c.in-None.ensures.steps.0 c.in-None.ensures.closed (stands_behind task root start c.args.trail.now marks c.args.run.now c.args.stand c.in-Behind.is stands) in
    whole_found number (OpenedIn task) (FoundIn task) root start later marks c.args.run.now behind

pub returns-in-None-clause-ahead : goal.returns-in-None-clause-ahead
returns-in-None-clause-ahead g c =
    λ going. ended_ahead c.args.run.now c.args.trail.now c.step_back.new.trail c.args.stand c.in-Behind.is c.in-None.ensures.steps.1

pub returns-in-Some-clause-ahead : goal.returns-in-Some-clause-ahead
returns-in-Some-clause-ahead g c =
    if_ok_more (λ (next : Stand). (run : Running) → ahead run c.leave.new.trail next < ahead run c.step_back.new.trail Behind + 3)
    (λ (next : Stand). is_ended c.args.stand ≡ false → ahead c.args.run.now c.leave.new.trail next < ahead c.args.run.now c.args.trail.now c.args.stand)
    c.leave.result
    (λ next less going. less_ahead c.args.run.now c.args.trail.now c.step_back.new.trail c.leave.new.trail c.in-Some.last c.args.stand next c.in-Behind.is c.in-Some.ensures.steps (less c.args.run.now))
    c.leave.ensures.ahead
