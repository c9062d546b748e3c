use Rattle.std.proofs.Common.{ℕ, if◌then◌else◌, subst, ap, arith}
use Rattle.placement_programme.specs.Views.{plain_side}
use Rattle.certificate_checker.specs.Ways.{text_of, StandsAt, CanRise, IfEnded}
use Rattle.certificate_checker.proofs.text_walk.advance.Goals as goal

pub leave-requires-clause-step : goal.leave-requires-clause-step
leave-requires-clause-step c =
    let progress = c.args.progress in
    subst (λ e. IfEnded e (CanRise (plain_side c.args.task.now.side.now) c.args.path.now progress.depth progress.so_far)) c.if-progress.true c.requires.step

pub returns-then-progress-clause-reads : goal.returns-then-progress-clause-reads
returns-then-progress-clause-reads c all b =
    let task = c.args.task.now in
    let progress = c.args.progress in
    let x = text_of (plain_side task.side.now) task.judged task.best task.total c.args.task.now.levels all in
    c.leave.ensures.stands x c.args.bytes.now
    (subst (λ e. StandsAt x c.args.path.now c.args.assignment.now.marks.items progress.depth e progress.so_far c.args.bytes.now) c.if-progress.true b)

pub returns-then-progress-clause-left : goal.returns-then-progress-clause-left
returns-then-progress-clause-left c =
    let one = ap {B = ℕ} (λ b. if b then 1 else 0) c.if-progress.true in
    let less = c.leave.ensures.left c.args.bytes.now in
    omega (arith, one, less)

pub returns-clause-reads : goal.returns-clause-reads
returns-clause-reads c all b =
    let task = c.args.task.now in
    let progress = c.args.progress in
    let x = text_of (plain_side task.side.now) task.judged task.best task.total c.args.task.now.levels all in
    c.read_node.ensures.reads all
    (subst (λ e. StandsAt x c.args.path.now c.args.assignment.now.marks.items progress.depth e progress.so_far c.args.bytes.now) c.if-progress.false b)

pub returns-clause-left : goal.returns-clause-left
returns-clause-left c = c.read_node.ensures.left c.if-progress.false
