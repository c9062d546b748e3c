use Rattle.std.proofs.Common.{refl, subst, arith}
use Rattle.placement_programme.specs.Views.{plain_side}
use Rattle.certificate_checker.specs.Ways.{text_of, StandsAt}
use Rattle.certificate_checker.proofs.WayLemmas.{at_root, can_advance, walked}
use Rattle.certificate_checker.proofs.text_walk.walk_text.Goals as goal

pub loop-assignment-init : goal.loop-assignment-init
loop-assignment-init c =
    let task = c.args.task.now in
    record {
      stands = at_root (plain_side task.side.now) task.judged task.best task.total c.args.task.now.levels c.args.bytes.now c.args.path.now c.args.assignment.now.marks.items c.first_answer-so_far.result c.requires.free c.first_answer-so_far.ensures;
      depth = omega arith;
      exact = c.requires.exact;
      fresh = c.requires.fresh;
      same = refl;
      last = c.requires.last;
    }

pub advance-requires-clause-step : goal.advance-requires-clause-step
advance-requires-clause-step c =
    let task = c.args.task.now in
    let progress = c.loop-assignment.progress in
    let x = text_of (plain_side task.side.now) task.judged task.best task.total c.args.task.now.levels c.args.bytes.now in
    can_advance x c.loop-assignment.path c.loop-assignment.assignment.marks.items progress.depth progress.ended progress.so_far c.loop-assignment.rest.now
    (λ done. let found = c.is_done.ensures.1 done in let going = c.loop-assignment-test.true in cc)
    c.loop-assignment.invariant.stands

pub returns-clause-walked : goal.returns-clause-walked
returns-clause-walked c =
    let task = c.args.task.now in
    let progress = c.loop-assignment.progress in
    let x = text_of (plain_side task.side.now) task.judged task.best task.total c.args.task.now.levels c.args.bytes.now in
    let done = c.is_done.ensures.0 (let ended = c.loop-assignment-test.false in cc) in
    walked x c.loop-assignment.path c.loop-assignment.assignment.marks.items progress.depth progress.so_far c.loop-assignment.rest.now done.1
    (subst (λ e. StandsAt x c.loop-assignment.path c.loop-assignment.assignment.marks.items progress.depth e progress.so_far c.loop-assignment.rest.now) done.0 c.loop-assignment.invariant.stands)

pub advance-requires-clause-fresh : goal.advance-requires-clause-fresh
advance-requires-clause-fresh c = c.loop-assignment.invariant.fresh
