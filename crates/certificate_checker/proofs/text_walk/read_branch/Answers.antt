use Rattle.std.proofs.Common.{◌+◌, refl, arith}
use Rattle.std.proofs.lemmas.Result.{err_from_is_err_and}
use Rattle.placement_programme.specs.Views.{plain_side}
use Rattle.certificate_checker.specs.Ways.{text_of}
use Rattle.certificate_checker.proofs.WayLemmas.{branch_fault, entered, number_shorter}
use Rattle.certificate_checker.proofs.text_walk.read_branch.Goals as goal

pub returns-in_err-var-clause-reads : goal.returns-in_err-var-clause-reads
returns-in_err-var-clause-reads c =
    let p = err_from_is_err_and c.from_residual.result c.from_residual.ensures.1 in
    let task = c.args.task.now in
    rw (p.1, p.2) (λ levels all deep before.
    branch_fault (text_of (plain_side task.side.now) task.judged task.best task.total levels all) c.args.path.now c.args.assignment.now.marks.items c.args.progress.depth c.args.progress.so_far c.args.bytes.now c.in_err-var.field-0.0 deep c.in_err-var.ensures before)

pub returns-clause-reads : goal.returns-clause-reads
returns-clause-reads c levels all deep before =
    let task = c.args.task.now in
    let progress = c.args.progress in
    entered (text_of (plain_side task.side.now) task.judged task.best task.total levels all) c.args.path.now c.args.assignment.now.marks.items c.enter-so_far.new.path c.enter-so_far.new.assignment.marks.items progress.depth (progress.depth + 1) progress.so_far c.enter-so_far.result c.args.bytes.now c.in_ok-var.var c.in_ok-var.rest.now deep refl c.in_ok-var.ensures before
    (c.enter-so_far.ensures.so_far task.judged task.best before.way before.long before.so_far)

pub returns-clause-left : goal.returns-clause-left
returns-clause-left c =
    let shorter = number_shorter c.args.task.now.total c.args.bytes.now c.in_ok-var.var c.in_ok-var.rest.now (λ i. omega (arith, c.type_inv.bytes i)) c.in_ok-var.ensures in
    omega (arith, shorter)

pub returns-clause-shorter : goal.returns-clause-shorter
returns-clause-shorter c =
    number_shorter c.args.task.now.total c.args.bytes.now c.in_ok-var.var c.in_ok-var.rest.now (λ i. omega (arith, c.type_inv.bytes i)) c.in_ok-var.ensures
