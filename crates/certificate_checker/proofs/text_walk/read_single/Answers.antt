use Rattle.std.proofs.Common.{◌∙◌, ◌-◌, suc, ap, arith}
use Rattle.std.proofs.lemmas.Result.{err_from_is_err_and}
use Rattle.placement_programme.specs.Views.{plain_side}
use Rattle.certificate_checker.specs.Reading.{tree_at}
use Rattle.certificate_checker.specs.Ways.{text_of}
use Rattle.certificate_checker.proofs.CreditLemmas.{from_less}
use Rattle.certificate_checker.proofs.WayLemmas.{read_fault, levels_left, single_read, tree_shorter}
use Rattle.certificate_checker.proofs.text_walk.read_single.Goals as goal

pub returns-in_err-so_far-clause-reads : goal.returns-in_err-so_far-clause-reads
returns-in_err-so_far-clause-reads c =
    let p = err_from_is_err_and c.from_residual.result c.from_residual.ensures.1 in
    let task = c.args.task.now in
    let depth = c.args.progress.depth in
    let bytes = c.args.bytes.now in
    rw (p.1, p.2) (λ levels all deep before.
    read_fault (text_of (plain_side task.side.now) task.judged task.best task.total levels all) c.args.path.now c.args.assignment.now.marks.items depth c.args.progress.so_far bytes c.in_err-so_far.field-0.0 before
    (ap (λ n. tree_at task.total n bytes) (levels_left levels depth deep) ∙ c.in_err-so_far.ensures.read (levels - suc depth)))

pub returns-clause-reads : goal.returns-clause-reads
returns-clause-reads c levels all deep before =
    let task = c.args.task.now in
    let progress = c.args.progress in
    let bytes = c.args.bytes.now in
    let x = text_of (plain_side task.side.now) task.judged task.best task.total levels all in
    let walked = c.in_ok-so_far.ensures.read (levels - suc progress.depth) in
    let read = ap (λ n. tree_at task.total n bytes) (levels_left levels progress.depth deep) ∙ walked.1.0 in
    single_read x c.args.path.now c.args.assignment.now.marks.items progress.depth progress.so_far c.in_ok-so_far.so_far bytes c.in_ok-so_far.rest.now walked.0 read walked.1.1 before

pub returns-clause-left : goal.returns-clause-left
returns-clause-left c reading =
    let walked = c.in_ok-so_far.ensures.read 0 in
    let shorter = tree_shorter c.args.task.now.total 1 c.args.bytes.now walked.0 c.in_ok-so_far.rest.now (λ i. omega (arith, c.type_inv.bytes i)) walked.1.0 in
    omega (arith, shorter)

pub returns-clause-fresh : goal.returns-clause-fresh
returns-clause-fresh c =
    let walked = c.in_ok-so_far.ensures.read 0 in
    let shorter = tree_shorter c.args.task.now.total 1 c.args.bytes.now walked.0 c.in_ok-so_far.rest.now (λ i. omega (arith, c.type_inv.bytes i)) walked.1.0 in
    from_less _ _ c.answer_single.new.prices.list.items (omega (arith, shorter)) c.answer_single.ensures.fresh
