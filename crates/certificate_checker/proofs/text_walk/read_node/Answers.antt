use Rattle.std.proofs.Common.{◌∙◌, ◌-◌, ◌<◌, ◌∷◌, sym, ap, subst, arith}
use Rattle.std.proofs.lemmas.Result.{err_from_is_err_and}
use Rattle.placement_programme.specs.Views.{plain_side}
use Rattle.std.specs.Result.{IfOk}
use Rattle.certificate_checker.specs.Ways.{text_of, IsBefore, left}
use Rattle.certificate_checker.proofs.StreamLemmas.{tree_cut, tree_below, heads}
use Rattle.certificate_checker.proofs.WayLemmas.{read_fault}
use Rattle.certificate_checker.proofs.text_walk.read_node.Goals as goal

pub returns-in_err-tag-clause-reads : goal.returns-in_err-tag-clause-reads
returns-in_err-tag-clause-reads c =
    let p = err_from_is_err_and c.from_residual.result c.from_residual.ensures.1 in
    let task = c.args.task.now in
    let progress = c.args.progress in
    rw (p.1, p.2) (λ all before.
    read_fault (text_of (plain_side task.side.now) task.judged task.best task.total c.args.task.now.levels all) c.args.path.now c.args.assignment.now.marks.items progress.depth progress.so_far c.args.bytes.now c.in_err-tag.field-0.0 before
    (tree_cut task.total (c.args.task.now.levels - progress.depth) c.args.bytes.now c.in_err-tag.field-0.0 c.in_err-tag.ensures.0 c.in_err-tag.ensures.1))

pub returns-then-progress-task-clause-reads : goal.returns-then-progress-task-clause-reads
returns-then-progress-task-clause-reads c all before =
    let task = c.args.task.now in
    let progress = c.args.progress in
    let last = c.if-progress-task.true in
    read_fault (text_of (plain_side task.side.now) task.judged task.best task.total c.args.task.now.levels all) c.args.path.now c.args.assignment.now.marks.items progress.depth progress.so_far c.args.bytes.now c.below_all.result before
    (tree_below task.total (c.args.task.now.levels - progress.depth) c.args.bytes.now c.in_ok-tag.tag c.in_ok-tag.rest.now c.below_all.result (omega (arith, last)) c.in_ok-tag.ensures c.below_all.ensures)

pub returns-then-tag-eq0-clause-reads : goal.returns-then-tag-eq0-clause-reads
returns-then-tag-eq0-clause-reads c all before =
    let task = c.args.task.now in
    let progress = c.args.progress in
    let x = text_of (plain_side task.side.now) task.judged task.best task.total c.args.task.now.levels all in
    let most = c.requires.depth in
    let other = c.if-progress-task.false in
    let zeroed = c.in_ok-tag.ensures ∙ ap (λ b. b ∷ c.in_ok-tag.rest.now) c.if-tag-eq0.true in
    c.read_branch.ensures.reads c.args.task.now.levels all (omega (arith, most, other))
    (subst (λ bs. IsBefore x c.args.path.now c.args.assignment.now.marks.items progress.depth progress.so_far bs) zeroed before)

pub returns-then-tag-eq0-clause-left : goal.returns-then-tag-eq0-clause-left
returns-then-tag-eq0-clause-left c reading =
    let zeroed = c.in_ok-tag.ensures ∙ ap (λ b. b ∷ c.in_ok-tag.rest.now) c.if-tag-eq0.true in
    subst (λ bs. IfOk c.read_branch.result (λ r. left r.0 r.1.now < left c.args.progress bs)) (sym zeroed) c.read_branch.ensures.left

pub returns-then-tag-eq0-clause-depth : goal.returns-then-tag-eq0-clause-depth
returns-then-tag-eq0-clause-depth c =
    let most = c.requires.depth in
    let other = c.if-progress-task.false in
    c.read_branch.ensures.depth c.args.task.now.levels (omega (arith, most, other))

pub read_single-requires-clause-tag : goal.read_single-requires-clause-tag
read_single-requires-clause-tag c rest is =
    c.if-tag-eq0.false (heads c.in_ok-tag.tag 0 c.in_ok-tag.rest.now rest (sym c.in_ok-tag.ensures ∙ is))

pub returns-clause-reads : goal.returns-clause-reads
returns-clause-reads c all before =
    let most = c.requires.depth in
    let other = c.if-progress-task.false in
    c.read_single.ensures.reads c.args.task.now.levels all (omega (arith, most, other)) before

pub returns-clause-depth : goal.returns-clause-depth
returns-clause-depth c =
    let most = c.requires.depth in
    let other = c.if-progress-task.false in
    c.read_single.ensures.depth c.args.task.now.levels (omega (arith, most, other))
