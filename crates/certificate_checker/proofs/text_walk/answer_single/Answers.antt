use Rattle.std.proofs.Common.{suc, Err, refl, sym, subst, arith}
use Rattle.placement_programme.specs.Views.{plain_side}
use Rattle.certificate_checker.specs.Reading.{tree_at}
use Rattle.certificate_checker.specs.Loading.{WalksOn, WalksBehind}
use Rattle.certificate_checker.proofs.CreditLemmas.{from_less}
use Rattle.certificate_checker.proofs.text_walk.answer_single.Goals as goal

pub returns-in-Ok-clause-read : goal.returns-in-Ok-clause-read
returns-in-Ok-clause-read c levels =
    let task = c.args.task.now in
    subst (λ o. WalksBehind (plain_side task.side.now) task.best c.args.assignment.now.marks.items o c.args.depth c.walk_single.result (tree_at task.total (suc levels) c.args.bytes.now)) (sym c.in-Ok.is) (c.walk_single.ensures.read levels)

pub returns-in-Ok-skip_single-clause-read : goal.returns-in-Ok-skip_single-clause-read
returns-in-Ok-skip_single-clause-read c levels =
    let task = c.args.task.now in
    let read = c.in-Ok-skip_single.ensures levels in
    (read.0, (read.1, subst (λ o. WalksOn (plain_side task.side.now) task.best c.args.assignment.now.marks.items read.0 o c.args.depth (Err c.in-Err.failing)) (sym c.in-Err.is) refl))

pub returns-in-Ok-skip_single-clause-fresh : goal.returns-in-Ok-skip_single-clause-fresh
returns-in-Ok-skip_single-clause-fresh c = from_less _ _ c.args.prices.now.list.items (omega arith) c.requires.fresh
