use Rattle.std.proofs.Common.{◌+◌, length, arith}
use Rattle.std.proofs.lemmas.List.{length-map}
use Rattle.placement_programme.specs.Views.{plain_side}
use Rattle.certificate_checker.specs.RowWise.{plain_rows, row_items}
use Rattle.certificate_checker.proofs.RowWiseLemmas.{rows_entered}
use Rattle.certificate_checker.proofs.row_wise.push_all.Goals as goal

pub loop-number-preserved : goal.loop-number-preserved
loop-number-preserved c =
    let side = plain_side c.args.side.now in
    let n = c.loop-number.number in
    let ws = c.weights_of_var.result.now in
    let old = length-map c.loop-number.rows row_items in
    let new = length-map c.push_weights.new.rows row_items in
    let same = c.push_weights.auto.rows in
    rows_entered side.vars n (n + 1) (length side.rows) (plain_rows c.loop-number.rows) (plain_rows c.push_weights.new.rows) ws (omega arith) c.weights_of_var.ensures.value c.weights_of_var.ensures.rows (omega (arith, old, new, same)) c.loop-number.invariant c.in_ok-push_weights.ensures
