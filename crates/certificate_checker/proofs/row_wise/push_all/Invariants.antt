use Rattle.placement_programme.specs.Views.{plain_side}
use Rattle.certificate_checker.specs.RowWise.{plain_rows, AreRowsOf}
use Rattle.certificate_checker.proofs.row_wise.push_all.Given as goal

abbrev pub invariant-loop-number : goal.invariant-loop-number
invariant-loop-number l = AreRowsOf (plain_side l.side).vars l.number (plain_rows l.rows)
