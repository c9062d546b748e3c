use Rattle.std.proofs.Common.{take}
use Rattle.certificate_checker.specs.RowWise.{plain_rows, Enters}
use Rattle.certificate_checker.proofs.row_wise.push_weights.Given as goal

abbrev pub invariant-loop-entry : goal.invariant-loop-entry
invariant-loop-entry l = Enters l.number (take l.entry-index l.weights) (plain_rows l.fn.rows) (plain_rows l.rows)
