use Rattle.std.proofs.Common.{inr}
use Rattle.std.proofs.lemmas.Result.{err_from_is_err_and}
use Rattle.code_blocks.proofs.CodeLemmas.{third_fault}
use Rattle.code_blocks.proofs.building.blocks.Goals as goal

pub returns-in_err-check_count-clause-fault : goal.returns-in_err-check_count-clause-fault
returns-in_err-check_count-clause-fault c =
    let p = err_from_is_err_and c.from_residual-in_err-check_count.result c.from_residual-in_err-check_count.ensures.1 in
    rw (p.1, p.2)
    (inr (third_fault _ _ _ _ (rw c.in-Ok.ensures at c.in_ok-check_entry.ensures) c.in_err-check_count.ensures))
