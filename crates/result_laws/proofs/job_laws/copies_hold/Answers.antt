use Rattle.result_laws.proofs.CopyWords.{copies_hold_so}
use Rattle.result_laws.proofs.job_laws.copies_hold.Goals as goal

pub returns : goal.returns
returns c = copies_hold_so
