use Rattle.paid_energy.proofs.RunLemmas.{one_run_until}
use Rattle.paid_energy.proofs.laws.one_run_for.Goals as goal

pub returns : goal.returns
returns c = one_run_until c.one_instruction.ensures
