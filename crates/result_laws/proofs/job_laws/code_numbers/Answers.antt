use Rattle.result_laws.proofs.JobNumbers.{code_numbers_so}
use Rattle.result_laws.proofs.job_laws.code_numbers.Goals as goal

pub returns : goal.returns
returns c = code_numbers_so
