use Rattle.compare_runner.proofs.LawLemmas as law
use Rattle.compare_runner.proofs.trace_laws.one_trace.Goals as goal

pub returns : goal.returns
returns c = law.one_trace c.one_instruction.ensures
