use Rattle.compare_runner.proofs.LawLemmas as law
use Rattle.compare_runner.proofs.trace_laws.traced_steps_are_few.Goals as goal

pub returns : goal.returns
returns c = law.steps_are_few
