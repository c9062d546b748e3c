use Rattle.compare_runner.proofs.LawLemmas as law
use Rattle.compare_runner.proofs.trace_laws.traces_are_whole.Goals as goal

pub returns : goal.returns
returns c = law.traces_are_whole c.one_instruction.ensures
