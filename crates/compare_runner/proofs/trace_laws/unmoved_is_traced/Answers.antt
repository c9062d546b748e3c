use Rattle.compare_runner.proofs.HomeForms.{no_unit}
use Rattle.compare_runner.proofs.UnmovedRuns as runs
use Rattle.compare_runner.proofs.trace_laws.unmoved_is_traced.Goals as goal

pub returns : goal.returns
returns c = runs.unmoved_is_traced no_unit
