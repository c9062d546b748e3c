use Rattle.std.proofs.Common.{ap, ◌∙◌}
use Rattle.workload_gen.specs.Built.{built}
use Rattle.workload_gen.proofs.generating.workload.Goals as goal

pub returns : goal.returns
returns c = c.in_ok-bytes.ensures ∙ ap built c.in_ok-spec.ensures
