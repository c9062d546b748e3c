use Rattle.std.proofs.Common.{arith}
use Rattle.energy_model.specs.Copied.{edges_before}
use Rattle.energy_model.proofs.EdgeLemmas.{one_value_more}
use Rattle.energy_model.proofs.edges.edge_starts.Goals as goal

pub returns : goal.returns
returns c = one_value_more (edges_before c.args.edges.now) c.args.blocks c.loop-a.starts.items c.loop-a.a (grind arith) c.loop-a.invariant
