use Rattle.std.proofs.Common.{◌≡◌}
use Rattle.energy_model.specs.Copied.{edges_before, values}
use Rattle.energy_model.proofs.edges.edge_starts.Given as goal

abbrev pub invariant-loop-a : goal.invariant-loop-a
invariant-loop-a l = l.starts.items ≡ values (edges_before l.edges) l.a
