use Rattle.object_graph.specs.declared.parts.Graph.{Graph}
use Rattle.energy_model.specs.Counts.{CountsCode, AreListedCounts}
use Rattle.energy_model.specs.Stretches.{AreStretches}
use Rattle.energy_model.proofs.stretches.stretches.Given as goal

abbrev pub invariant-loop-k : goal.invariant-loop-k
invariant-loop-k l = (g : Graph) → CountsCode l.code g l.profile → AreListedCounts l.code g l.profile l.counts → AreStretches l.code g l.profile l.k l.made.items
