use Rattle.energy_model.specs.Counts.{AreComing}
use Rattle.energy_model.proofs.edges.coming.Given as goal

abbrev pub invariant-loop-j : goal.invariant-loop-j
invariant-loop-j l = AreComing l.edges l.blocks l.j l.counts.items
