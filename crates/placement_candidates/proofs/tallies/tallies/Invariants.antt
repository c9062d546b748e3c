use Rattle.placement_candidates.specs.Tallies.{AreTallies}
use Rattle.placement_candidates.proofs.tallies.tallies.Given as goal

abbrev pub invariant-loop-k : goal.invariant-loop-k
invariant-loop-k l = AreTallies l.m l.k l.made.items
