use Rattle.energy_model.specs.Stretches.{AreReached}
use Rattle.energy_model.proofs.stretches.reach_of.Given as goal

abbrev pub invariant-loop-j : goal.invariant-loop-j
invariant-loop-j l = AreReached l.code l.profile.edges.items l.b l.j l.reach
