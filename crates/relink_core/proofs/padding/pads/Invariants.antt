use Rattle.relink_core.proofs.PadsMade.{ArePadsTo}
use Rattle.relink_core.proofs.padding.pads.Given as goal

abbrev pub invariant-loop-k : goal.invariant-loop-k
invariant-loop-k l = ArePadsTo l.homes l.stub_at l.k l.pads.items
