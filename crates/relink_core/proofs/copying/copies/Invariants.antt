use Rattle.std.proofs.Common.{take}
use Rattle.relink_core.specs.Copies.{ArePlacedCopies}
use Rattle.relink_core.proofs.copying.copies.Given as goal

abbrev pub invariant-loop-k : goal.invariant-loop-k
invariant-loop-k l = ArePlacedCopies l.source (take l.k l.ranges) (take l.k l.places) l.copies.items
