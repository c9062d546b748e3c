use Rattle.std.proofs.Common.{take}
use Rattle.region_former.specs.Propagation.{Propagates}
use Rattle.region_former.proofs.propagation.propagate.Given as goal

abbrev pub invariant-loop-function : goal.invariant-loop-function
invariant-loop-function l = Propagates l.initial.marks l.initial.waiting.items (take l.function-index l.functions) l.by l.marks l.waiting.items
