use Rattle.dataflow.specs.Transfers.{AddsMarks, MakesInBlocks}
use Rattle.dataflow.proofs.marking.mark_made.Given as goal

abbrev pub invariant-loop-b : goal.invariant-loop-b
invariant-loop-b l = AddsMarks (MakesInBlocks l.code l.graph.sites.items l.behind l.b) l.fn.marks l.marks
