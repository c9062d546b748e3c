use Rattle.dataflow.specs.Transfers.{AddsMarks, IsInWords}
use Rattle.dataflow.proofs.marking.mark_words.Given as goal

abbrev pub invariant-loop-i : goal.invariant-loop-i
invariant-loop-i l = AddsMarks (IsInWords l.graph l.i) l.fn.marks l.marks
