use Rattle.std.proofs.Common.{drop}
use Rattle.dataflow.specs.Transfers.{AddsMarks, AreBefore, MakesInto}
use Rattle.dataflow.proofs.marking.mark_units.Given as goal

-- the units from k on are done
abbrev pub invariant-loop-k : goal.invariant-loop-k
invariant-loop-k l =
    AreBefore l.graph.sites.items (drop l.k l.units) l.behind l.word
    × AddsMarks (MakesInto l.graph.sites.items (drop l.k l.units) l.behind) l.fn.marks l.marks
