use Rattle.std.proofs.Common.{◌≡◌, length}
use Rattle.relink_core.proofs.RegionLemmas.{ReportsBelow}
use Rattle.relink_core.proofs.analysis.dead_marks.Given as goal

abbrev pub invariant-loop-b : goal.invariant-loop-b
invariant-loop-b l = record { one_each : length l.marks.items ≡ l.b; each : ReportsBelow l.code l.b l.marks.items }
