use Rattle.points_to.specs.Tables.{Begins}
use Rattle.points_to.proofs.starting.begin_marks.Given as goal

abbrev pub invariant-loop-k : goal.invariant-loop-k
invariant-loop-k l = Begins l.first l.k l.marks
