use Rattle.certificate_checker.specs.Rooms.{RoomFits}
use Rattle.solver_bench.proofs.asking.tell_asked.Given as goal

abbrev pub invariant-loop-line : goal.invariant-loop-line
invariant-loop-line g l = RoomFits l.p l.room
