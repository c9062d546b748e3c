use Rattle.std.proofs.Common.{◌≡◌, take}
use Rattle.compare_runner.proofs.judging.first_difference.Given as goal

-- so far they are the same
abbrev pub invariant-loop-i : goal.invariant-loop-i
invariant-loop-i l = take l.i l.first ≡ take l.i l.second
