use Rattle.std.proofs.Common.{ℕ, ◌<◌, ◌≤◌}
use Rattle.reach_graph.specs.Reaching.{HasMark}
use Rattle.dataflow.proofs.registers.lowest_clear.Given as goal

abbrev pub invariant-loop-register : goal.invariant-loop-register
invariant-loop-register l = (x : ℕ) → 5 ≤ x → x < l.register → HasMark l.word x
