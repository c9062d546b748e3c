use Rattle.std.proofs.Common.{ℕ, ◌<◌}
use Rattle.std.specs.Prelude.{◌↔◌}
use Rattle.reach_graph.specs.Reaching.{HasMark}
use Rattle.code_blocks.specs.declared.parts.Code.{Code}
use Rattle.dataflow.specs.Live.{Live}
use Rattle.dataflow.specs.Tables.{IsTableOf}
use Rattle.placement_candidates.proofs.border_registers.live_registers.Given as goal

abbrev pub invariant-loop-register : goal.invariant-loop-register
invariant-loop-register l = (c : Code) → IsTableOf c l.live → (x : ℕ) → HasMark l.bits x ↔ ((x < l.register) × Live c l.leader x)
