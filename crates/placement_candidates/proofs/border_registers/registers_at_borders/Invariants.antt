use Rattle.placement_candidates.specs.Found.{AreLiveAtBorders}
use Rattle.placement_candidates.proofs.border_registers.registers_at_borders.Given as goal

abbrev pub invariant-loop-b : goal.invariant-loop-b
invariant-loop-b l = AreLiveAtBorders l.code l.regions.border.items l.b l.asked.items
